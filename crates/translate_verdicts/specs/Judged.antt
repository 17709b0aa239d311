-- The verdict on a frame, from any reader to any writer.
use Rattle.std.specs.Prelude.{◌≡◌, ℕ, List, [], ◌++◌, Option, Some, None, is_some, Ok, Err, if◌then◌else◌}
use Rattle.protocol_traits.specs.Heads.{Header}
use Rattle.protocol_traits.specs.Steps.{Step}
use Rattle.protocol_traits.specs.declared.traits.ReadRules.{Ghosts as ReadRules}
use Rattle.protocol_traits.specs.declared.traits.WireWrite.{Ghosts as WriteRules}
use Rattle.type_tables.specs.Declarations.{Declarations}
use Rattle.type_walk.specs.Positions.{Position}
use Rattle.translate_verdicts.specs.declared.verdict.Cause.{Cause}
use Rattle.translate_verdicts.specs.declared.verdict.Cause.TheVariants.{Grammar}
use Rattle.translate_verdicts.specs.declared.verdict.HeadInfo.{HeadInfo}
use Rattle.translate_verdicts.specs.declared.verdict.Verdict.{Verdict}
use Rattle.translate_verdicts.specs.declared.verdict.Verdict.TheVariants.{Passed, Refused, Unread}
use Rattle.translate_verdicts.specs.declared.route.Route.{Route}
use Rattle.translate_verdicts.specs.Positions.{Positions, typed}
use Rattle.translate_verdicts.specs.Routes.{start_of, info_of}
use Rattle.translate_verdicts.specs.Body.{Source, TargetRules, Ended, going, whole, first_cause, source_in, target_in, ended_from}

-- the verdict and the bytes that are written
pub record Judged : Type 0 where
  pub verdict : Verdict
  pub bytes : List ℕ

abbrev pub judged : Verdict → List ℕ → Judged
judged verdict bytes = record { verdict = verdict; bytes = bytes }

-- the message passes, unless something stands against it
abbrev pub passed_or : HeadInfo → Option Cause → Verdict
passed_or info (Some cause) = Refused info cause
passed_or info None = Passed info

-- what of the written bytes is kept
abbrev pub kept : Verdict → List ℕ → List ℕ
kept (Passed info) bytes = bytes
kept (Refused info cause) bytes = []
kept (Unread f) bytes = []

-- a fault goes before a bar
abbrev pub at_end : {S : Type 0} → HeadInfo → Option Cause → Step S (Unit {0}) → Verdict
at_end info cause (Ok x) = passed_or info cause
at_end info cause (Err f) = Refused info (Grammar f)

abbrev pub after_body : {S P T : Type 0} → Source S → HeadInfo → Ended S P T → Verdict
after_body source info (Ok g) = at_end info g.cause (source.reads_end g.reader)
after_body source info (Err f) = Refused info (Grammar f)

abbrev pub body_bytes : {S P T : Type 0} → Ended S P T → List ℕ
body_bytes (Ok g) = g.bytes
body_bytes (Err f) = []

module _ {S P T : Type 0} (source : Source S) (positions : Positions P) (start : Header → P) (info : Header → HeadInfo) (target : TargetRules T) where
  abbrev pub head_cause : Header → S → Option Cause
  head_cause h s = first_cause None (target.name_bar h.name) (source.place s)

  abbrev pub head_bytes : Header → List ℕ
  head_bytes h = if is_some (target.name_bar h.name) then [] else target.plain_head h

  abbrev pub body_of : Header × S → Ended S P T
  body_of x = whole source positions target (going x.1 (start x.0) target.begun 1 (head_cause x.0 x.1) [])

  abbrev pub after_head : Step S Header → Judged
  after_head (Ok x) =
      let verdict = after_body source (info x.0) (body_of x) in
      judged verdict (kept verdict (head_bytes x.0 ++ body_bytes (body_of x)))
  after_head (Err f) = judged (Unread f) []

  -- the frame's header, its items to the end of the body, and its end
  unfoldable pub judge : List ℕ → Judged
  judge frame = after_head (source.reads_head (source.begun frame))

-- the code's answer, and what the output has grown by
abbrev pub IsJudged : Verdict → List ℕ → List ℕ → Judged → Type 0
IsJudged verdict old new j = (j.verdict ≡ verdict) × (new ≡ old ++ j.bytes)

-- the verdict is that the message passed, and of its header this is told
abbrev pub IsPassed : HeadInfo → List ℕ → List ℕ → Judged → Type 0
IsPassed info old new j = IsJudged (Passed info) old new j

-- where the message does not pass the output is as it was
abbrev pub IsLeft : Verdict → List ℕ → List ℕ → Type 0
IsLeft (Passed info) old new = Unit {0}
IsLeft (Refused info cause) old new = new ≡ old
IsLeft (Unread f) old new = new ≡ old

-- the output has grown, where the message passed by these bytes
abbrev pub Grows : Verdict → List ℕ → List ℕ → List ℕ → Type 0
Grows verdict old new bytes = (added : List ℕ) × (new ≡ old ++ added) × (kept verdict added ≡ kept verdict bytes)

-- ---- by the rules of any reader and any writer

-- these bytes, and behind them a header, unless its name is barred
abbrev pub with_head : {T : Type 0} → WriteRules T → Header → List ℕ → List ℕ
with_head rules h bytes = if is_some (rules.name_bar h.name) then bytes else bytes ++ rules.plain_head h

module _ {S T : Type 0} (reads : ReadRules S) (writes : WriteRules T) where
  -- the verdict on a frame by what is declared and by the route
  abbrev pub judged_frame : Declarations → Route → List ℕ → Judged
  judged_frame d route frame = judge (source_in reads) typed (start_of d route) (info_of d route) (target_in writes) frame

  -- the verdict behind a header that tells this, on a body whose first item stands next
  abbrev pub verdict_from : HeadInfo → S → Position → T → Option Cause → Verdict
  verdict_from info reader position writer cause = after_body (source_in reads) info (ended_from reads writes reader position writer cause)

  -- what is written of that body
  abbrev pub bytes_from : S → Position → T → Option Cause → List ℕ
  bytes_from reader position writer cause = body_bytes (ended_from reads writes reader position writer cause)

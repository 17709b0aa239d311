-- A message for one that serves a single service: its header has the method's name alone (Apache Thrift, TMultiplexedProtocol).
use Rattle.std.specs.Prelude.{ℕ, List, [], ◌++◌, Option, Some, None, is_some, Ok, Err, if◌then◌else◌}
use Rattle.protocol_traits.specs.declared.fault.Bar.{Bar}
use Rattle.protocol_traits.specs.Heads.{Header}
use Rattle.protocol_traits.specs.Steps.{Step}
use Rattle.multiplex_names.specs.Names.{split_of}
use Rattle.protocol_traits.specs.declared.traits.ReadRules.{Ghosts as ReadRules}
use Rattle.protocol_traits.specs.declared.traits.WireWrite.{Ghosts as WriteRules}
use Rattle.type_tables.specs.Declarations.{Declarations}
use Rattle.translate_verdicts.specs.declared.verdict.HeadInfo.{HeadInfo}
use Rattle.translate_verdicts.specs.declared.verdict.Verdict.TheVariants.{Unread}
use Rattle.translate_verdicts.specs.declared.route.Route.{Route}
use Rattle.translate_verdicts.specs.Positions.{Positions, typed}
use Rattle.translate_verdicts.specs.Routes.{start_of, info_of}
use Rattle.translate_verdicts.specs.Body.{Source, TargetRules, source_in, target_in}
use Rattle.translate_verdicts.specs.Judged.{Judged, judged, kept, after_body, body_of, body_bytes}
use Rattle.translate_core.specs.Answers.{spellable}

-- the same header with the name behind the first colon, or the whole one where it has none
abbrev pub method_header : (List ℕ → Option Bar) → Header → Header
method_header name_bar h = record { name = spellable name_bar (split_of h.name).1; mtype = h.mtype; seq = h.seq }

-- The verdict is that on the message as it came; only the header that is written differs.
module _ {S P T : Type 0} (source : Source S) (positions : Positions P) (start : Header → P) (info : Header → HeadInfo) (target : TargetRules T) where
  abbrev pub method_bytes : Header → List ℕ
  method_bytes h = if is_some (target.name_bar h.name) then [] else target.plain_head (method_header target.name_bar h)

  abbrev pub after_method : Step S Header → Judged
  after_method (Ok x) =
      let verdict = after_body source (info x.0) (body_of source positions start info target x) in
      judged verdict (kept verdict (method_bytes x.0 ++ body_bytes (body_of source positions start info target x)))
  after_method (Err f) = judged (Unread f) []

  unfoldable pub judge_method : List ℕ → Judged
  judge_method frame = after_method (source.reads_head (source.begun frame))

-- these bytes, and behind them a header with the method's name alone, unless its whole name is barred
abbrev pub with_method_head : {T : Type 0} → WriteRules T → Header → List ℕ → List ℕ
with_method_head rules h bytes = if is_some (rules.name_bar h.name) then bytes else bytes ++ rules.plain_head (method_header rules.name_bar h)

-- the verdict on a frame by the rules of any reader and any writer, by what is declared and by the route
abbrev pub judged_method : {S T : Type 0} → ReadRules S → WriteRules T → Declarations → Route → List ℕ → Judged
judged_method reads writes d route frame = judge_method (source_in reads) typed (start_of d route) (info_of d route) (target_in writes) frame

-- the name in a header that was read
abbrev pub name_in : {S : Type 0} → Step S Header → Option (List ℕ)
name_in (Ok x) = Some x.0.name
name_in (Err f) = None

abbrev pub target_for : (List ℕ → Option ℕ) → Option (List ℕ) → Option ℕ
target_for serves None = None
target_for serves (Some service) = serves service

-- the target that serves a name: none where no service stands before the method, or none serves that
abbrev pub target_of_name : (List ℕ → Option ℕ) → Option (List ℕ) → Option ℕ
target_of_name serves None = None
target_of_name serves (Some name) = target_for serves (split_of name).0

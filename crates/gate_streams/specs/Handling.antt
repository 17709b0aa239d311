-- What is written and reported of the messages of a stream, each a frame or a line.
use Rattle.std.specs.Prelude.{ℕ, ◌+◌, List, [], ◌∷◌, ◌++◌, Bool, true, false, ◌||◌, not}
use Rattle.line_transport.specs.Cuts.{sent}
use Rattle.line_transport.specs.declared.transport.Transport.{Transport}
use Rattle.message_show.specs.Shown.{Showing, Line}
use Rattle.message_show.specs.Shown as showing
use Rattle.conform_check.specs.Checking.{Broken, Finding}
use Rattle.conform_check.specs.Checking as findings
use Rattle.translate_verdicts.specs.declared.verdict.Verdict.{Verdict}
use Rattle.translate_verdicts.specs.declared.verdict.Verdict.TheVariants as verdicts
use Rattle.translate_verdicts.specs.declared.verdict.Cause.{Cause}
use Rattle.translate_verdicts.specs.declared.verdict.Cause.TheVariants.{Grammar}
use Rattle.translate_verdicts.specs.Judged.{Judged}
use Rattle.translate_verdicts.specs.Texts.{cause_text, place_of}
use Rattle.gate_streams.specs.declared.task.Doing.{Doing}
use Rattle.gate_streams.specs.declared.task.Doing.TheVariants.{Convert, Show, Conform}
use Rattle.gate_streams.specs.Lines.{refusal_text, meets_text, breach_line}
use Rattle.gate_streams.specs.Terms.{Terms, judged_by, shown_by, found_by}

-- what comes of a frame: the bytes that are written of it, or the cause that is reported; or that its message meets what is declared of it,
-- or how it doesn't
pub data Treated : Type 0 where
  Passes : List ℕ → Treated
  Fails : Cause → Treated
  Meets : Treated
  Breaks : Broken → Treated

-- a message that passes is written in a frame or on a line
abbrev pub by_verdict : Transport → Verdict → List ℕ → Treated
by_verdict t (verdicts.Passed info) bytes = Passes (sent t bytes)
by_verdict t (verdicts.Refused info cause) bytes = Fails cause
by_verdict t (verdicts.Unread fault) bytes = Fails (Grammar fault)

-- what is written of it
abbrev pub sent_by : Transport → Verdict → List ℕ → List ℕ
sent_by t (verdicts.Passed info) bytes = sent t bytes
sent_by t (verdicts.Refused info cause) bytes = []
sent_by t (verdicts.Unread fault) bytes = []

abbrev pub sent_of : Transport → Judged → List ℕ
sent_of t j = sent_by t j.verdict j.bytes

abbrev pub translated : Transport → Judged → Treated
translated t j = by_verdict t j.verdict j.bytes

-- the line of a message is written
abbrev pub as_line : Showing → Treated
as_line (Line text) = Passes text
as_line (showing.Refused fault) = Fails (Grammar fault)
as_line (showing.Unread fault) = Fails (Grammar fault)

-- what is found of a frame is written where its message meets what is declared of it, and else reported
abbrev pub as_found : Finding → Treated
as_found findings.Meets = Meets
as_found (findings.Breaks b) = Breaks b
as_found (findings.Refused fault) = Fails (Grammar fault)
as_found (findings.Unread fault) = Fails (Grammar fault)

abbrev pub treated_by : Terms → Doing → List ℕ → Treated
treated_by k (Convert from to) frame = translated k.output (judged_by k from to frame)
treated_by k (Show from) frame = as_line (shown_by k from frame)
treated_by k (Conform from) frame = as_found (found_by k from frame)

abbrev pub is_passed : Treated → Bool
is_passed (Passes bytes) = true
is_passed (Fails cause) = false
is_passed Meets = true
is_passed (Breaks b) = false

-- what is written of the frame of this number
abbrev pub bytes_for : ℕ → Treated → List ℕ
bytes_for number (Passes bytes) = bytes
bytes_for number (Fails cause) = []
bytes_for number Meets = meets_text number
bytes_for number (Breaks b) = []

-- the line for the frame of this number
abbrev pub line_for : ℕ → Treated → List ℕ
line_for number (Passes bytes) = []
line_for number (Fails cause) = refusal_text number (place_of cause) (cause_text cause)
line_for number Meets = []
line_for number (Breaks b) = breach_line number b

abbrev pub treated : Terms → List ℕ → Treated
treated k frame = treated_by k k.doing frame

abbrev pub passes : Terms → List ℕ → Bool
passes k frame = is_passed (treated k frame)

-- what is written of the frame of this number
abbrev pub output_of : Terms → ℕ → List ℕ → List ℕ
output_of k number frame = bytes_for number (treated k frame)

-- what is reported of the frame of this number
abbrev pub line_of : Terms → ℕ → List ℕ → List ℕ
line_of k number frame = line_for number (treated k frame)

-- what is written of these frames, after so many
abbrev pub outputs : Terms → ℕ → List (List ℕ) → List ℕ
outputs k before [] = []
outputs k before (frame ∷ frames) = output_of k (before + 1) frame ++ outputs k (before + 1) frames

-- what is reported of these frames, after so many
abbrev pub lines : Terms → ℕ → List (List ℕ) → List ℕ
lines k before [] = []
lines k before (frame ∷ frames) = line_of k (before + 1) frame ++ lines k (before + 1) frames

abbrev pub any_refused : Terms → List (List ℕ) → Bool
any_refused k [] = false
any_refused k (frame ∷ frames) = not (passes k frame) || any_refused k frames

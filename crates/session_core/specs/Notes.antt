-- What is told of a frame that was refused.
use Rattle.std.specs.Prelude.{ℕ, List, [], ◌∷◌, Bool, true, false, Option, Some, None}
use Rattle.gate_hub.specs.declared.hub.Side.TheVariants as side
use Rattle.translate_verdicts.specs.declared.verdict.Cause.{Cause}
use Rattle.session_core.specs.declared.judge.ClientJudged.{ClientJudged}
use Rattle.session_core.specs.declared.judge.ClientJudged.TheVariants as client
use Rattle.session_core.specs.declared.judge.UpstreamJudged.{UpstreamJudged}
use Rattle.session_core.specs.declared.judge.UpstreamJudged.TheVariants as upstream
use Rattle.session_core.specs.declared.notes.Refusal.{Refusal}

-- a refusal, and the frame that was refused
pub record Note : Type 0 where
  pub refusal : Refusal
  pub frame : List ℕ

abbrev pub note_of : Refusal → List ℕ → Note
note_of refusal frame = record { refusal = refusal; frame = frame }

-- the client's frame of this number is refused; nothing goes back for it where it is dropped
abbrev pub refused_call : ℕ → Cause → Bool → Refusal
refused_call n cause dropped = record { side = side.Client; port = 0; number = n; cause = cause; dropped = dropped }

-- the frame of this number of an upstream, behind this port, is refused as a reply
abbrev pub refused_reply : ℕ → ℕ → Cause → Refusal
refused_reply port n cause = record { side = side.Upstream; port = port; number = n; cause = cause; dropped = false }

-- what is told of the client's frame of this number, by the verdict on it
abbrev pub call_notes : ClientJudged → ℕ → List ℕ → List Note
call_notes (client.Halts halt) n frame = []
call_notes (client.Opens call) n frame = []
call_notes client.Goes n frame = []
call_notes (client.Refused cause) n frame = note_of (refused_call n cause false) frame ∷ []
call_notes (client.Dropped cause) n frame = note_of (refused_call n cause true) frame ∷ []

-- what is told of an upstream's frame, by the cause for which what goes to the client tells that it is refused
abbrev pub reply_notes_by : ℕ → Option Cause → ℕ → List ℕ → List Note
reply_notes_by port None n frame = []
reply_notes_by port (Some cause) n frame = note_of (refused_reply port n cause) frame ∷ []

-- what is told of the frame of this number of an upstream, behind this port, by the verdict on it
abbrev pub reply_notes : ℕ → UpstreamJudged → ℕ → List ℕ → List Note
reply_notes port (upstream.Halts halt) n frame = []
reply_notes port (upstream.Answers refused) n frame = reply_notes_by port refused n frame

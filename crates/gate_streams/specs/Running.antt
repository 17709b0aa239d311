-- Frames that are held and pass one after another.
use Rattle.std.specs.Prelude.{◌≡◌, ℕ, ◌+◌, List, ◌++◌, length, drop}
use Rattle.line_transport.specs.Cuts.{IsCut, sent}
use Rattle.line_transport.specs.declared.transport.Transport.TheVariants.{Frames}
use Rattle.protocol_traits.specs.declared.proto.Proto.{Proto}
use Rattle.translate_verdicts.specs.declared.verdict.HeadInfo.{HeadInfo}
use Rattle.translate_verdicts.specs.declared.verdict.Verdict.TheVariants.{Passed}
use Rattle.gate_streams.specs.Progress.{Moment}
use Rattle.gate_streams.specs.Terms.{Terms, judged_by}
use Rattle.gate_streams.specs.Working.{Waits}
use Rattle.gate_streams.specs.declared.task.Doing.TheVariants.{Convert}

-- frames are converted from one protocol to another, into frames
pub record IsConversion (k : Terms) (from to : Proto) : Type 0 where
  pub doing : k.doing ≡ Convert from to
  pub input : k.input ≡ Frames
  pub output : k.output ≡ Frames

-- a frame of this size stands at the front and passes, and what is sent of it stands behind what was written
abbrev pub ConvertsNext : Terms → Proto → Proto → List ℕ → ℕ → List ℕ → List ℕ → Type 0
ConvertsNext k from to held size old new =
    (frame : List ℕ) × (info : HeadInfo) × (length frame ≡ size) × IsCut Frames k.limit held frame (drop (4 + size) held)
    × ((judged_by k from to frame).verdict ≡ Passed info) × (new ≡ old ++ sent Frames (judged_by k from to frame).bytes)

-- so many frames at the front of what is held pass, and these bytes are sent of them, whatever was before
abbrev pub Runs : Terms → List ℕ → List ℕ → ℕ → List ℕ → Type 0
Runs k held rest frames bytes =
    (a b : Moment) (out waiting : List ℕ) → b.held ≡ held → Waits k a b out waiting
    → Waits k a (record b { held = rest; frames = b.frames + frames }) (out ++ bytes) waiting

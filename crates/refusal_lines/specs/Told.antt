-- What a server tells of its refusals.
use Rattle.std.specs.Prelude.{ℕ, ◌+◌, List, [], ◌&&◌, length, Bool, nat_le, if◌then◌else◌}
use Rattle.gate_hub.specs.declared.hub.Side.{Side}
use Rattle.gate_hub.specs.declared.hub.Side.TheVariants as side
use Rattle.protocol_traits.specs.declared.proto.Proto.{Proto}
use Rattle.session_core.specs.Notes.{Note}
use Rattle.refusal_lines.specs.Lines.{refusal_text}
use Rattle.refusal_lines.specs.declared.line.TheConstants.{LINE_ROOM}

-- the protocols of both sides, whether refusals are told, and the most bytes of a frame
pub record Told : Type 0 where
  pub client : Proto
  pub upstream : Proto
  pub tells : Bool
  pub limit : ℕ

-- the protocol that a side speaks
abbrev pub protocol_of : Told → Side → Proto
protocol_of t side.Client = t.client
protocol_of t side.Upstream = t.upstream

-- the line of a note of a session, where refusals are told
abbrev pub told_text : Told → ℕ → Note → List ℕ
told_text t session note =
    if t.tells && nat_le (length note.frame) t.limit then refusal_text (protocol_of t note.refusal.side) session note.refusal note.frame else []

-- a frame is read in the room of its line
abbrev pub told_room : Told → ℕ
told_room t = if t.tells then t.limit + LINE_ROOM else 0

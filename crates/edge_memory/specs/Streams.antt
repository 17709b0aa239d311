-- What a stream in memory holds and tells.
use Rattle.std.specs.Prelude.{◌≡◌, ℕ, List, Bool, true, false}
use Rattle.std.proofs.Common.{sym, ap, subst}
use Rattle.gate_base.specs.Bytes.{AreBytes}
use Rattle.mio_edge.specs.Wire.{Wire, new_wire, heard}

-- what it tells, what arrived and isn't read, how many more bytes it takes, whether the end stands behind what arrived, and
-- whether the next call fails
pub record StreamState : Type 0 where
  pub wire : Wire
  pub ahead : List ℕ
  pub room : ℕ
  pub finished : Bool
  pub breaks : Bool

abbrev pub new_stream : List ℕ → Bool → ℕ → StreamState
new_stream arrived finished room = record { wire = new_wire; ahead = arrived; room = room; finished = finished; breaks = false }

abbrev pub breaking : StreamState → StreamState
breaking stream = record stream { breaks = true }

-- the same but for what was reported, which the stream doesn't know
abbrev pub bare : Wire → Wire
bare wire = record wire { readable = false; writable = false }

-- it tells what went over it, whatever was reported, where what arrived are bytes
abbrev pub TellsStream : StreamState → Wire → Type 0
TellsStream stream wire = (bare wire ≡ stream.wire) × AreBytes stream.wire.received × AreBytes stream.ahead

-- ---- nothing below has to be believed

pub stream_bytes : (stream : StreamState) (wire : Wire) → TellsStream stream wire → AreBytes wire.received
stream_bytes stream wire told = subst AreBytes (sym (ap (λ (w : Wire). w.received) told.0)) told.1

pub stream_hears : (stream : StreamState) (wire : Wire) (r w : Bool) → TellsStream stream wire → TellsStream stream (heard r w wire)
stream_hears stream wire r w told = told

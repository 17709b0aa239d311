-- A side without lengths, as it is told over the hub below.
use Rattle.std.specs.Prelude.{◌≡◌, ℕ, ◌^◌, ◌<◌, List, ◌++◌, Option, None, Some, true}
use Rattle.gate_base.specs.Bytes.{AreBytes}
use Rattle.gate_hub.specs.Meaning.{Link, Told, Meaning, link_of}
use Rattle.gate_hub.specs.declared.hub.Side.{Side}
use Rattle.gate_hub.specs.declared.hub.Side.TheVariants as side
use Rattle.gate_hub.specs.declared.hub.LinkGot.TheVariants as got
use Rattle.stream_messages.specs.declared.scan.Wire.{Wire}
use Rattle.stream_messages.specs.declared.lanes.Wrapping.{Wrapping}
use Rattle.stream_messages.specs.Messages.{Framed, Strips}
use Rattle.stream_messages.specs.Lanes.{PassesOn}

-- What was read is a front of the frames of what the hub below received, and all of them where the last read was not ready or found the
-- end. What the hub below sent is what was written, without the lengths.
pub record IsFramed (wire : Wire) (limit : ℕ) (inner outer : Link) : Type 0 where
  pub front : (frames : List ℕ) × (more : List ℕ) × Framed wire limit inner.received inner.ended frames × (frames ≡ outer.received ++ more)
  pub not_ready : outer.last_read ≡ Some got.NotReady → Framed wire limit inner.received inner.ended outer.received
  pub at_end : outer.last_read ≡ Some got.End → Framed wire limit inner.received inner.ended outer.received
  pub stripped : Strips outer.sent inner.sent

-- where the side has no lengths; else it is passed through
abbrev pub SideIs : Option Wire → ℕ → Link → Link → Type 0
SideIs None limit inner outer = PassesOn inner outer
SideIs (Some wire) limit inner outer = IsFramed wire limit inner outer

abbrev pub SideIsTold : Wrapping → Side → Told → Told → Type 0
SideIsTold w side.Client inner outer = SideIs w.client w.limit inner.client outer.client
SideIsTold w side.Upstream inner outer = SideIs w.upstream w.limit inner.upstream outer.upstream

-- a message has at least one byte, and fewer than 2^31
abbrev pub IsLimited : Wrapping → Type 0
IsLimited w = (0 < w.limit) × (w.limit < 2 ^ 31)

-- of each session that the hub below tells to be announced, where what was received of the side consists of bytes
abbrev pub AreSidesTold : Wrapping → Meaning → Meaning → Type 0
AreSidesTold w below told =
    (k : ℕ) (side : Side) → AreBytes (link_of (below.session k) side).received → (below.session k).announced ≡ true → SideIsTold w side (below.session k) (told.session k)

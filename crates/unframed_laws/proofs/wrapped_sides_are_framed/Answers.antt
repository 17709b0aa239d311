use Rattle.std.proofs.Common.{◌≡◌, ℕ, ◌<◌, ◌^◌, true}
use Rattle.gate_base.specs.Bytes.{AreBytes}
use Rattle.gate_hub.specs.Meaning.{Told, link_of}
use Rattle.gate_hub.specs.declared.hub.Side.{Side}
use Rattle.gate_hub.specs.declared.hub.Side.TheVariants as side
use Rattle.stream_messages.specs.declared.lanes.Lanes.{Lanes}
use Rattle.stream_messages.specs.declared.lanes.Wrapping.{Wrapping}
use Rattle.stream_messages.specs.Sessions.{WrapsSession}
use Rattle.unframed_laws.specs.Wrapped.{SideIsTold}
use Rattle.unframed_laws.proofs.Wrapped.{IsCut, side_is}
use Rattle.unframed_laws.proofs.wrapped_sides_are_framed.Goals as goal

both : IsCut → (w : Wrapping) (lanes : Lanes) (s t : Told) (x : Side) → 0 < w.limit → w.limit < 2 ^ 31 → AreBytes (link_of s x).received → WrapsSession w lanes s t → SideIsTold w x s t
both cuts w lanes s t side.Client some small bytes h = side_is w.client w.limit lanes.client s.client t.client cuts some small bytes h.client
both cuts w lanes s t side.Upstream some small bytes h = side_is w.upstream w.limit lanes.upstream s.upstream t.upstream cuts some small bytes h.upstream

pub returns : goal.returns
returns c = λ w slots below told limited tells k x bytes a.
    let t = tells.announced k a in
    both c.a_stream_is_cut.ensures w t.lanes (below.session k) (told.session k) x limited.0 limited.1 bytes t.wraps

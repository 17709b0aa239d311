use Rattle.std.proofs.Common.{◌≡◌, List, ℕ, ap, ◌∙◌, subst, length, arith}
use Rattle.framed_transport.proofs.Cutting.{part_leaves_room}
use Rattle.framed_transport.specs.Frames.{IsCut}
use Rattle.framed_transport.specs.Front.{front, Whole}
use Rattle.framed_transport.specs.Held.{Held}
use Rattle.framed_transport.proofs.holding.FrameBuf.frame.Goals as goal

at : (limit other : ℕ) (held bytes : List ℕ) → other ≡ limit → bytes ≡ held → ((frame rest : List ℕ) → front other bytes ≡ Whole frame rest → IsCut other bytes frame rest) → (frame rest : List ℕ) → front limit held ≡ Whole frame rest → IsCut limit held frame rest
at limit other held bytes e d h =
    subst (λ (k : ℕ). (frame rest : List ℕ) → front k held ≡ Whole frame rest → IsCut k held frame rest) e
    (subst (λ (b : List ℕ). (frame rest : List ℕ) → front other b ≡ Whole frame rest → IsCut other b frame rest) d h)

pub returns-clause-cut : goal.returns-clause-cut
returns-clause-cut c =
    let held : c.self.inside.bytes.bytes ≡ c.args.self.now.held = ap (λ (h : Held). h.held) c.self.view_is in
    let limit : c.self.inside.limit ≡ c.args.self.now.limit = ap (λ (h : Held). h.limit) c.self.view_is in
    at c.args.self.now.limit c.self.inside.limit c.args.self.now.held c.bytes.result.now limit (c.bytes.ensures.bytes ∙ held) c.next_of.ensures.cut

pub returns-clause-room : goal.returns-clause-room
returns-clause-room c = λ part.
    let held : c.self.inside.bytes.bytes ≡ c.args.self.now.held = ap (λ (h : Held). h.held) c.self.view_is in
    let limit : c.self.inside.limit ≡ c.args.self.now.limit = ap (λ (h : Held). h.limit) c.self.view_is in
    part_leaves_room c.args.self.now.limit c.args.self.now.held (omega (arith, ap length held, limit, c.bytes.ensures.within, c.self.invariant.0)) part

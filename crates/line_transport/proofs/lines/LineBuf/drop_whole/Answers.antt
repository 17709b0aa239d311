use Rattle.std.proofs.Common.{◌≡◌, length, arith, ap}
use Rattle.gate_io.specs.Buffer.{Buffer}
use Rattle.framed_transport.specs.Held.{Held}
use Rattle.line_transport.proofs.Cutting.{line_gone}
use Rattle.line_transport.proofs.lines.LineBuf.drop_whole.Goals as goal

pub overflow_add-size : goal.overflow_add-size
overflow_add-size c =
    let gone = line_gone c.args.self.now.limit c.args.size c.args.self.now.held c.requires in
    omega (arith, gone.within, ap (λ (h : Held). h.limit) c.self.view_is, c.self.invariant.1)

pub drop_front-requires : goal.drop_front-requires
drop_front-requires c =
    let gone = line_gone c.args.self.now.limit c.args.size c.args.self.now.held c.requires in
    omega (arith, gone.inside, ap (λ (h : Held). length h.held) c.self.view_is)

pub returns : goal.returns
returns c =
    let gone = line_gone c.args.self.now.limit c.args.size c.args.self.now.held c.requires in
    let held : c.self.inside.bytes.bytes ≡ c.args.self.now.held = ap (λ (h : Held). h.held) c.self.view_is in
    let limit : c.self.inside.limit ≡ c.args.self.now.limit = ap (λ (h : Held). h.limit) c.self.view_is in
    let now = ap (λ (b : Buffer). b.bytes) c.drop_front.ensures in
    cc (gone.left_is, limit, held, now)

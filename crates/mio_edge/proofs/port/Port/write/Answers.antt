use Rattle.std.proofs.Common.{refl}
use Rattle.gate_hub.specs.Hubs.{LinkWrites}
use Rattle.gate_hub.specs.declared.hub.LinkPut.TheVariants as put
use Rattle.mio_edge.specs.Moving.{PortTells}
use Rattle.mio_edge.proofs.Ports.{then_moves, takes_in, only_outgoing, writes_failed}
use Rattle.mio_edge.proofs.port.Port.write.Goals as goal

pub returns-then-is_gone-clause-leads : goal.returns-then-is_gone-clause-leads
returns-then-is_gone-clause-leads g c =
    let t = g.S.Stream.tells in
    let port = c.make_room.new.self in
    then_moves (PortTells t c.args.self.now) (PortTells t port) (PortTells t port) (LinkWrites c.args.from.now put.Failed) c.make_room.ensures.keeps (writes_failed t port c.args.from.now (c.is_gone.ensures.gone c.if-is_gone.true))

pub returns-clause-leads : goal.returns-clause-leads
returns-clause-leads g c =
    let t = g.S.Stream.tells in
    let port = c.make_room.new.self in
    then_moves (PortTells t c.args.self.now) (PortTells t port) _ (LinkWrites c.args.from.now c.take_in.result) c.make_room.ensures.keeps
    (takes_in t port _ c.args.from.now c.take_in.result (c.is_gone.ensures.here c.if-is_gone.false) c.take_in.ensures.bytes (only_outgoing port _ refl refl refl refl))

use Rattle.std.proofs.Common.{arith}
use Rattle.mio_edge.specs.Sessions.{Flushes}
use Rattle.mio_edge.proofs.Sessions.{all_moved, moved_step, none_moved}
use Rattle.mio_edge.proofs.session.send_all.Goals as goal
use Rattle.std.proofs.lemmas.Grind.{common_steps}

pub returns : goal.returns
returns g c = all_moved (Flushes g.S.Stream.tells) c.loop-port.port-index c.args.ports.now c.loop-port.ports (omega arith) c.loop-port.invariant

pub loop-port-preserved : goal.loop-port-preserved
loop-port-preserved g c =
    moved_step (Flushes g.S.Stream.tells) c.loop-port.port-index c.args.ports.now c.loop-port.ports c.port-item.result c.send_unsent.new.self (omega arith) c.loop-port.invariant
    (record { keeps = c.send_unsent.ensures.keeps; calm = c.send_unsent.ensures.calm; sent = c.send_unsent.ensures.sent; still = c.send_unsent.ensures.still })

pub loop-port-init : goal.loop-port-init
loop-port-init g c = none_moved (Flushes g.S.Stream.tells) c.args.ports.now

pub offset_bounds-ports-port-index : goal.offset_bounds-ports-port-index
offset_bounds-ports-port-index g c = grind (arith, common_steps)

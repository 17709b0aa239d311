use Rattle.std.proofs.Common.{arith}
use Rattle.mio_edge.specs.Sessions.{Calms}
use Rattle.mio_edge.specs.Connecting.{WaitsForWrite}
use Rattle.mio_edge.proofs.Each.{all_first, first_step}
use Rattle.mio_edge.proofs.Sessions.{all_moved, moved_step, none_moved}
use Rattle.mio_edge.proofs.session.defer_all.Goals as goal
use Rattle.std.proofs.lemmas.Grind.{common_steps}

pub returns-clause-calm : goal.returns-clause-calm
returns-clause-calm g c = all_moved (Calms g.S.Stream.tells) c.loop-port.port-index c.args.ports.now c.loop-port.ports (omega arith) c.loop-port.invariant.calm

pub returns-clause-deferred : goal.returns-clause-deferred
returns-clause-deferred g c = all_first (λ port. WaitsForWrite port) c.loop-port.port-index c.loop-port.ports (omega (arith, c.loop-port.invariant.calm.long)) c.loop-port.invariant.deferred

pub loop-port-preserved : goal.loop-port-preserved
loop-port-preserved g c = record {
  calm = moved_step (Calms g.S.Stream.tells) c.loop-port.port-index c.args.ports.now c.loop-port.ports c.port-item.result c.defer.new.self (omega arith) c.loop-port.invariant.calm (record { keeps = c.defer.ensures.keeps; calm = c.defer.ensures.calm });
  deferred = first_step (λ port. WaitsForWrite port) c.loop-port.port-index c.loop-port.ports c.defer.new.self (omega arith) c.loop-port.invariant.deferred c.defer.ensures.deferred;
}

pub loop-port-init : goal.loop-port-init
loop-port-init g c = record { calm = none_moved (Calms g.S.Stream.tells) c.args.ports.now; deferred = λ p d less. absurd (omega (arith, less)) }

pub offset_bounds-ports-port-index : goal.offset_bounds-ports-port-index
offset_bounds-ports-port-index g c = grind (arith, common_steps)

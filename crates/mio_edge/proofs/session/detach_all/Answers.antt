use Rattle.std.proofs.Common.{refl, ◌∙◌, arith}
use Rattle.std.proofs.Math.ListN.{length-set}
use Rattle.mio_edge.proofs.Sessions.{new_step, all_new}
use Rattle.mio_edge.proofs.session.detach_all.Goals as goal
use Rattle.std.proofs.lemmas.Grind.{common_steps}

pub loop-port-init : goal.loop-port-init
loop-port-init g c = record { new = λ p d less. absurd (omega (arith, less)); long = refl }

pub loop-port-preserved : goal.loop-port-preserved
loop-port-preserved g c = record {
  new = new_step g.S.Stream.tells c.loop-port.port-index c.loop-port.ports c.detach.new.self (omega arith) c.loop-port.invariant.new c.detach.ensures;
  long = length-set c.loop-port.ports c.loop-port.port-index c.detach.new.self ∙ c.loop-port.invariant.long;
}

pub returns : goal.returns
returns g c = all_new g.S.Stream.tells c.loop-port.port-index c.loop-port.ports (omega (arith, c.loop-port.invariant.long)) c.loop-port.invariant.new

pub offset_bounds-ports-port-index : goal.offset_bounds-ports-port-index
offset_bounds-ports-port-index g c = grind (arith, common_steps)

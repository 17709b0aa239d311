use Rattle.std.proofs.Common.{arith}
use Rattle.mio_edge.specs.Closing.{WindsUp, TellsItsEnd}
use Rattle.mio_edge.proofs.Sessions.{all_moved, moved_step, none_moved}
use Rattle.mio_edge.proofs.Closing.{all_settled, settled_step, all_flushed, flushed_step}
use Rattle.mio_edge.proofs.Each.{all_first, first_step}
use Rattle.mio_edge.proofs.session.wind_up_all.Goals as goal
use Rattle.std.proofs.lemmas.Grind.{common_steps}

pub returns-clause-sends : goal.returns-clause-sends
returns-clause-sends g c = all_moved (WindsUp g.S.Stream.tells) c.loop-port.port-index c.args.ports.now c.loop-port.ports (omega arith) c.loop-port.invariant.sends

pub returns-clause-gone : goal.returns-clause-gone
returns-clause-gone g c = λ is. all_settled c.loop-port.port-index c.loop-port.ports (omega (arith, c.loop-port.invariant.sends.long)) (c.loop-port.invariant.gone is)

pub returns-clause-sent : goal.returns-clause-sent
returns-clause-sent g c = all_flushed c.loop-port.port-index c.loop-port.ports (omega (arith, c.loop-port.invariant.sends.long)) c.loop-port.invariant.sent

pub returns-clause-told : goal.returns-clause-told
returns-clause-told g c = all_first (λ port. TellsItsEnd port) c.loop-port.port-index c.loop-port.ports (omega (arith, c.loop-port.invariant.sends.long)) c.loop-port.invariant.told

pub loop-port-preserved : goal.loop-port-preserved
loop-port-preserved g c = record {
  sends = moved_step (WindsUp g.S.Stream.tells) c.loop-port.port-index c.args.ports.now c.loop-port.ports c.port-item.result c.wind_up.new.self (omega arith) c.loop-port.invariant.sends (record { sends = c.wind_up.ensures.sends });
  gone = λ is.
      let both = c.further_back-rest.ensures.gone is in
      settled_step c.loop-port.port-index c.loop-port.ports c.wind_up.new.self (omega arith) (c.loop-port.invariant.gone both.0) (c.wind_up.ensures.gone both.1);
  sent = flushed_step c.loop-port.port-index c.loop-port.ports c.wind_up.new.self (omega arith) c.loop-port.invariant.sent c.wind_up.ensures.sent;
  told = first_step (λ port. TellsItsEnd port) c.loop-port.port-index c.loop-port.ports c.wind_up.new.self (omega arith) c.loop-port.invariant.told c.wind_up.ensures.told;
}

pub loop-port-init : goal.loop-port-init
loop-port-init g c = record {
  sends = none_moved (WindsUp g.S.Stream.tells) c.args.ports.now;
  gone = λ is p d less. absurd (omega (arith, less));
  sent = λ p d less. absurd (omega (arith, less));
  told = λ p d less. absurd (omega (arith, less));
}

pub offset_bounds-ports-port-index : goal.offset_bounds-ports-port-index
offset_bounds-ports-port-index g c = grind (arith, common_steps)

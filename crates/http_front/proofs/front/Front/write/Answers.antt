use Rattle.std.proofs.Common.{take, sym, ap, ◌∙◌}
use Rattle.http_front.specs.Fronts.{Front, is_answered}
use Rattle.http_front.specs.Moving.{TurnsWritten, carried}
use Rattle.http_front.proofs.Clients.{goes_none}
use Rattle.http_front.proofs.front.Front.write.Goals as goal

pub returns-in-Answer-clause-goes : goal.returns-in-Answer-clause-goes
returns-in-Answer-clause-goes g c = (
  ap is_answered (sym (ap (λ (f : Front). f.stage) c.self.view_is) ∙ c.in-Answer.is),
  goes_none (g.H.Hub.tells c.args.inner.now) c.args.k (TurnsWritten (take c.take_length-taken.result c.args.from.now) c.args.self.now c.take_length-taken.new.self)
      (λ l r gave wrote x. c.take_length-taken.ensures.writes r (carried l gave wrote) x),
)

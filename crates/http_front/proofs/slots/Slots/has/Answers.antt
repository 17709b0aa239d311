use Rattle.std.proofs.Common.{ap, ◌∙◌}
use Rattle.http_front.specs.Slots.{Open}
use Rattle.http_front.proofs.Served.{has_found}
use Rattle.http_front.proofs.slots.Slots.has.Goals as goal

pub returns-in-Some-clause-has : goal.returns-in-Some-clause-has
returns-in-Some-clause-has c = λ e none. has_found c.args.self.now.slots c.deref.result.now c.args.number _ (c.deref.ensures.value ∙ ap (λ (o : Open). o.slots) c.self.view_is) c.in-Some.ensures.found none

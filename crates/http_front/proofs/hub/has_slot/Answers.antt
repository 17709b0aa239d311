use Rattle.std.proofs.Common.{◌≡◌, true, Option, sym, subst}
use Rattle.http_front.specs.Slots.{Open, HasNone}
use Rattle.http_front.specs.Telling.{open_slots}
use Rattle.http_front.proofs.hub.has_slot.Goals as goal

pub returns-in-Some-clause-has : goal.returns-in-Some-clause-has
returns-in-Some-clause-has c = subst (λ (o : Option Open). c.has.result ≡ true → HasNone (open_slots o) c.args.k → ⊥) (sym c.in-Some.is) c.has.ensures.has

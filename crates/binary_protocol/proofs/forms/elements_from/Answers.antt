use Rattle.binary_protocol.proofs.Places.{elements_found}
use Rattle.binary_protocol.proofs.forms.elements_from.Goals as goal

pub returns-clause-found : goal.returns-clause-found
returns-clause-found c = elements_found c.args.frame.now c.args.at c.in_ok-size.size c.in_ok-kind.kind c.in_ok-size.ensures.found c.in_ok-kind.ensures

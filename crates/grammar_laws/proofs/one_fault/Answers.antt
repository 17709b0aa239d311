use Rattle.grammar_laws.proofs.Fronts.{one_place}
use Rattle.grammar_laws.proofs.one_fault.Goals as goal

pub returns : goal.returns
returns c = one_place

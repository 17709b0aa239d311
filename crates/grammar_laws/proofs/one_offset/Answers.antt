use Rattle.grammar_laws.proofs.Fronts.{one_offset}
use Rattle.grammar_laws.proofs.one_offset.Goals as goal

pub returns : goal.returns
returns c = one_offset

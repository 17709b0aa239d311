use Rattle.grammar_laws.proofs.Parsed.{first_fault}
use Rattle.grammar_laws.proofs.the_first_fault_is_told.Goals as goal

pub returns : goal.returns
returns c = first_fault

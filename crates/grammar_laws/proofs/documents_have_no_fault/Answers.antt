use Rattle.grammar_laws.proofs.Fronts.{no_fault}
use Rattle.grammar_laws.proofs.documents_have_no_fault.Goals as goal

pub returns : goal.returns
returns c = no_fault

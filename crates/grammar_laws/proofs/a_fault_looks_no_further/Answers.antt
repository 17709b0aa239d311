use Rattle.grammar_laws.proofs.Parsed.{looks_no_further}
use Rattle.grammar_laws.proofs.a_fault_looks_no_further.Goals as goal

pub returns : goal.returns
returns c = looks_no_further

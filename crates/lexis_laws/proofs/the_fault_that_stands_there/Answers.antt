use Rattle.lexis_laws.proofs.Laws.{fault_of_read, read_of_fault, not_beyond}
use Rattle.lexis_laws.proofs.the_fault_that_stands_there.Goals as goal

pub returns-clause-stands : goal.returns-clause-stands
returns-clause-stands c = fault_of_read

pub returns-clause-told : goal.returns-clause-told
returns-clause-told c = read_of_fault

pub returns-clause-first : goal.returns-clause-first
returns-clause-first c = not_beyond

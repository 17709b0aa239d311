use Rattle.lexis_laws.proofs.LocalFaults.{bad_byte_so, big_number_so}
use Rattle.lexis_laws.proofs.a_fault_looks_no_further.Goals as goal

pub returns-clause-bad_byte : goal.returns-clause-bad_byte
returns-clause-bad_byte c = bad_byte_so

pub returns-clause-big_number : goal.returns-clause-big_number
returns-clause-big_number c text other bytes at x = big_number_so text other bytes x.rest x.tokens at x.number x.cut x.stands x.big

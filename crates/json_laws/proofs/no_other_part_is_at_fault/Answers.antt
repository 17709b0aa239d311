use Rattle.json_laws.proofs.FirstFaults.{refused_first, first_refused, one_first, whole_or_fault, fault_no_whole, first_stands}
use Rattle.json_laws.proofs.no_other_part_is_at_fault.Goals as goal

pub returns : goal.returns
returns c = record { told = refused_first; refuses = first_refused; one = one_first; judged = whole_or_fault; apart = fault_no_whole; stands = first_stands }

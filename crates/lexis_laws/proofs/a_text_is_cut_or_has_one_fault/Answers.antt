use Rattle.lexis_laws.proofs.Laws.{cut_or_fault, never_both, one_fault}
use Rattle.lexis_laws.proofs.a_text_is_cut_or_has_one_fault.Goals as goal

pub returns-clause-either : goal.returns-clause-either
returns-clause-either c = cut_or_fault

pub returns-clause-never_both : goal.returns-clause-never_both
returns-clause-never_both c = never_both

pub returns-clause-one : goal.returns-clause-one
returns-clause-one c = one_fault

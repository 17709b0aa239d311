use Rattle.run_laws.proofs.Started.{idl_checked}
use Rattle.run_laws.proofs.a_good_idl_is_checked.Goals as goal

pub returns : goal.returns
returns c = idl_checked c.files_give_one_answer.ensures

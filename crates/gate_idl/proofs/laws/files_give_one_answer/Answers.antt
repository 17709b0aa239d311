use Rattle.gate_idl.proofs.Once.{opened_once}
use Rattle.gate_idl.proofs.laws.files_give_one_answer.Goals as goal

pub returns : goal.returns
returns c = opened_once c.one_answer.ensures

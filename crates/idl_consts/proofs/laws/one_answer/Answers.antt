use Rattle.idl_consts.proofs.Once.{told_once}
use Rattle.idl_consts.proofs.laws.one_answer.Goals as goal

pub returns : goal.returns
returns c = λ d a b x y. told_once d 0 d a b x y

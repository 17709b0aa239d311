use Rattle.check_laws.proofs.Answered.{answered}
use Rattle.check_laws.proofs.an_opened_idl_is_its_texts.Goals as goal

pub returns : goal.returns
returns c = answered

use Rattle.check_laws.proofs.Answered.{check_says}
use Rattle.check_laws.proofs.a_check_says_what_the_texts_are.Goals as goal

pub returns : goal.returns
returns c = λ file x y ending o holds e. check_says x.holds file x.file_faults y.file_faults x.streams y.streams ending o holds e

use Rattle.session_laws.proofs.Answering.{answer_spells}
use Rattle.session_laws.proofs.an_answer_spells_an_exception.Goals as goal

pub returns : goal.returns
returns c p frame header cause headed = answer_spells p.route p.from p.to frame header cause headed.0 headed.1

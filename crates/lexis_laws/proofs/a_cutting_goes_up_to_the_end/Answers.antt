use Rattle.lexis_laws.proofs.Laws.{up_to_the_end}
use Rattle.lexis_laws.proofs.a_cutting_goes_up_to_the_end.Goals as goal

pub returns : goal.returns
returns c = up_to_the_end

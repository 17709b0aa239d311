use Rattle.lexis_laws.proofs.Laws.{one_cutting}
use Rattle.lexis_laws.proofs.a_text_is_cut_in_one_way.Goals as goal

pub returns : goal.returns
returns c = one_cutting

use Rattle.compact_laws.proofs.Deep.{not_viable}
use Rattle.compact_laws.proofs.refused_is_not_viable.Goals as goal

pub returns : goal.returns
returns c = not_viable

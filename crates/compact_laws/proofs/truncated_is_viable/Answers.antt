use Rattle.compact_laws.proofs.Viable.{cut_viable}
use Rattle.compact_laws.proofs.truncated_is_viable.Goals as goal

pub returns : goal.returns
returns c = cut_viable

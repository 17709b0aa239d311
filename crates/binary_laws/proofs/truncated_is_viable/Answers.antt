use Rattle.binary_laws.proofs.Viable.{cut_viable}
use Rattle.binary_laws.proofs.truncated_is_viable.Goals as goal

pub returns : goal.returns
returns c = cut_viable

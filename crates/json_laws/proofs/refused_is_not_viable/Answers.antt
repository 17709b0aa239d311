use Rattle.json_laws.proofs.FirstBad.{bad_not_viable}
use Rattle.json_laws.proofs.refused_is_not_viable.Goals as goal

pub returns : goal.returns
returns c k bytes f bad shallow viable = bad_not_viable k bytes f bad shallow viable

use Rattle.type_walk.specs.Positions.{start}
use Rattle.json_laws.proofs.Cut.{cut_at_end}
use Rattle.json_laws.proofs.Viable.{cut_viable}
use Rattle.json_laws.proofs.truncated_is_viable.Goals as goal

pub returns : goal.returns
returns c k bytes f room refused cut = (cut_at_end (start k.declared k.body) bytes f refused cut, cut_viable k.declared k.body bytes f room refused cut)

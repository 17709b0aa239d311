use Rattle.value_trees.proofs.Accepted.{body-is-gathered}
use Rattle.value_trees.proofs.laws.a_body_is_gathered.Goals as goal

pub returns : goal.returns
returns c = body-is-gathered

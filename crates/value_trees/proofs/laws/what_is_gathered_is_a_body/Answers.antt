use Rattle.value_trees.proofs.Kept.{gathered-is-body}
use Rattle.value_trees.proofs.laws.what_is_gathered_is_a_body.Goals as goal

pub returns : goal.returns
returns c = gathered-is-body

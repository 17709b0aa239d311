use Rattle.value_trees.proofs.Accepted.{refused-begins-none}
use Rattle.value_trees.proofs.laws.what_is_refused_begins_no_body.Goals as goal

pub returns : goal.returns
returns c = refused-begins-none

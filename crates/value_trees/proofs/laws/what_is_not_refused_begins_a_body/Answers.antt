use Rattle.value_trees.proofs.Begun.{not-refused-begins}
use Rattle.value_trees.proofs.laws.what_is_not_refused_begins_a_body.Goals as goal

pub returns : goal.returns
returns c = not-refused-begins

use Rattle.grammar_laws.proofs.Parsed.{first_depth}
use Rattle.grammar_laws.proofs.the_first_depth_is_told.Goals as goal

pub returns : goal.returns
returns c = first_depth

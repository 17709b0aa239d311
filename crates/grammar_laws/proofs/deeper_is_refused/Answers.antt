use Rattle.grammar_laws.proofs.Parsed.{deeper_is_refused}
use Rattle.grammar_laws.proofs.deeper_is_refused.Goals as goal

pub returns : goal.returns
returns c = deeper_is_refused

use Rattle.grammar_laws.proofs.Parsed.{derived_is_parsed}
use Rattle.grammar_laws.proofs.derived_is_parsed.Goals as goal

pub returns : goal.returns
returns c = derived_is_parsed

use Rattle.grammar_laws.proofs.Parsed.{parsed_is_derived}
use Rattle.grammar_laws.proofs.parsed_is_derived.Goals as goal

pub returns : goal.returns
returns c = parsed_is_derived

use Rattle.grammar_laws.proofs.Parsed.{one_document}
use Rattle.grammar_laws.proofs.one_document.Goals as goal

pub returns : goal.returns
returns c = one_document

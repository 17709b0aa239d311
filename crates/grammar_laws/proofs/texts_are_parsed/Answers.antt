use Rattle.grammar_laws.proofs.Texts.{text_is_parsed}
use Rattle.grammar_laws.proofs.texts_are_parsed.Goals as goal

pub returns : goal.returns
returns c = text_is_parsed

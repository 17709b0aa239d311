use Rattle.grammar_laws.proofs.Texts.{one_answer}
use Rattle.grammar_laws.proofs.a_text_is_one_thing.Goals as goal

pub returns : goal.returns
returns c = one_answer

use Rattle.json_text_laws.proofs.NumberLaw.{number_judged}
use Rattle.json_text_laws.proofs.numbers_are_judged.Goals as goal

pub returns : goal.returns
returns c = number_judged

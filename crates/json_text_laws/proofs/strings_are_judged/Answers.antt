use Rattle.json_text_laws.proofs.TextLaw.{text_judged}
use Rattle.json_text_laws.proofs.strings_are_judged.Goals as goal

pub returns : goal.returns
returns c = text_judged

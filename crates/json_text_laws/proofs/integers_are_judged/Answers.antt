use Rattle.json_text_laws.proofs.IntLaw.{int_judged}
use Rattle.json_text_laws.proofs.integers_are_judged.Goals as goal

pub returns : goal.returns
returns c low high bytes range = int_judged low high range bytes

use Rattle.translate_core.proofs.Failures.{declared_failure}
use Rattle.translate_core.proofs.laws.an_answer_is_a_declared_failure.Goals as goal

pub returns : goal.returns
returns c d built message kind = declared_failure d message kind built

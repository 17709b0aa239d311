use Rattle.service_router.proofs.Saying.{outcome_says}
use Rattle.service_router.proofs.laws.an_outcome_says_what_is_so.Goals as goal

pub returns : goal.returns
returns c = λ t h s o fits came. outcome_says t.rules t.limit t.max_calls h s o fits came

use Rattle.service_router.proofs.Greatest.{all_due}
use Rattle.service_router.proofs.laws.a_router_at_rest_has_sent_all_that_is_due.Goals as goal

pub returns : goal.returns
returns c = λ t h s some paid. all_due c.frame_stands_at_the_front.ensures t.rules t.limit t.max_calls h s t.small some paid.fits paid.rest paid.to_client paid.to_upstream

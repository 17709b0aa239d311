use Rattle.service_router.proofs.Greatest.{one_due}
use Rattle.service_router.proofs.laws.what_is_due_to_a_port_is_one.Goals as goal

pub returns : goal.returns
returns c = λ t h a b port. one_due c.frame_stands_at_the_front.ensures t.rules t.limit t.max_calls port h.received a.to b.to t.small a.are b.are

use Rattle.service_router.proofs.Ordered.{client_front}
use Rattle.service_router.proofs.laws.what_the_client_was_sent_is_a_front.Goals as goal

pub returns : goal.returns
returns c = λ t h s all answers fits. client_front c.frame_stands_at_the_front.ensures t.rules t.limit t.max_calls h s all.frames answers.frames t.small fits all.are answers.are

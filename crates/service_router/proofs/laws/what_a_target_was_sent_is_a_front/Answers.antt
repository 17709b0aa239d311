use Rattle.service_router.proofs.Fronts.{target_front}
use Rattle.service_router.proofs.laws.what_a_target_was_sent_is_a_front.Goals as goal

pub returns : goal.returns
returns c = λ t h s all u fits. target_front c.frame_stands_at_the_front.ensures t.rules t.limit t.max_calls u h s all.frames t.small fits all.are

use Rattle.session_laws.proofs.Carrying.{both, carried}
use Rattle.session_laws.proofs.Standing.{completed}
use Rattle.session_laws.proofs.all_that_was_due_was_said.Goals as goal

pub returns : goal.returns
returns c x some sent =
    let law = c.frame_stands_at_the_front.ensures in
    let s = x.setting in
    let is = x.covered in
    let all = both s x.limit law is c.a_stream_is_split.ensures x.history x.bytes.client x.bytes.upstream in
    (carried s x.limit law is x.max_calls x.history x.standing all x.fits, completed s x.limit x.max_calls law is x.history all x.standing some x.fits sent.rests sent.to_client sent.to_upstream)

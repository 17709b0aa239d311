use Rattle.session_laws.proofs.Carrying.{both, carried}
use Rattle.session_laws.proofs.Over.{ended}
use Rattle.session_laws.proofs.an_outcome_says_why.Goals as goal

pub returns : goal.returns
returns c x o some ends =
    let law = c.frame_stands_at_the_front.ensures in
    let s = x.setting in
    let is = x.covered in
    let all = both s x.limit law is c.a_stream_is_split.ensures x.history x.bytes.client x.bytes.upstream in
    (carried s x.limit law is x.max_calls x.history x.standing all x.fits, ended s x.limit x.max_calls law is x.history all x.bytes.client x.bytes.upstream x.standing x.fits o some ends)

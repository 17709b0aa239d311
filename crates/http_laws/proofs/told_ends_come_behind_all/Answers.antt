use Rattle.http_front.specs.Moving.{carried}
use Rattle.http_laws.proofs.Given.{at_end}
use Rattle.http_laws.proofs.told_ends_come_behind_all.Goals as goal

pub returns : goal.returns
returns c = λ r slots stopped inner outer tells k announced ended posts tail cut.
    let t = tells.announced k announced in
    at_end r t.slot.front (carried (inner.session k).client (outer.session k).client.received (outer.session k).client.sent) t.client.fits (t.client.ended ended) posts tail cut

use Rattle.http_front.specs.Moving.{carried}
use Rattle.http_laws.proofs.Served.{served}
use Rattle.http_laws.proofs.told_clients_are_served.Goals as goal

pub returns : goal.returns
returns c = λ r slots stopped inner outer tells k announced posts tail cut.
    let t = tells.announced k announced in
    served r t.slot.front (carried (inner.session k).client (outer.session k).client.received (outer.session k).client.sent) posts tail t.client.fits cut

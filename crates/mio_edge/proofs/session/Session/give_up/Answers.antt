use Rattle.std.proofs.Common.{◌≡◌, length, refl, arith}
use Rattle.std.specs.Vec.{vec_len}
use Rattle.mio_edge.specs.Sessions.{Calms}
use Rattle.mio_edge.proofs.Sessions.{at_one, calm_self, session_stays, here}
use Rattle.mio_edge.proofs.session.Session.give_up.Goals as goal
use Rattle.std.proofs.lemmas.Grind.{elements}

pub returns-in-Some-clause-keeps : goal.returns-in-Some-clause-keeps
returns-in-Some-clause-keeps g c =
    let long : vec_len c.args.self.now.ports ≡ length c.args.self.now.ports.items = omega (arith, c.args.self.now.ports.ok.0) in
    let is = here c.args.self.now.ports.items _ c.args.port c.in-Some.port.now long (c.in-Some.ensures.variant.0 refl) c.in-Some.ensures.value in
    session_stays g.S.Stream.tells c.args.self.now _
    (at_one (Calms g.S.Stream.tells) (calm_self g.S.Stream.tells) c.args.self.now.ports.items c.args.port c.in-Some.port.now c.give_up.new.self is (record { keeps = c.give_up.ensures.keeps; calm = c.give_up.ensures.calm }))
    (record { number = refl; is_open = refl; queued = refl; written = refl })

pub returns-in_default-clause-given_up : goal.returns-in_default-clause-given_up
returns-in_default-clause-given_up g c = grind (arith, elements)

pub returns-in-Some-clause-given_up : goal.returns-in-Some-clause-given_up
returns-in-Some-clause-given_up g c = grind (arith, elements)

use Rattle.std.proofs.Common.{◌≡◌, length, refl, sym, subst, arith}
use Rattle.std.specs.Vec.{vec_len}
use Rattle.mio_edge.specs.Connecting.{IsConnectedAt}
use Rattle.mio_edge.proofs.Sessions.{at_port_begins, session_new, here, past, not_here, get_set_same, get_within}
use Rattle.mio_edge.proofs.session.Session.attach.Goals as goal
use Rattle.std.proofs.lemmas.Grind.{common_steps}

pub returns-in-Some-clause-begins : goal.returns-in-Some-clause-begins
returns-in-Some-clause-begins g c = λ told says.
    let long : vec_len c.args.self.now.ports ≡ length c.args.self.now.ports.items = omega (arith, c.args.self.now.ports.ok.0) in
    let is = here c.args.self.now.ports.items _ c.args.port c.in-Some.port.now long (c.in-Some.ensures.variant.0 refl) c.in-Some.ensures.value in
    session_new g.S.Stream.tells _ (at_port_begins g.S.Stream.tells c.args.self.now.ports.items c.args.port c.in-Some.port.now c.attach.new.self is (c.attach.ensures.tells says) told.ports)

pub returns-in-Some-clause-connects : goal.returns-in-Some-clause-connects
returns-in-Some-clause-connects g c = λ x at.
    let long : vec_len c.args.self.now.ports ≡ length c.args.self.now.ports.items = omega (arith, c.args.self.now.ports.ok.0) in
    let is = here c.args.self.now.ports.items _ c.args.port c.in-Some.port.now long (c.in-Some.ensures.variant.0 refl) c.in-Some.ensures.value in
    subst (λ o. IsConnectedAt c.args.stream c.args.sending o) (sym (get_set_same c.args.self.now.ports.items c.args.port c.attach.new.self (get_within c.args.self.now.ports.items c.args.port c.in-Some.port.now is)))
    c.attach.ensures.connects

pub returns-in-None-clause-connects : goal.returns-in-None-clause-connects
returns-in-None-clause-connects g c = λ x at.
    let long : vec_len c.args.self.now.ports ≡ length c.args.self.now.ports.items = omega (arith, c.args.self.now.ports.ok.0) in
    absurd (not_here x (past c.args.self.now.ports.items _ c.args.port long c.in-None.ensures.variant.1) at)

pub returns-in-None-clause-there : goal.returns-in-None-clause-there
returns-in-None-clause-there g c = grind (arith, common_steps)

pub returns-in-Some-clause-there : goal.returns-in-Some-clause-there
returns-in-Some-clause-there g c = grind (arith, common_steps)

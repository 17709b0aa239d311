use Rattle.std.proofs.Common.{◌≡◌, length, refl, arith, sym, ◌∙◌, subst}
use Rattle.std.specs.Vec.{vec_len}
use Rattle.std.proofs.lemmas.Option.{none-some}
use Rattle.mio_edge.specs.Moving.{IsCalm}
use Rattle.mio_edge.specs.Sessions.{Calms}
use Rattle.mio_edge.proofs.Ports.{hears_told, calm_news}
use Rattle.mio_edge.proofs.Sessions.{at_port_stays, at_one, calm_self, session_stays, here, past}
use Rattle.mio_edge.proofs.Stepping.{each_moved, noted_stepped}
use Rattle.mio_edge.specs.Stepping.{HasStepped}
use Rattle.mio_edge.proofs.session.Session.report.Goals as goal
use Rattle.std.proofs.lemmas.Grind.{elements}

pub returns-in-Some-clause-keeps : goal.returns-in-Some-clause-keeps
returns-in-Some-clause-keeps g c =
    let long : vec_len c.args.self.now.ports ≡ length c.args.self.now.ports.items = omega (arith, c.args.self.now.ports.ok.0) in
    let is = here c.args.self.now.ports.items _ c.args.port c.in-Some.port.now long (c.in-Some.ensures.variant.0 refl) c.in-Some.ensures.value in
    at_port_stays g.S.Stream.tells c.args.self.now.ports.items c.args.port c.in-Some.port.now c.report.new.self is (λ link told. hears_told g.S.Stream.tells c.args.news c.report.new.self link (c.report.ensures.hears link told))

pub returns-in-Some-clause-calm : goal.returns-in-Some-clause-calm
returns-in-Some-clause-calm g c = λ none.
    let long : vec_len c.args.self.now.ports ≡ length c.args.self.now.ports.items = omega (arith, c.args.self.now.ports.ok.0) in
    let is = here c.args.self.now.ports.items _ c.args.port c.in-Some.port.now long (c.in-Some.ensures.variant.0 refl) c.in-Some.ensures.value in
    session_stays g.S.Stream.tells c.args.self.now _
    (at_one (Calms g.S.Stream.tells) (calm_self g.S.Stream.tells) c.args.self.now.ports.items c.args.port c.in-Some.port.now c.report.new.self is
    (record {
      keeps = λ link told. hears_told g.S.Stream.tells c.args.news c.report.new.self link (c.report.ensures.hears link told);
      calm = subst (λ p. IsCalm c.in-Some.port.now p) (sym c.report.ensures.notes) (calm_news c.args.news c.in-Some.port.now (sym c.report.ensures.news ∙ none));
    }))
    (record { number = refl; is_open = refl; queued = refl; written = refl })

pub returns-in-None-clause-notes : goal.returns-in-None-clause-notes
returns-in-None-clause-notes g c = λ x is.
    let long : vec_len c.args.self.now.ports ≡ length c.args.self.now.ports.items = omega (arith, c.args.self.now.ports.ok.0) in
    let none = past c.args.self.now.ports.items _ c.args.port long c.in-None.ensures.variant.1 in
    absurd (none-some x (sym none ∙ is))

pub returns-in-None-clause-news : goal.returns-in-None-clause-news
returns-in-None-clause-news g c = λ x is.
    let long : vec_len c.args.self.now.ports ≡ length c.args.self.now.ports.items = omega (arith, c.args.self.now.ports.ok.0) in
    let none = past c.args.self.now.ports.items _ c.args.port long c.in-None.ensures.variant.1 in
    absurd (none-some x (sym none ∙ is))

pub returns-in-Some-clause-stepped : goal.returns-in-Some-clause-stepped
returns-in-Some-clause-stepped g c = λ none.
    let long : vec_len c.args.self.now.ports ≡ length c.args.self.now.ports.items = omega (arith, c.args.self.now.ports.ok.0) in
    let is = here c.args.self.now.ports.items _ c.args.port c.in-Some.port.now long (c.in-Some.ensures.variant.0 refl) c.in-Some.ensures.value in
    each_moved (λ port. HasStepped port) (λ x y. HasStepped x → HasStepped y) (λ x y moved stepped. moved stepped) c.args.self.now.ports.items _
    (at_one (λ x y. HasStepped x → HasStepped y) (λ x stepped. stepped) c.args.self.now.ports.items c.args.port c.in-Some.port.now c.report.new.self is
    (λ stepped. subst (λ port. HasStepped port) (sym c.report.ensures.notes) (noted_stepped c.args.news c.in-Some.port.now (sym c.report.ensures.news ∙ none) stepped)))

pub returns-in-Some-clause-news : goal.returns-in-Some-clause-news
returns-in-Some-clause-news g c = grind (arith, elements)

pub returns-in-Some-clause-notes : goal.returns-in-Some-clause-notes
returns-in-Some-clause-notes g c = grind (arith, elements)

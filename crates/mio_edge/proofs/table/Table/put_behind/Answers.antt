use Rattle.std.proofs.Common.{arith, length, refl, sym, ap, ◌∙◌, subst}
use Rattle.mio_edge.proofs.Standing.{stood_behind, rest_same, rest_written, put_over}
use Rattle.mio_edge.proofs.Tables.{kept_at}
use Rattle.mio_edge.proofs.Closing.{winds_same, flushed_at, others_put}
use Rattle.mio_edge.proofs.Steps.{stays_put}
use Rattle.mio_edge.specs.Closing.{AreFlushed, winds_nowhere}
use Rattle.mio_edge.specs.Closing.{TellsItsEnd}
use Rattle.mio_edge.specs.Sessions.{EachPort}
use Rattle.mio_edge.proofs.Places.{each_at}
use Rattle.mio_edge.proofs.Numbered.{below_put}
use Rattle.mio_edge.proofs.table.Table.put_behind.Goals as goal
use Rattle.std.proofs.lemmas.Grind.{common_steps}

pub returns-in-Some-clause-keeps : goal.returns-in-Some-clause-keeps
returns-in-Some-clause-keeps g c = λ world told.
    let t = g.S.Stream.tells in
    let s = c.args.self.now in
    let a = c.in-Some.session.now in
    let b = c.stand_in.new.self in
    let was = sym c.in-Some.ensures.value in
    let stood = stood_behind t s.sessions s.ready s.behind c.stand_in.new.queue s.written (length s.spare.items) c.args.place a b was c.stand_in.ensures.was c.stand_in.ensures.stands c.stand_in.ensures.rest told.1 in (
      kept_at t s.sessions s.entries.items s.closed.items s.spare.items c.args.place a b was (rest_same t a b c.stand_in.ensures.rest) stood.keeps world told.0,
      stood.stands b refl (rest_written t a b c.stand_in.ensures.rest),
    )

pub returns-in-Some-clause-winds : goal.returns-in-Some-clause-winds
returns-in-Some-clause-winds g c =
    let rest = c.stand_in.ensures.rest in
    winds_same g.S.Stream.tells c.args.self.now.sessions c.args.place c.in-Some.session.now c.stand_in.new.self (sym c.in-Some.ensures.value) (ap (λ x. x.number) rest) (λ shut. ap (λ x. x.is_open) rest ∙ shut) (ap (λ x. x.ports) rest)

pub returns-in-Some-clause-flushed : goal.returns-in-Some-clause-flushed
returns-in-Some-clause-flushed g c = λ flushed.
    let was = sym c.in-Some.ensures.value in
    flushed_at c.args.self.now.sessions c.args.place c.in-Some.session.now c.stand_in.new.self was
    (subst (λ ports. AreFlushed ports.items) (sym (ap (λ x. x.ports) c.stand_in.ensures.rest)) (flushed c.in-Some.session.now was))

pub returns-in-Some-clause-stands : goal.returns-in-Some-clause-stands
returns-in-Some-clause-stands g c = λ world told some.
    let t = g.S.Stream.tells in
    let s = c.args.self.now in
    let a = c.in-Some.session.now in
    let b = c.stand_in.new.self in
    let was = sym c.in-Some.ensures.value in
    let stood = stood_behind t s.sessions s.ready s.behind c.stand_in.new.queue s.written (length s.spare.items) c.args.place a b was c.stand_in.ensures.was c.stand_in.ensures.stands c.stand_in.ensures.rest told.1 in
    (b, put_over t s.sessions c.args.place a b was, stood.queued)

pub returns-in-Some-clause-others : goal.returns-in-Some-clause-others
returns-in-Some-clause-others g c = others_put c.args.self.now.sessions c.args.place c.in-Some.session.now c.stand_in.new.self (sym c.in-Some.ensures.value)

pub returns-in-Some-clause-shut : goal.returns-in-Some-clause-shut
returns-in-Some-clause-shut g c =
    stays_put c.args.place c.args.self.now.sessions c.in-Some.session.now c.stand_in.new.self (sym c.in-Some.ensures.value) (ap (λ x. x.is_open) c.stand_in.ensures.rest)

pub returns-in-Some-clause-told : goal.returns-in-Some-clause-told
returns-in-Some-clause-told g c = λ told.
    let was = sym c.in-Some.ensures.value in
    each_at (λ port. TellsItsEnd port) c.args.self.now.sessions c.args.place c.in-Some.session.now c.stand_in.new.self was
    (subst (λ ports. EachPort (λ port. TellsItsEnd port) ports.items) (sym (ap (λ x. x.ports) c.stand_in.ensures.rest)) (told c.in-Some.session.now was))

pub returns-in-Some-clause-below : goal.returns-in-Some-clause-below
returns-in-Some-clause-below g c = below_put c.args.self.now.sessions c.args.place c.in-Some.session.now c.stand_in.new.self (sym c.in-Some.ensures.value) (ap (λ x. x.number) c.stand_in.ensures.rest)

pub returns-in_default-clause-winds : goal.returns-in_default-clause-winds
returns-in_default-clause-winds g c = winds_nowhere g.S.Stream.tells c.args.self.now.sessions

pub returns-in_default-clause-shut : goal.returns-in_default-clause-shut
returns-in_default-clause-shut g c = grind (arith, common_steps)

pub returns-in_default-clause-stands : goal.returns-in_default-clause-stands
returns-in_default-clause-stands g c = grind (arith, common_steps)

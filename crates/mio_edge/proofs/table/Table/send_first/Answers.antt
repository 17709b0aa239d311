use Rattle.std.proofs.Common.{length, false, sym, refl, ap, ◌∙◌, subst, inl}
use Rattle.slab.specs.Slab.{with_value}
use Rattle.mio_edge.specs.Turns.{QueuesStand}
use Rattle.mio_edge.proofs.Standing.{stood_ready, rest_same, put_twice, put_over}
use Rattle.mio_edge.proofs.Tables.{kept_at, then_is, unsent_from}
use Rattle.mio_edge.proofs.Turns.{queues_taken, queues_renewed, queues_passed}
use Rattle.mio_edge.specs.Sessions.{PortsTell}
use Rattle.mio_edge.specs.Closing.{winds_nowhere}
use Rattle.mio_edge.proofs.Closing.{winds_stays}
use Rattle.mio_edge.specs.Lines.{grows_same, line_grown, moves_nowhere, none_closed}
use Rattle.mio_edge.proofs.Numbered.{below_put}
use Rattle.mio_edge.proofs.Stepping.{stepped_put, still_stepped}
use Rattle.mio_edge.proofs.table.Table.send_first.Goals as goal

pub returns-in_default : goal.returns-in_default
returns-in_default g c =
    let s = c.args.self.now in record {
      keeps = λ world told. (told.0, queues_renewed s.sessions s.ready s.behind s.written c.pop.new.self (length s.spare.items) (sym c.in_default.ensures.first) told.1);
      taken = c.pop.ensures.rest;
      winds = winds_nowhere g.S.Stream.tells s.sessions;
      turn = moves_nowhere s _ refl refl refl;
      below = λ next below. below;
      stepped = λ world told stepped. stepped;
      same = refl;
    }

pub returns-in_default-get_mut : goal.returns-in_default-get_mut
returns-in_default-get_mut g c =
    let s = c.args.self.now in record {
      keeps = λ world told. (told.0, queues_passed s.sessions s.ready s.behind s.written c.pop.new.self (length s.spare.items) c.in-Some.place (sym c.in_default-get_mut.ensures.value) c.in-Some.ensures.first told.1);
      taken = c.pop.ensures.rest;
      winds = winds_nowhere g.S.Stream.tells s.sessions;
      turn = moves_nowhere s _ refl refl refl;
      below = λ next below. below;
      stepped = λ world told stepped. stepped;
      same = refl;
    }

pub returns-then-send-clause-keeps : goal.returns-then-send-clause-keeps
returns-then-send-clause-keeps g c = λ world told.
    let t = g.S.Stream.tells in
    let s = c.args.self.now in
    let place = c.in-Some.place in
    let a = c.in-Some-get_mut.session.now in
    let b = c.send.new.self in
    let d = c.stand_in.new.self in
    let still = c.send.ensures.still in
    let was = sym c.in-Some-get_mut.ensures.value in
    let taken = queues_taken s.sessions s.ready s.behind s.written c.pop.new.self (length s.spare.items) place a b was still.queued still.written c.in-Some.ensures.first told.1 in
    let stood = stood_ready t (with_value s.sessions place b) s.ready c.stand_in.new.queue s.behind c.pop.new.self (length s.spare.items) place b d (put_over t s.sessions place a b was) c.stand_in.ensures.was c.stand_in.ensures.stands c.stand_in.ensures.rest taken in (
      kept_at t s.sessions s.entries.items s.closed.items s.spare.items place a d was (then_is t a b d (record { number = still.number; is_open = still.is_open }) (rest_same t b d c.stand_in.ensures.rest))
          (λ links tells. stood.keeps links (c.send.ensures.keeps links (unsent_from t a (record a { is_written = false }) refl refl links tells))) world told.0,
      subst (λ slab. QueuesStand slab c.stand_in.new.queue s.behind c.pop.new.self (length s.spare.items)) (put_twice t s.sessions place b d) (stood.stands d refl (ap (λ x. x.is_written) c.stand_in.ensures.rest)),
    )

pub returns-else-send-clause-keeps : goal.returns-else-send-clause-keeps
returns-else-send-clause-keeps g c = λ world told.
    let t = g.S.Stream.tells in
    let s = c.args.self.now in
    let place = c.in-Some.place in
    let a = c.in-Some-get_mut.session.now in
    let b = c.send.new.self in
    let still = c.send.ensures.still in
    let was = sym c.in-Some-get_mut.ensures.value in (
      kept_at t s.sessions s.entries.items s.closed.items s.spare.items place a b was (record { number = still.number; is_open = still.is_open })
          (λ links tells. c.send.ensures.keeps links (unsent_from t a (record a { is_written = false }) refl refl links tells)) world told.0,
      queues_taken s.sessions s.ready s.behind s.written c.pop.new.self (length s.spare.items) place a b was still.queued still.written c.in-Some.ensures.first told.1,
    )

pub returns-then-send-clause-winds : goal.returns-then-send-clause-winds
returns-then-send-clause-winds g c =
    let t = g.S.Stream.tells in
    let rest = c.stand_in.ensures.rest in
    let still = c.send.ensures.still in
    winds_stays t c.args.self.now.sessions c.in-Some.place c.in-Some-get_mut.session.now c.stand_in.new.self (sym c.in-Some-get_mut.ensures.value) (ap (λ x. x.number) rest ∙ still.number) (ap (λ x. x.is_open) rest ∙ still.is_open)
    (λ links told. subst (λ v. PortsTell t v.items links) (sym (ap (λ x. x.ports) rest)) (c.send.ensures.ports links told))

pub returns-else-send-clause-winds : goal.returns-else-send-clause-winds
returns-else-send-clause-winds g c =
    winds_stays g.S.Stream.tells c.args.self.now.sessions c.in-Some.place c.in-Some-get_mut.session.now c.send.new.self (sym c.in-Some-get_mut.ensures.value) c.send.ensures.still.number c.send.ensures.still.is_open c.send.ensures.ports

pub returns-then-send-clause-turn : goal.returns-then-send-clause-turn
returns-then-send-clause-turn g c =
    let s = c.args.self.now in
    record { line = line_grown s.ready s.behind c.stand_in.new.queue s.behind c.stand_in.ensures.grows (grows_same s.behind s.behind refl); closed = none_closed s.entries.items; entries = refl }

pub returns-then-send-clause-below : goal.returns-then-send-clause-below
returns-then-send-clause-below g c = below_put c.args.self.now.sessions c.in-Some.place c.in-Some-get_mut.session.now c.stand_in.new.self (sym c.in-Some-get_mut.ensures.value) (ap (λ x. x.number) c.stand_in.ensures.rest ∙ c.send.ensures.still.number)

pub returns-else-send-clause-below : goal.returns-else-send-clause-below
returns-else-send-clause-below g c = below_put c.args.self.now.sessions c.in-Some.place c.in-Some-get_mut.session.now c.send.new.self (sym c.in-Some-get_mut.ensures.value) c.send.ensures.still.number

pub returns-then-send-clause-stepped : goal.returns-then-send-clause-stepped
returns-then-send-clause-stepped g c = λ world told.
    let t = g.S.Stream.tells in
    let s = c.args.self.now in
    let place = c.in-Some.place in
    let a = c.in-Some-get_mut.session.now in
    let b = c.send.new.self in
    let d = c.stand_in.new.self in
    let still = c.send.ensures.still in
    let was = sym c.in-Some-get_mut.ensures.value in
    let taken = queues_taken s.sessions s.ready s.behind s.written c.pop.new.self (length s.spare.items) place a b was still.queued still.written c.in-Some.ensures.first told.1 in
    let stood = stood_ready t (with_value s.sessions place b) s.ready c.stand_in.new.queue s.behind c.pop.new.self (length s.spare.items) place b d (put_over t s.sessions place a b was) c.stand_in.ensures.was c.stand_in.ensures.stands c.stand_in.ensures.rest taken in
    stepped_put s.sessions place a d was (λ before shut. inl stood.queued)

pub returns-else-send-clause-stepped : goal.returns-else-send-clause-stepped
returns-else-send-clause-stepped g c = λ world told.
    let still = c.send.ensures.still in
    stepped_put c.args.self.now.sessions c.in-Some.place c.in-Some-get_mut.session.now c.send.new.self (sym c.in-Some-get_mut.ensures.value)
    (still_stepped c.in-Some-get_mut.session.now c.send.new.self still.is_open still.queued c.send.ensures.stepped)

pub returns-then-send-clause-taken : goal.returns-then-send-clause-taken
returns-then-send-clause-taken g c = c.pop.ensures.rest

pub returns-else-send-clause-taken : goal.returns-else-send-clause-taken
returns-else-send-clause-taken g c = c.pop.ensures.rest

pub returns-then-send-clause-same : goal.returns-then-send-clause-same
returns-then-send-clause-same g c = refl

pub returns-else-send-clause-same : goal.returns-else-send-clause-same
returns-else-send-clause-same g c = refl

pub returns-else-send-clause-turn : goal.returns-else-send-clause-turn
returns-else-send-clause-turn g c = moves_nowhere c.args.self.now _ refl refl refl

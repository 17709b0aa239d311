use Rattle.std.proofs.Common.{[], ◌∷◌, length, false, sym, refl, ◌∙◌, ap, subst, inl, inr, arith}
use Rattle.std.specs.List.{slice_get}
use Rattle.slab.specs.Slab.{with_value}
use Rattle.mio_edge.specs.Sessions.{IsSame, IsUnsentAt}
use Rattle.mio_edge.specs.Tables.{IsClosedAt, Names}
use Rattle.mio_edge.specs.Turns.{QueuesStand}
use Rattle.mio_edge.specs.declared.session.Session.{Session}
use Rattle.mio_edge.proofs.Standing.{not_free, put_twice, put_over, written_down, not_down, stood_from, from_rest}
use Rattle.mio_edge.proofs.Tables.{moved_at, still_closed, named_at, session_named}
use Rattle.mio_edge.proofs.Turns.{queues_popped}
use Rattle.mio_edge.specs.Closing.{winds_nowhere, winds_on}
use Rattle.mio_edge.proofs.Closing.{winds_same, winds_open, others_put, others_on}
use Rattle.mio_edge.proofs.Steps.{no_turn, one_turn, lost_turn, open_turn, stays_put, stays_on}
use Rattle.mio_edge.specs.Lines.{grows_same, line_first, none_closed}
use Rattle.mio_edge.specs.declared.queue.Queue.{Queue}
use Rattle.mio_edge.proofs.Order.{one_closed}
use Rattle.mio_edge.proofs.Numbered.{below_put}
use Rattle.mio_edge.proofs.Stepping.{open_stepped, others_stepped, stepped_put, wound_stepped}
use Rattle.mio_edge.proofs.table.Table.turn_first.Goals as goal
use Rattle.std.proofs.lemmas.Grind.{common_steps}

pub returns-in_default-get_mut-clause-names : goal.returns-in_default-get_mut-clause-names
returns-in_default-get_mut-clause-names g c = λ world told. let s = c.args.self.now in absurd (not_free g.S.Stream.tells s.sessions s.ready s.behind s.written (length s.spare.items) c.in-Some.place c.pop.new.self.places.items told.1 c.in-Some.ensures.first (sym c.in_default-get_mut.ensures.value))

pub returns-then-not-session-clause-names : goal.returns-then-not-session-clause-names
returns-then-not-session-clause-names g c = λ world told.
    let t = g.S.Stream.tells in
    let s = c.args.self.now in
    let a = c.in-Some-get_mut.session.now in
    let b : Session g.row.S.Denot = record a { is_queued = false } in
    let was = sym c.in-Some-get_mut.ensures.value in
    let same : IsSame a b = record { number = refl; is_open = refl } in
    let shut : IsClosedAt s.sessions c.in-Some.place = (a, was, c.if-not-session.true) in (
      world,
      c.wind_up.ensures.keeps (still_closed t s.sessions c.in-Some.place a b was same shut) world (
        moved_at t s.sessions s.entries.items s.closed.items s.spare.items c.in-Some.place a b was same shut world told.0,
        queues_popped s.sessions s.ready c.pop.new.self s.behind s.written (length s.spare.items) c.in-Some.place a b was refl refl c.in-Some.ensures.first c.in-Some.ensures.room told.1,
      ),
      refl,
    )

pub returns-then-not-has_unsent-clause-names : goal.returns-then-not-has_unsent-clause-names
returns-then-not-has_unsent-clause-names g c = λ world told.
    let t = g.S.Stream.tells in
    let s = c.args.self.now in
    let a = c.in-Some-get_mut.session.now in
    let b = c.begin_turn.new.self in
    let still = c.begin_turn.ensures.still in
    let was = sym c.in-Some-get_mut.ensures.value in
    let named = named_at t s.sessions s.entries.items s.closed.items s.spare.items c.in-Some.place a b world was c.if-not-session.false (record { number = still.number; is_open = still.is_open })
    (session_named t a b c.begin_turn.ensures.ports (λ p u. absurd (c.has_unsent.ensures.waits c.if-not-has_unsent.true p (subst (λ v. IsUnsentAt (slice_get v.items p)) (sym c.begin_turn.ensures.ports) u)))) told.0 in (
      named.0,
      (named.1, queues_popped s.sessions s.ready c.pop.new.self s.behind s.written (length s.spare.items) c.in-Some.place a b was still.queued still.written c.in-Some.ensures.first c.in-Some.ensures.room told.1),
      subst (λ k. Names k world named.0) (sym still.number) named.2,
    )

pub returns-then-write_down-clause-names : goal.returns-then-write_down-clause-names
returns-then-write_down-clause-names g c = λ world told.
    let t = g.S.Stream.tells in
    let s = c.args.self.now in
    let place = c.in-Some.place in
    let a = c.in-Some-get_mut.session.now in
    let b = c.begin_turn.new.self in
    let d = c.write_down.new.self in
    let still = c.begin_turn.ensures.still in
    let rest = c.write_down.ensures.rest in
    let was = sym c.in-Some-get_mut.ensures.value in
    let noted = sym c.write_down.ensures.written ∙ c.if-write_down.true in
    let named = named_at t s.sessions s.entries.items s.closed.items s.spare.items place a d world was c.if-not-session.false (record { number = ap (λ x. x.number) rest ∙ still.number; is_open = ap (λ x. x.is_open) rest ∙ still.is_open })
    (session_named t a d (ap (λ x. x.ports) rest ∙ c.begin_turn.ensures.ports) (λ p u. inr noted)) told.0 in
    let popped = queues_popped s.sessions s.ready c.pop.new.self s.behind s.written (length s.spare.items) place a b was still.queued still.written c.in-Some.ensures.first c.in-Some.ensures.room told.1 in (
      named.0,
      (
        named.1,
        subst (λ slab. QueuesStand slab c.pop.new.self s.behind c.write_down.new.queue (length s.spare.items)) (put_twice t s.sessions place b d)
            (written_down t (with_value s.sessions place b) c.pop.new.self s.behind s.written c.write_down.new.queue (length s.spare.items) place b d d (put_over t s.sessions place a b was) c.write_down.ensures.was (λ w. c.write_down.ensures.stands w c.if-write_down.true) noted rest refl refl popped),
      ),
      subst (λ k. Names k world named.0) (sym still.number) named.2,
    )

pub returns-clause-names : goal.returns-clause-names
returns-clause-names g c = λ world told.
    let t = g.S.Stream.tells in
    let s = c.args.self.now in
    let place = c.in-Some.place in
    let a = c.in-Some-get_mut.session.now in
    let b = c.begin_turn.new.self in
    let d = c.write_down.new.self in
    let e = c.stand_in.new.self in
    let still = c.begin_turn.ensures.still in
    let was = sym c.in-Some-get_mut.ensures.value in
    let same = not_down t b d c.write_down.result c.write_down.ensures.written c.if-write_down.false (λ w. (c.write_down.ensures.was w).0) c.write_down.ensures.rest in
    let rest = from_rest t b d e same c.stand_in.ensures.rest in
    let popped = queues_popped s.sessions s.ready c.pop.new.self s.behind s.written (length s.spare.items) place a b was still.queued still.written c.in-Some.ensures.first c.in-Some.ensures.room told.1 in
    let stood = stood_from t (with_value s.sessions place b) c.pop.new.self s.behind c.stand_in.new.queue s.written (length s.spare.items) place b d e same (put_over t s.sessions place a b was) c.stand_in.ensures.was c.stand_in.ensures.stands c.stand_in.ensures.rest popped in
    let named = named_at t s.sessions s.entries.items s.closed.items s.spare.items place a e world was c.if-not-session.false (record { number = ap (λ x. x.number) rest ∙ still.number; is_open = ap (λ x. x.is_open) rest ∙ still.is_open })
    (session_named t a e (ap (λ x. x.ports) rest ∙ c.begin_turn.ensures.ports) (λ p u. inl stood.queued)) told.0 in (
      named.0,
      (
        named.1,
        subst (λ q. QueuesStand (with_value s.sessions place e) c.pop.new.self c.stand_in.new.queue q (length s.spare.items)) (sym (c.write_down.ensures.kept c.if-write_down.false))
            (subst (λ slab. QueuesStand slab c.pop.new.self c.stand_in.new.queue s.written (length s.spare.items)) (put_twice t s.sessions place b e) (stood.stands e refl (ap (λ x. x.is_written) rest))),
      ),
      subst (λ k. Names k world named.0) (sym still.number) named.2,
    )

pub returns-then-not-has_unsent-clause-first : goal.returns-then-not-has_unsent-clause-first
returns-then-not-has_unsent-clause-first g c =
    ([], c.in-Some.place, c.in-Some.ensures.first, (c.begin_turn.new.self, put_over g.S.Stream.tells c.args.self.now.sessions c.in-Some.place c.in-Some-get_mut.session.now c.begin_turn.new.self (sym c.in-Some-get_mut.ensures.value), refl))

pub returns-then-write_down-clause-first : goal.returns-then-write_down-clause-first
returns-then-write_down-clause-first g c =
    ([], c.in-Some.place, c.in-Some.ensures.first, (c.write_down.new.self, put_over g.S.Stream.tells c.args.self.now.sessions c.in-Some.place c.in-Some-get_mut.session.now c.write_down.new.self (sym c.in-Some-get_mut.ensures.value), ap (λ x. x.number) c.write_down.ensures.rest))

pub returns-clause-first : goal.returns-clause-first
returns-clause-first g c =
    ([], c.in-Some.place, c.in-Some.ensures.first, (c.stand_in.new.self, put_over g.S.Stream.tells c.args.self.now.sessions c.in-Some.place c.in-Some-get_mut.session.now c.stand_in.new.self (sym c.in-Some-get_mut.ensures.value), ap (λ x. x.number) c.stand_in.ensures.rest ∙ ap (λ x. x.number) c.write_down.ensures.rest))

pub returns-then-not-session-clause-winds : goal.returns-then-not-session-clause-winds
returns-then-not-session-clause-winds g c =
    let t = g.S.Stream.tells in
    let s = c.args.self.now in
    let place = c.in-Some.place in
    let a = c.in-Some-get_mut.session.now in
    let b : Session g.row.S.Denot = record a { is_queued = false } in
    winds_on t s.sessions (with_value s.sessions place b) c.wind_up.new.self.sessions (winds_same t s.sessions place a b (sym c.in-Some-get_mut.ensures.value) refl (λ shut. shut) refl) c.wind_up.ensures.winds

pub returns-then-not-has_unsent-clause-winds : goal.returns-then-not-has_unsent-clause-winds
returns-then-not-has_unsent-clause-winds g c =
    winds_open g.S.Stream.tells c.args.self.now.sessions c.in-Some.place c.in-Some-get_mut.session.now c.begin_turn.new.self (sym c.in-Some-get_mut.ensures.value) c.if-not-session.false

pub returns-then-write_down-clause-winds : goal.returns-then-write_down-clause-winds
returns-then-write_down-clause-winds g c =
    winds_open g.S.Stream.tells c.args.self.now.sessions c.in-Some.place c.in-Some-get_mut.session.now c.write_down.new.self (sym c.in-Some-get_mut.ensures.value) c.if-not-session.false

pub returns-clause-winds : goal.returns-clause-winds
returns-clause-winds g c =
    winds_open g.S.Stream.tells c.args.self.now.sessions c.in-Some.place c.in-Some-get_mut.session.now c.stand_in.new.self (sym c.in-Some-get_mut.ensures.value) c.if-not-session.false

pub returns-in_default-clause-turn : goal.returns-in_default-clause-turn
returns-in_default-clause-turn g c = λ world told.
    let s = c.args.self.now in
    ([], record { line = line_first [] s.ready.places.items c.pop.new.self.places.items s.behind s.behind c.in_default.ensures.first (grows_same s.behind s.behind refl); closed = none_closed s.entries.items; entries = refl })

pub returns-in_default-get_mut-clause-turn : goal.returns-in_default-get_mut-clause-turn
returns-in_default-get_mut-clause-turn g c = λ world told.
    let s = c.args.self.now in
    absurd (not_free g.S.Stream.tells s.sessions s.ready s.behind s.written (length s.spare.items) c.in-Some.place c.pop.new.self.places.items told.1 c.in-Some.ensures.first (sym c.in_default-get_mut.ensures.value))

pub returns-then-not-session-clause-turn : goal.returns-then-not-session-clause-turn
returns-then-not-session-clause-turn g c = λ world told.
    let t = g.S.Stream.tells in
    let s = c.args.self.now in
    let place = c.in-Some.place in
    let after = c.wind_up.new.self in (
      place ∷ [],
      record {
        line = line_first (place ∷ []) s.ready.places.items after.ready.places.items s.behind after.behind (c.in-Some.ensures.first ∙ ap (λ (q : Queue). place ∷ q.places.items) (sym c.wind_up.ensures.ready)) c.wind_up.ensures.behind;
        closed = one_closed t s place c.in-Some-get_mut.session.now world told (sym c.in-Some-get_mut.ensures.value) c.if-not-session.true;
        entries = c.wind_up.ensures.entries;
      },
    )

pub returns-then-not-has_unsent-clause-turn : goal.returns-then-not-has_unsent-clause-turn
returns-then-not-has_unsent-clause-turn g c = λ world told.
    let s = c.args.self.now in
    let place = c.in-Some.place in (
      [],
      place,
      record {
        line = line_first (place ∷ []) s.ready.places.items c.pop.new.self.places.items s.behind s.behind c.in-Some.ensures.first (grows_same s.behind s.behind refl);
        closed = none_closed s.entries.items;
        entries = refl;
        number = (c.begin_turn.new.self, put_over g.S.Stream.tells s.sessions place c.in-Some-get_mut.session.now c.begin_turn.new.self (sym c.in-Some-get_mut.ensures.value), refl);
      },
    )

pub returns-then-write_down-clause-turn : goal.returns-then-write_down-clause-turn
returns-then-write_down-clause-turn g c = λ world told.
    let s = c.args.self.now in
    let place = c.in-Some.place in (
      [],
      place,
      record {
        line = line_first (place ∷ []) s.ready.places.items c.pop.new.self.places.items s.behind s.behind c.in-Some.ensures.first (grows_same s.behind s.behind refl);
        closed = none_closed s.entries.items;
        entries = refl;
        number = (c.write_down.new.self, put_over g.S.Stream.tells s.sessions place c.in-Some-get_mut.session.now c.write_down.new.self (sym c.in-Some-get_mut.ensures.value), ap (λ x. x.number) c.write_down.ensures.rest);
      },
    )

pub returns-clause-turn : goal.returns-clause-turn
returns-clause-turn g c = λ world told.
    let s = c.args.self.now in
    let place = c.in-Some.place in (
      [],
      place,
      record {
        line = line_first (place ∷ []) s.ready.places.items c.pop.new.self.places.items s.behind c.stand_in.new.queue c.in-Some.ensures.first (c.stand_in.ensures.grows);
        closed = none_closed s.entries.items;
        entries = refl;
        number = (c.stand_in.new.self, put_over g.S.Stream.tells s.sessions place c.in-Some-get_mut.session.now c.stand_in.new.self (sym c.in-Some-get_mut.ensures.value), ap (λ x. x.number) c.stand_in.ensures.rest ∙ ap (λ x. x.number) c.write_down.ensures.rest);
      },
    )

pub returns-in_default-clause-steps : goal.returns-in_default-clause-steps
returns-in_default-clause-steps g c = no_turn c.args.self.now _ c.in_default.ensures.first refl

pub returns-in_default-get_mut-clause-steps : goal.returns-in_default-get_mut-clause-steps
returns-in_default-get_mut-clause-steps g c = lost_turn c.in-Some.place c.args.self.now _ c.in-Some.ensures.first refl (sym c.in_default-get_mut.ensures.value)

pub returns-then-not-session-clause-steps : goal.returns-then-not-session-clause-steps
returns-then-not-session-clause-steps g c =
    let s = c.args.self.now in
    let place = c.in-Some.place in
    let a = c.in-Some-get_mut.session.now in
    let b : Session g.row.S.Denot = record a { is_queued = false } in
    let was = sym c.in-Some-get_mut.ensures.value in
    let d = c.wind_up.new.self.sessions in
    one_turn place s c.wind_up.new.self (c.in-Some.ensures.first ∙ ap (λ (q : Queue). place ∷ q.places.items) (sym c.wind_up.ensures.ready))
    (others_on place s.sessions (with_value s.sessions place b) d (others_put s.sessions place a b was) c.wind_up.ensures.others)
    (stays_on place s.sessions (with_value s.sessions place b) d (stays_put place s.sessions a b was refl) c.wind_up.ensures.shut) (λ shut. c.wind_up.ensures.sent)

pub returns-then-not-has_unsent-clause-steps : goal.returns-then-not-has_unsent-clause-steps
returns-then-not-has_unsent-clause-steps g c =
    open_turn c.in-Some.place c.args.self.now _ c.in-Some-get_mut.session.now c.begin_turn.new.self c.in-Some.ensures.first (sym c.in-Some-get_mut.ensures.value) c.if-not-session.false refl

pub returns-then-write_down-clause-steps : goal.returns-then-write_down-clause-steps
returns-then-write_down-clause-steps g c =
    open_turn c.in-Some.place c.args.self.now _ c.in-Some-get_mut.session.now c.write_down.new.self c.in-Some.ensures.first (sym c.in-Some-get_mut.ensures.value) c.if-not-session.false refl

pub returns-clause-steps : goal.returns-clause-steps
returns-clause-steps g c =
    open_turn c.in-Some.place c.args.self.now _ c.in-Some-get_mut.session.now c.stand_in.new.self c.in-Some.ensures.first (sym c.in-Some-get_mut.ensures.value) c.if-not-session.false refl

pub returns-then-not-session-clause-taken : goal.returns-then-not-session-clause-taken
returns-then-not-session-clause-taken g c = ap (λ (q : Queue). q.places.items) c.wind_up.ensures.ready ∙ c.in-Some.ensures.rest

pub returns-then-not-session-clause-below : goal.returns-then-not-session-clause-below
returns-then-not-session-clause-below g c = λ next below.
    let s = c.args.self.now in
    let a = c.in-Some-get_mut.session.now in
    c.wind_up.ensures.below next (below_put s.sessions c.in-Some.place a (record a { is_queued = false }) (sym c.in-Some-get_mut.ensures.value) refl next below)

pub returns-then-not-has_unsent-clause-below : goal.returns-then-not-has_unsent-clause-below
returns-then-not-has_unsent-clause-below g c = below_put c.args.self.now.sessions c.in-Some.place c.in-Some-get_mut.session.now c.begin_turn.new.self (sym c.in-Some-get_mut.ensures.value) c.begin_turn.ensures.still.number

pub returns-then-write_down-clause-below : goal.returns-then-write_down-clause-below
returns-then-write_down-clause-below g c = below_put c.args.self.now.sessions c.in-Some.place c.in-Some-get_mut.session.now c.write_down.new.self (sym c.in-Some-get_mut.ensures.value) (ap (λ x. x.number) c.write_down.ensures.rest ∙ c.begin_turn.ensures.still.number)

pub returns-clause-below : goal.returns-clause-below
returns-clause-below g c =
    below_put c.args.self.now.sessions c.in-Some.place c.in-Some-get_mut.session.now c.stand_in.new.self (sym c.in-Some-get_mut.ensures.value)
    (ap (λ x. x.number) c.stand_in.ensures.rest ∙ (ap (λ x. x.number) c.write_down.ensures.rest ∙ c.begin_turn.ensures.still.number))

pub returns-then-not-has_unsent-clause-number : goal.returns-then-not-has_unsent-clause-number
returns-then-not-has_unsent-clause-number g c = λ next below. omega (arith, c.begin_turn.ensures.still.number, below c.in-Some.place c.in-Some-get_mut.session.now (sym c.in-Some-get_mut.ensures.value))

pub returns-then-write_down-clause-number : goal.returns-then-write_down-clause-number
returns-then-write_down-clause-number g c = λ next below. omega (arith, c.begin_turn.ensures.still.number, below c.in-Some.place c.in-Some-get_mut.session.now (sym c.in-Some-get_mut.ensures.value))

pub returns-clause-number : goal.returns-clause-number
returns-clause-number g c = λ next below. omega (arith, c.begin_turn.ensures.still.number, below c.in-Some.place c.in-Some-get_mut.session.now (sym c.in-Some-get_mut.ensures.value))

pub returns-then-not-session-clause-stepped : goal.returns-then-not-session-clause-stepped
returns-then-not-session-clause-stepped g c = λ world told stepped.
    let s = c.args.self.now in
    let place = c.in-Some.place in
    let a = c.in-Some-get_mut.session.now in
    let b : Session g.row.S.Denot = record a { is_queued = false } in
    wound_stepped place (with_value s.sessions place b) c.wind_up.new.self.sessions (others_stepped s.sessions place a b (sym c.in-Some-get_mut.ensures.value) stepped) c.wind_up.ensures.others c.wind_up.ensures.sent c.wind_up.ensures.told

pub returns-then-not-has_unsent-clause-stepped : goal.returns-then-not-has_unsent-clause-stepped
returns-then-not-has_unsent-clause-stepped g c = λ world told. stepped_put c.args.self.now.sessions c.in-Some.place c.in-Some-get_mut.session.now c.begin_turn.new.self (sym c.in-Some-get_mut.ensures.value) (λ was. open_stepped c.begin_turn.new.self (c.begin_turn.ensures.still.is_open ∙ c.if-not-session.false))

pub returns-then-write_down-clause-stepped : goal.returns-then-write_down-clause-stepped
returns-then-write_down-clause-stepped g c = λ world told. stepped_put c.args.self.now.sessions c.in-Some.place c.in-Some-get_mut.session.now c.write_down.new.self (sym c.in-Some-get_mut.ensures.value) (λ was. open_stepped c.write_down.new.self (ap (λ x. x.is_open) c.write_down.ensures.rest ∙ (c.begin_turn.ensures.still.is_open ∙ c.if-not-session.false)))

pub returns-clause-stepped : goal.returns-clause-stepped
returns-clause-stepped g c =
    λ world told. stepped_put c.args.self.now.sessions c.in-Some.place c.in-Some-get_mut.session.now c.stand_in.new.self (sym c.in-Some-get_mut.ensures.value) (λ was. open_stepped c.stand_in.new.self (ap (λ x. x.is_open) c.stand_in.ensures.rest ∙ (ap (λ x. x.is_open) c.write_down.ensures.rest ∙ (c.begin_turn.ensures.still.is_open ∙ c.if-not-session.false))))

pub returns-in_default-clause-winds : goal.returns-in_default-clause-winds
returns-in_default-clause-winds g c = winds_nowhere g.S.Stream.tells c.args.self.now.sessions

pub returns-in_default-clause-stepped : goal.returns-in_default-clause-stepped
returns-in_default-clause-stepped g c = λ world told stepped. stepped

pub returns-in_default-get_mut-clause-winds : goal.returns-in_default-get_mut-clause-winds
returns-in_default-get_mut-clause-winds g c = winds_nowhere g.S.Stream.tells c.args.self.now.sessions

pub returns-in_default-get_mut-clause-stepped : goal.returns-in_default-get_mut-clause-stepped
returns-in_default-get_mut-clause-stepped g c = λ world told stepped. stepped

pub returns-then-not-session-clause-first : goal.returns-then-not-session-clause-first
returns-then-not-session-clause-first g c = grind (arith, common_steps)

pub returns-in_default-clause-names : goal.returns-in_default-clause-names
returns-in_default-clause-names g c = grind (arith, common_steps)

pub returns-then-write_down-clause-taken : goal.returns-then-write_down-clause-taken
returns-then-write_down-clause-taken g c = grind (arith, common_steps)

use Rattle.std.proofs.Common.{arith, length, sym, refl, ◌∙◌, subst, inl, inr, ap}
use Rattle.slab.specs.Slab.{with_value}
use Rattle.gate_hub.specs.Hubs.{LinkWrites}
use Rattle.mio_edge.specs.Turns.{QueuesStand}
use Rattle.mio_edge.proofs.Standing.{stood_behind, rest_same, rest_written, unspent, written_down, down_same, down_tells, down_allowance, not_down, stood_from, from_rest}
use Rattle.mio_edge.proofs.Tables.{not_lost, not_empty, at_open, then_is, same_still}
use Rattle.mio_edge.specs.Closing.{winds_nowhere}
use Rattle.mio_edge.proofs.Closing.{winds_open, open_at}
use Rattle.mio_edge.specs.Lines.{grows_same}
use Rattle.mio_edge.proofs.Numbered.{below_put}
use Rattle.mio_edge.proofs.Stepping.{open_stepped, stepped_put}
use Rattle.mio_edge.proofs.table.Table.write_first.Goals as goal
use Rattle.std.proofs.lemmas.Grind.{common_steps}

pub returns-in_default-clause-leads : goal.returns-in_default-clause-leads
returns-in_default-clause-leads g c = λ world told some. absurd (not_lost g.S.Stream.tells c.args.self.now.sessions c.args.self.now.entries.items c.args.self.now.closed.items c.args.self.now.spare.items world c.args.number told.0 some (sym (c.find.ensures world told) ∙ c.in_default.is))

pub returns-in_default-get_mut-clause-leads : goal.returns-in_default-get_mut-clause-leads
returns-in_default-get_mut-clause-leads g c = λ world told some. absurd (not_empty g.S.Stream.tells c.args.self.now.sessions c.args.self.now.entries.items c.args.self.now.closed.items c.args.self.now.spare.items world c.args.number c.in-Some.place told.0 some (sym (c.find.ensures world told) ∙ c.in-Some.is) (sym c.in_default-get_mut.ensures.value))

pub returns-then-is_spent-clause-leads : goal.returns-then-is_spent-clause-leads
returns-then-is_spent-clause-leads g c = λ world told some.
    let t = g.S.Stream.tells in
    let s = c.args.self.now in
    let a = c.in-Some-get_mut.session.now in
    let b = c.stand_in.new.self in
    let d = c.write.new.self in
    let was = sym c.in-Some-get_mut.ensures.value in
    let stood = stood_behind t s.sessions s.ready s.behind c.stand_in.new.queue s.written (length s.spare.items) c.in-Some.place a b was c.stand_in.ensures.was c.stand_in.ensures.stands c.stand_in.ensures.rest told.1 in
    let moved = at_open t s.sessions s.entries.items s.closed.items s.spare.items c.args.number c.args.port c.in-Some.place a d (LinkWrites c.args.from.now c.write.result) (λ w tells. sym (c.find.ensures world told) ∙ c.in-Some.is) was
    (then_is t a b d (rest_same t a b c.stand_in.ensures.rest) (same_still t b d c.write.ensures.still)) (λ links tells. c.write.ensures.leads ((λ spent. stood.queued), inl stood.queued) links (stood.keeps links tells)) world told.0 some in
    (moved.0, (moved.1, stood.stands d c.write.ensures.still.queued (c.write.ensures.still.written ∙ rest_written t a b c.stand_in.ensures.rest)), moved.2)

pub returns-then-not-write_down-clause-leads : goal.returns-then-not-write_down-clause-leads
returns-then-not-write_down-clause-leads g c = λ world told some.
    let t = g.S.Stream.tells in
    let s = c.args.self.now in
    let a = c.in-Some-get_mut.session.now in
    let b = c.stand_in-then-not-write_down.new.self in
    let d = c.write-then-not-write_down.new.self in
    let was = sym c.in-Some-get_mut.ensures.value in
    let same = not_down t a c.write_down.new.self c.write_down.result c.write_down.ensures.written c.if-not-write_down.true (λ w. (c.write_down.ensures.was w).0) c.write_down.ensures.rest in
    let rest = from_rest t a c.write_down.new.self b same c.stand_in-then-not-write_down.ensures.rest in
    let stood = stood_from t s.sessions s.ready s.behind c.stand_in-then-not-write_down.new.queue s.written (length s.spare.items) c.in-Some.place a c.write_down.new.self b same was c.stand_in-then-not-write_down.ensures.was c.stand_in-then-not-write_down.ensures.stands c.stand_in-then-not-write_down.ensures.rest told.1 in
    let moved = at_open t s.sessions s.entries.items s.closed.items s.spare.items c.args.number c.args.port c.in-Some.place a d (LinkWrites c.args.from.now c.write-then-not-write_down.result) (λ w tells. sym (c.find.ensures world told) ∙ c.in-Some.is) was
    (then_is t a b d (rest_same t a b rest) (same_still t b d c.write-then-not-write_down.ensures.still)) (λ links tells. c.write-then-not-write_down.ensures.leads ((λ spent. stood.queued), inl stood.queued) links (stood.keeps links tells)) world told.0 some in
    let queues = stood.stands d c.write-then-not-write_down.ensures.still.queued (c.write-then-not-write_down.ensures.still.written ∙ rest_written t a b rest) in
    (moved.0, (moved.1, subst (λ q. QueuesStand (with_value s.sessions c.in-Some.place d) s.ready c.stand_in-then-not-write_down.new.queue q (length s.spare.items)) (sym (c.write_down.ensures.kept c.if-not-write_down.true)) queues), moved.2)

pub returns-clause-leads : goal.returns-clause-leads
returns-clause-leads g c = λ world told some.
    let t = g.S.Stream.tells in
    let s = c.args.self.now in
    let a = c.in-Some-get_mut.session.now in
    let b = c.write_down.new.self in
    let d = c.write-2.new.self in
    let was = sym c.in-Some-get_mut.ensures.value in
    let noted = sym c.write_down.ensures.written ∙ c.if-not-write_down.false in
    let moved = at_open t s.sessions s.entries.items s.closed.items s.spare.items c.args.number c.args.port c.in-Some.place a d (LinkWrites c.args.from.now c.write-2.result) (λ w tells. sym (c.find.ensures world told) ∙ c.in-Some.is) was
    (then_is t a b d (down_same t a b c.write_down.ensures.rest) (same_still t b d c.write-2.ensures.still))
    (λ links tells. c.write-2.ensures.leads ((λ spent. absurd (unspent t a c.is_spent.result c.is_spent.ensures c.if-is_spent.false (sym (down_allowance t a b c.write_down.ensures.rest) ∙ spent))), inr noted) links (down_tells t a b c.write_down.ensures.rest noted links tells)) world told.0 some in
    (moved.0, (moved.1, written_down t s.sessions s.ready s.behind s.written c.write_down.new.queue (length s.spare.items) c.in-Some.place a b d was c.write_down.ensures.was (λ w. c.write_down.ensures.stands w c.if-not-write_down.false) noted c.write_down.ensures.rest c.write-2.ensures.still.queued c.write-2.ensures.still.written told.1), moved.2)

pub returns-in_default-clause-winds : goal.returns-in_default-clause-winds
returns-in_default-clause-winds g c = λ world told. winds_nowhere g.S.Stream.tells c.args.self.now.sessions

pub returns-in_default-get_mut-clause-winds : goal.returns-in_default-get_mut-clause-winds
returns-in_default-get_mut-clause-winds g c = λ world told. winds_nowhere g.S.Stream.tells c.args.self.now.sessions

pub returns-then-is_spent-clause-winds : goal.returns-then-is_spent-clause-winds
returns-then-is_spent-clause-winds g c = λ world told.
    let t = g.S.Stream.tells in
    let s = c.args.self.now in
    let a = c.in-Some-get_mut.session.now in
    let was = sym c.in-Some-get_mut.ensures.value in
    winds_open t s.sessions c.in-Some.place a c.write.new.self was (open_at t s.sessions s.entries.items s.closed.items s.spare.items world c.args.number c.in-Some.place a told.0 (sym (c.find.ensures world told) ∙ c.in-Some.is) was)

pub returns-then-not-write_down-clause-winds : goal.returns-then-not-write_down-clause-winds
returns-then-not-write_down-clause-winds g c = λ world told.
    let t = g.S.Stream.tells in
    let s = c.args.self.now in
    let a = c.in-Some-get_mut.session.now in
    let was = sym c.in-Some-get_mut.ensures.value in
    winds_open t s.sessions c.in-Some.place a c.write-then-not-write_down.new.self was (open_at t s.sessions s.entries.items s.closed.items s.spare.items world c.args.number c.in-Some.place a told.0 (sym (c.find.ensures world told) ∙ c.in-Some.is) was)

pub returns-clause-winds : goal.returns-clause-winds
returns-clause-winds g c = λ world told.
    let t = g.S.Stream.tells in
    let s = c.args.self.now in
    let a = c.in-Some-get_mut.session.now in
    let was = sym c.in-Some-get_mut.ensures.value in
    winds_open t s.sessions c.in-Some.place a c.write-2.new.self was (open_at t s.sessions s.entries.items s.closed.items s.spare.items world c.args.number c.in-Some.place a told.0 (sym (c.find.ensures world told) ∙ c.in-Some.is) was)

pub returns-then-is_spent-clause-joins : goal.returns-then-is_spent-clause-joins
returns-then-is_spent-clause-joins g c = record { ready = refl; behind = c.stand_in.ensures.grows }

pub returns-then-not-write_down-clause-joins : goal.returns-then-not-write_down-clause-joins
returns-then-not-write_down-clause-joins g c = record { ready = refl; behind = c.stand_in-then-not-write_down.ensures.grows }

pub returns-clause-joins : goal.returns-clause-joins
returns-clause-joins g c = record { ready = refl; behind = grows_same c.args.self.now.behind c.args.self.now.behind refl }

pub returns-in_default-clause-joins : goal.returns-in_default-clause-joins
returns-in_default-clause-joins g c = record { ready = refl; behind = grows_same c.args.self.now.behind c.args.self.now.behind refl }

pub returns-in_default-get_mut-clause-joins : goal.returns-in_default-get_mut-clause-joins
returns-in_default-get_mut-clause-joins g c = record { ready = refl; behind = grows_same c.args.self.now.behind c.args.self.now.behind refl }

pub returns-then-is_spent-clause-below : goal.returns-then-is_spent-clause-below
returns-then-is_spent-clause-below g c = below_put c.args.self.now.sessions c.in-Some.place c.in-Some-get_mut.session.now c.write.new.self (sym c.in-Some-get_mut.ensures.value) (c.write.ensures.still.number ∙ ap (λ x. x.number) c.stand_in.ensures.rest)

pub returns-then-not-write_down-clause-below : goal.returns-then-not-write_down-clause-below
returns-then-not-write_down-clause-below g c =
    below_put c.args.self.now.sessions c.in-Some.place c.in-Some-get_mut.session.now c.write-then-not-write_down.new.self (sym c.in-Some-get_mut.ensures.value)
    (c.write-then-not-write_down.ensures.still.number ∙ (ap (λ x. x.number) c.stand_in-then-not-write_down.ensures.rest ∙ ap (λ x. x.number) c.write_down.ensures.rest))

pub returns-clause-below : goal.returns-clause-below
returns-clause-below g c = below_put c.args.self.now.sessions c.in-Some.place c.in-Some-get_mut.session.now c.write-2.new.self (sym c.in-Some-get_mut.ensures.value) (c.write-2.ensures.still.number ∙ ap (λ x. x.number) c.write_down.ensures.rest)

pub returns-in_default-clause-stepped : goal.returns-in_default-clause-stepped
returns-in_default-clause-stepped g c = λ world told stepped. stepped

pub returns-in_default-get_mut-clause-stepped : goal.returns-in_default-get_mut-clause-stepped
returns-in_default-get_mut-clause-stepped g c = λ world told stepped. stepped

pub returns-then-is_spent-clause-stepped : goal.returns-then-is_spent-clause-stepped
returns-then-is_spent-clause-stepped g c = λ world told.
    let s = c.args.self.now in
    let a = c.in-Some-get_mut.session.now in
    let was = sym c.in-Some-get_mut.ensures.value in
    let is_open = open_at g.S.Stream.tells s.sessions s.entries.items s.closed.items s.spare.items world c.args.number c.in-Some.place a told.0 (sym (c.find.ensures world told) ∙ c.in-Some.is) was in
    stepped_put s.sessions c.in-Some.place a c.write.new.self was (λ before. open_stepped c.write.new.self ((c.write.ensures.still.is_open ∙ ap (λ x. x.is_open) c.stand_in.ensures.rest) ∙ is_open))

pub returns-then-not-write_down-clause-stepped : goal.returns-then-not-write_down-clause-stepped
returns-then-not-write_down-clause-stepped g c = λ world told.
    let s = c.args.self.now in
    let a = c.in-Some-get_mut.session.now in
    let was = sym c.in-Some-get_mut.ensures.value in
    let is_open = open_at g.S.Stream.tells s.sessions s.entries.items s.closed.items s.spare.items world c.args.number c.in-Some.place a told.0 (sym (c.find.ensures world told) ∙ c.in-Some.is) was in
    stepped_put s.sessions c.in-Some.place a c.write-then-not-write_down.new.self was (λ before. open_stepped c.write-then-not-write_down.new.self ((c.write-then-not-write_down.ensures.still.is_open ∙ (ap (λ x. x.is_open) c.stand_in-then-not-write_down.ensures.rest ∙ ap (λ x. x.is_open) c.write_down.ensures.rest)) ∙ is_open))

pub returns-clause-stepped : goal.returns-clause-stepped
returns-clause-stepped g c = λ world told.
    let s = c.args.self.now in
    let a = c.in-Some-get_mut.session.now in
    let was = sym c.in-Some-get_mut.ensures.value in
    let is_open = open_at g.S.Stream.tells s.sessions s.entries.items s.closed.items s.spare.items world c.args.number c.in-Some.place a told.0 (sym (c.find.ensures world told) ∙ c.in-Some.is) was in
    stepped_put s.sessions c.in-Some.place a c.write-2.new.self was (λ before. open_stepped c.write-2.new.self ((c.write-2.ensures.still.is_open ∙ ap (λ x. x.is_open) c.write_down.ensures.rest) ∙ is_open))

pub write-requires-2 : goal.write-requires-2
write-requires-2 g c = grind (arith, common_steps)

pub write-requires : goal.write-requires
write-requires g c = grind (arith, common_steps)

pub write-requires-then-not-write_down : goal.write-requires-then-not-write_down
write-requires-then-not-write_down g c = grind (arith, common_steps)

use Rattle.std.proofs.Common.{arith, length, sym, refl, ◌∙◌, ap}
use Rattle.gate_hub.specs.Hubs.{LinkReads}
use Rattle.mio_edge.proofs.Standing.{stood_behind, rest_same, rest_written, unspent}
use Rattle.mio_edge.proofs.Tables.{not_lost, not_empty, at_open, then_is, same_still}
use Rattle.mio_edge.proofs.Turns.{queues_still}
use Rattle.mio_edge.specs.Closing.{winds_nowhere}
use Rattle.mio_edge.proofs.Closing.{winds_open, open_at}
use Rattle.mio_edge.specs.Lines.{grows_same}
use Rattle.mio_edge.proofs.Numbered.{below_put}
use Rattle.mio_edge.proofs.Stepping.{open_stepped, stepped_put}
use Rattle.mio_edge.proofs.table.Table.read.Goals as goal
use Rattle.std.proofs.lemmas.Grind.{common_steps}

pub returns-in_default-clause-leads : goal.returns-in_default-clause-leads
returns-in_default-clause-leads g c = λ world told some. absurd (not_lost g.S.Stream.tells c.args.self.now.sessions c.args.self.now.entries.items c.args.self.now.closed.items c.args.self.now.spare.items world c.args.number told.0 some (sym (c.find.ensures world told) ∙ c.in_default.is))

pub returns-in_default-get_mut-clause-leads : goal.returns-in_default-get_mut-clause-leads
returns-in_default-get_mut-clause-leads g c = λ world told some. absurd (not_empty g.S.Stream.tells c.args.self.now.sessions c.args.self.now.entries.items c.args.self.now.closed.items c.args.self.now.spare.items world c.args.number c.in-Some.place told.0 some (sym (c.find.ensures world told) ∙ c.in-Some.is) (sym c.in_default-get_mut.ensures.value))

pub returns-then-is_spent-clause-leads : goal.returns-then-is_spent-clause-leads
returns-then-is_spent-clause-leads g c = λ world told some.
    let t = g.S.Stream.tells in
    let s = c.args.self.now in
    let a = c.in-Some-get_mut.session.now in
    let b = c.stand_in.new.self in
    let d = c.read.new.self in
    let was = sym c.in-Some-get_mut.ensures.value in
    let stood = stood_behind t s.sessions s.ready s.behind c.stand_in.new.queue s.written (length s.spare.items) c.in-Some.place a b was c.stand_in.ensures.was c.stand_in.ensures.stands c.stand_in.ensures.rest told.1 in
    let moved = at_open t s.sessions s.entries.items s.closed.items s.spare.items c.args.number c.args.port c.in-Some.place a d (LinkReads c.read.new.into c.read.result) (λ w tells. sym (c.find.ensures world told) ∙ c.in-Some.is) was
    (then_is t a b d (rest_same t a b c.stand_in.ensures.rest) (same_still t b d c.read.ensures.still)) (λ links tells. c.read.ensures.leads (λ spent. stood.queued) links (stood.keeps links tells)) world told.0 some in
    (moved.0, (moved.1, stood.stands d c.read.ensures.still.queued (c.read.ensures.still.written ∙ rest_written t a b c.stand_in.ensures.rest)), moved.2)

pub returns-clause-leads : goal.returns-clause-leads
returns-clause-leads g c = λ world told some.
    let t = g.S.Stream.tells in
    let s = c.args.self.now in
    let a = c.in-Some-get_mut.session.now in
    let d = c.read-2.new.self in
    let was = sym c.in-Some-get_mut.ensures.value in
    let moved = at_open t s.sessions s.entries.items s.closed.items s.spare.items c.args.number c.args.port c.in-Some.place a d (LinkReads c.read-2.new.into c.read-2.result) (λ w tells. sym (c.find.ensures world told) ∙ c.in-Some.is) was
    (same_still t a d c.read-2.ensures.still) (c.read-2.ensures.leads (λ spent. absurd (unspent t a c.is_spent.result c.is_spent.ensures c.if-is_spent.false spent))) world told.0 some in
    (moved.0, (moved.1, queues_still s.sessions s.ready s.behind s.written (length s.spare.items) c.in-Some.place a d was c.read-2.ensures.still.queued c.read-2.ensures.still.written told.1), moved.2)

pub returns-in_default-clause-winds : goal.returns-in_default-clause-winds
returns-in_default-clause-winds g c = λ world told. winds_nowhere g.S.Stream.tells c.args.self.now.sessions

pub returns-in_default-get_mut-clause-winds : goal.returns-in_default-get_mut-clause-winds
returns-in_default-get_mut-clause-winds g c = λ world told. winds_nowhere g.S.Stream.tells c.args.self.now.sessions

pub returns-then-is_spent-clause-winds : goal.returns-then-is_spent-clause-winds
returns-then-is_spent-clause-winds g c = λ world told.
    let t = g.S.Stream.tells in
    let s = c.args.self.now in
    let a = c.in-Some-get_mut.session.now in
    let was = sym c.in-Some-get_mut.ensures.value in
    winds_open t s.sessions c.in-Some.place a c.read.new.self was (open_at t s.sessions s.entries.items s.closed.items s.spare.items world c.args.number c.in-Some.place a told.0 (sym (c.find.ensures world told) ∙ c.in-Some.is) was)

pub returns-clause-winds : goal.returns-clause-winds
returns-clause-winds g c = λ world told.
    let t = g.S.Stream.tells in
    let s = c.args.self.now in
    let a = c.in-Some-get_mut.session.now in
    let was = sym c.in-Some-get_mut.ensures.value in
    winds_open t s.sessions c.in-Some.place a c.read-2.new.self was (open_at t s.sessions s.entries.items s.closed.items s.spare.items world c.args.number c.in-Some.place a told.0 (sym (c.find.ensures world told) ∙ c.in-Some.is) was)

pub returns-then-is_spent-clause-joins : goal.returns-then-is_spent-clause-joins
returns-then-is_spent-clause-joins g c = record { ready = refl; behind = c.stand_in.ensures.grows }

pub returns-clause-joins : goal.returns-clause-joins
returns-clause-joins g c = record { ready = refl; behind = grows_same c.args.self.now.behind c.args.self.now.behind refl }

pub returns-in_default-clause-joins : goal.returns-in_default-clause-joins
returns-in_default-clause-joins g c = record { ready = refl; behind = grows_same c.args.self.now.behind c.args.self.now.behind refl }

pub returns-in_default-get_mut-clause-joins : goal.returns-in_default-get_mut-clause-joins
returns-in_default-get_mut-clause-joins g c = record { ready = refl; behind = grows_same c.args.self.now.behind c.args.self.now.behind refl }

pub returns-then-is_spent-clause-below : goal.returns-then-is_spent-clause-below
returns-then-is_spent-clause-below g c = below_put c.args.self.now.sessions c.in-Some.place c.in-Some-get_mut.session.now c.read.new.self (sym c.in-Some-get_mut.ensures.value) (c.read.ensures.still.number ∙ ap (λ x. x.number) c.stand_in.ensures.rest)

pub returns-clause-below : goal.returns-clause-below
returns-clause-below g c = below_put c.args.self.now.sessions c.in-Some.place c.in-Some-get_mut.session.now c.read-2.new.self (sym c.in-Some-get_mut.ensures.value) c.read-2.ensures.still.number

pub returns-in_default-clause-stepped : goal.returns-in_default-clause-stepped
returns-in_default-clause-stepped g c = λ world told stepped. stepped

pub returns-in_default-get_mut-clause-stepped : goal.returns-in_default-get_mut-clause-stepped
returns-in_default-get_mut-clause-stepped g c = λ world told stepped. stepped

pub returns-then-is_spent-clause-stepped : goal.returns-then-is_spent-clause-stepped
returns-then-is_spent-clause-stepped g c = λ world told.
    let s = c.args.self.now in
    let a = c.in-Some-get_mut.session.now in
    let was = sym c.in-Some-get_mut.ensures.value in
    let is_open = open_at g.S.Stream.tells s.sessions s.entries.items s.closed.items s.spare.items world c.args.number c.in-Some.place a told.0 (sym (c.find.ensures world told) ∙ c.in-Some.is) was in
    stepped_put s.sessions c.in-Some.place a c.read.new.self was (λ before. open_stepped c.read.new.self ((c.read.ensures.still.is_open ∙ ap (λ x. x.is_open) c.stand_in.ensures.rest) ∙ is_open))

pub returns-clause-stepped : goal.returns-clause-stepped
returns-clause-stepped g c = λ world told.
    let s = c.args.self.now in
    let a = c.in-Some-get_mut.session.now in
    let was = sym c.in-Some-get_mut.ensures.value in
    let is_open = open_at g.S.Stream.tells s.sessions s.entries.items s.closed.items s.spare.items world c.args.number c.in-Some.place a told.0 (sym (c.find.ensures world told) ∙ c.in-Some.is) was in
    stepped_put s.sessions c.in-Some.place a c.read-2.new.self was (λ before. open_stepped c.read-2.new.self (c.read-2.ensures.still.is_open ∙ is_open))

pub read-requires : goal.read-requires
read-requires g c = grind (arith, common_steps)

pub read-requires-2 : goal.read-requires-2
read-requires-2 g c = grind (arith, common_steps)

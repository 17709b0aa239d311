use Rattle.std.proofs.Common.{◌≡◌, length, false, Some, refl, sym, inl}
use Rattle.std.specs.List.{slice_get}
use Rattle.mio_edge.proofs.Sessions.{here}
use Rattle.mio_edge.proofs.Entries.{from_behind}
use Rattle.mio_edge.proofs.Tables.{entry_holds, shuts_entry, written}
use Rattle.mio_edge.proofs.Turns.{queues_still}
use Rattle.mio_edge.proofs.Closing.{shut_winds, winds_same}
use Rattle.mio_edge.proofs.Numbered.{below_put}
use Rattle.mio_edge.proofs.Stepping.{any_stepped, others_stepped}
use Rattle.mio_edge.specs.Closing.{winds_nowhere}
use Rattle.mio_edge.proofs.table.Table.shut.Goals as goal

pub returns-in_default-clause-closed : goal.returns-in_default-clause-closed
returns-in_default-clause-closed g c = λ world told.
    let is : slice_get c.args.self.now.entries.items c.args.at ≡ Some c.remove-place.result = here c.args.self.now.entries.items (length c.args.self.now.entries.items) c.args.at c.remove-place.result refl c.requires c.remove-place.ensures.value in
    absurd (entry_holds g.S.Stream.tells c.args.self.now.sessions c.args.self.now.entries.items c.args.self.now.closed.items c.args.self.now.spare.items c.args.at c.remove-place.result world told.0 is (sym c.in_default.ensures.value))

pub returns-in_default-clause-shuts : goal.returns-in_default-clause-shuts
returns-in_default-clause-shuts g c = λ e at world told.
    let is : slice_get c.args.self.now.entries.items c.args.at ≡ Some c.remove-place.result = here c.args.self.now.entries.items (length c.args.self.now.entries.items) c.args.at c.remove-place.result refl c.requires c.remove-place.ensures.value in
    absurd (entry_holds g.S.Stream.tells c.args.self.now.sessions c.args.self.now.entries.items c.args.self.now.closed.items c.args.self.now.spare.items c.args.at c.remove-place.result world told.0 is (sym c.in_default.ensures.value))

pub returns-then-len-capacity-clause-closed : goal.returns-then-len-capacity-clause-closed
returns-then-len-capacity-clause-closed g c = λ world told. ((record c.in-Some.session.now { is_open = false }), (written g.S.Stream.tells c.args.self.now.sessions c.remove-place.result.place c.in-Some.session.now (record c.in-Some.session.now { is_open = false }) (sym c.in-Some.ensures.value)).changed, refl)

pub returns-then-len-capacity-clause-shuts : goal.returns-then-len-capacity-clause-shuts
returns-then-len-capacity-clause-shuts g c = λ e at world told.
    let is : slice_get c.args.self.now.entries.items c.args.at ≡ Some c.remove-place.result = here c.args.self.now.entries.items (length c.args.self.now.entries.items) c.args.at c.remove-place.result refl c.requires c.remove-place.ensures.value in
    let s = c.args.self.now in
    let done = shuts_entry g.S.Stream.tells c.args.self.now.sessions c.args.self.now.entries.items c.remove-place.new.self.items c.args.self.now.closed.items c.push_reserved.new.self.items c.args.self.now.spare.items c.args.at e c.remove-place.result c.in-Some.session.now (record c.in-Some.session.now { is_open = false }) world at is (sym c.in-Some.ensures.value) refl c.remove-place.ensures.by_index.2
    (from_behind c.args.self.now.closed.items c.push_reserved.new.self.items c.remove-place.result.place c.push_reserved.ensures.items) told.0 in
    (done.0, (done.1, queues_still s.sessions s.ready s.behind s.written (length s.spare.items) c.remove-place.result.place c.in-Some.session.now (record c.in-Some.session.now { is_open = false }) (sym c.in-Some.ensures.value) refl refl told.1), done.2)

pub returns-else-len-capacity-clause-closed : goal.returns-else-len-capacity-clause-closed
returns-else-len-capacity-clause-closed g c = λ world told. ((record c.in-Some.session.now { is_open = false }), (written g.S.Stream.tells c.args.self.now.sessions c.remove-place.result.place c.in-Some.session.now (record c.in-Some.session.now { is_open = false }) (sym c.in-Some.ensures.value)).changed, refl)

pub returns-else-len-capacity-clause-shuts : goal.returns-else-len-capacity-clause-shuts
returns-else-len-capacity-clause-shuts g c = λ e at world told.
    let is : slice_get c.args.self.now.entries.items c.args.at ≡ Some c.remove-place.result = here c.args.self.now.entries.items (length c.args.self.now.entries.items) c.args.at c.remove-place.result refl c.requires c.remove-place.ensures.value in
    let s = c.args.self.now in
    let done = shuts_entry g.S.Stream.tells c.args.self.now.sessions c.args.self.now.entries.items c.remove-place.new.self.items c.args.self.now.closed.items c.args.self.now.closed.items c.args.self.now.spare.items c.args.at e c.remove-place.result c.in-Some.session.now (record c.in-Some.session.now { is_open = false }) world at is (sym c.in-Some.ensures.value) refl c.remove-place.ensures.by_index.2
    (λ n q at. inl at) told.0 in
    (done.0, (done.1, queues_still s.sessions s.ready s.behind s.written (length s.spare.items) c.remove-place.result.place c.in-Some.session.now (record c.in-Some.session.now { is_open = false }) (sym c.in-Some.ensures.value) refl refl told.1), done.2)

pub returns-in_default-clause-stands : goal.returns-in_default-clause-stands
returns-in_default-clause-stands g c = λ e world links at told here_is.
    let is : slice_get c.args.self.now.entries.items c.args.at ≡ Some c.remove-place.result = here c.args.self.now.entries.items (length c.args.self.now.entries.items) c.args.at c.remove-place.result refl c.requires c.remove-place.ensures.value in
    absurd (entry_holds g.S.Stream.tells c.args.self.now.sessions c.args.self.now.entries.items c.args.self.now.closed.items c.args.self.now.spare.items c.args.at c.remove-place.result world told.0 is (sym c.in_default.ensures.value))

pub returns-then-len-capacity-clause-stands : goal.returns-then-len-capacity-clause-stands
returns-then-len-capacity-clause-stands g c = λ e world links at told links_are.
    let is : slice_get c.args.self.now.entries.items c.args.at ≡ Some c.remove-place.result = here c.args.self.now.entries.items (length c.args.self.now.entries.items) c.args.at c.remove-place.result refl c.requires c.remove-place.ensures.value in
    let s = c.args.self.now in
    let a = c.in-Some.session.now in
    shut_winds g.S.Stream.tells s.sessions s.entries.items s.closed.items s.spare.items c.args.at e c.remove-place.result a (record a { is_open = false }) world links at is (sym c.in-Some.ensures.value) refl links_are told.0

pub returns-then-len-capacity-clause-winds : goal.returns-then-len-capacity-clause-winds
returns-then-len-capacity-clause-winds g c =
    let a = c.in-Some.session.now in
    winds_same g.S.Stream.tells c.args.self.now.sessions c.remove-place.result.place a (record a { is_open = false }) (sym c.in-Some.ensures.value) refl (λ shut. refl) refl

pub returns-else-len-capacity-clause-stands : goal.returns-else-len-capacity-clause-stands
returns-else-len-capacity-clause-stands g c = λ e world links at told links_are.
    let is : slice_get c.args.self.now.entries.items c.args.at ≡ Some c.remove-place.result = here c.args.self.now.entries.items (length c.args.self.now.entries.items) c.args.at c.remove-place.result refl c.requires c.remove-place.ensures.value in
    let s = c.args.self.now in
    let a = c.in-Some.session.now in
    shut_winds g.S.Stream.tells s.sessions s.entries.items s.closed.items s.spare.items c.args.at e c.remove-place.result a (record a { is_open = false }) world links at is (sym c.in-Some.ensures.value) refl links_are told.0

pub returns-else-len-capacity-clause-winds : goal.returns-else-len-capacity-clause-winds
returns-else-len-capacity-clause-winds g c =
    let a = c.in-Some.session.now in
    winds_same g.S.Stream.tells c.args.self.now.sessions c.remove-place.result.place a (record a { is_open = false }) (sym c.in-Some.ensures.value) refl (λ shut. refl) refl

pub returns-then-len-capacity-clause-below : goal.returns-then-len-capacity-clause-below
returns-then-len-capacity-clause-below g c = below_put c.args.self.now.sessions c.remove-place.result.place c.in-Some.session.now (record c.in-Some.session.now { is_open = false }) (sym c.in-Some.ensures.value) refl

pub returns-else-len-capacity-clause-below : goal.returns-else-len-capacity-clause-below
returns-else-len-capacity-clause-below g c = below_put c.args.self.now.sessions c.remove-place.result.place c.in-Some.session.now (record c.in-Some.session.now { is_open = false }) (sym c.in-Some.ensures.value) refl

pub returns-in_default-clause-stepped : goal.returns-in_default-clause-stepped
returns-in_default-clause-stepped g c = any_stepped c.remove-place.result.place c.args.self.now.sessions

pub returns-then-len-capacity-clause-stepped : goal.returns-then-len-capacity-clause-stepped
returns-then-len-capacity-clause-stepped g c = others_stepped c.args.self.now.sessions c.remove-place.result.place c.in-Some.session.now (record c.in-Some.session.now { is_open = false }) (sym c.in-Some.ensures.value)

pub returns-else-len-capacity-clause-stepped : goal.returns-else-len-capacity-clause-stepped
returns-else-len-capacity-clause-stepped g c = others_stepped c.args.self.now.sessions c.remove-place.result.place c.in-Some.session.now (record c.in-Some.session.now { is_open = false }) (sym c.in-Some.ensures.value)

pub returns-in_default-clause-winds : goal.returns-in_default-clause-winds
returns-in_default-clause-winds g c = winds_nowhere g.S.Stream.tells c.args.self.now.sessions

use Rattle.std.proofs.Common.{arith, length, true, sym, refl, ap}
use Rattle.mio_edge.proofs.Tables.{announces}
use Rattle.mio_edge.proofs.Turns.{queues_still}
use Rattle.mio_edge.proofs.Closing.{others_put}
use Rattle.mio_edge.proofs.Numbered.{below_put}
use Rattle.mio_edge.proofs.Places.{put_there}
use Rattle.mio_edge.proofs.table.Table.announce.Goals as goal
use Rattle.std.proofs.lemmas.Grind.{common_steps}

pub returns-clause-opens : goal.returns-clause-opens
returns-clause-opens g c = λ is ready world told above.
    let s = c.args.self.now in
    let was = sym c.in-Some.ensures.value in
    let done = announces g.S.Stream.tells s c.args.number c.args.place c.in-Some.session.now _ c.push_reserved.new.self.items world was refl c.push_reserved.ensures.items ready told.0 above in
    (done.0, (done.1, queues_still s.sessions s.ready s.behind s.written (length s.spare.items) c.args.place c.in-Some.session.now (record c.in-Some.session.now { is_open = true }) was refl refl told.1), done.2)

pub returns-clause-others : goal.returns-clause-others
returns-clause-others g c = others_put c.args.self.now.sessions c.args.place c.in-Some.session.now (record c.in-Some.session.now { is_open = true }) (sym c.in-Some.ensures.value)

pub returns-clause-below : goal.returns-clause-below
returns-clause-below g c = below_put c.args.self.now.sessions c.args.place c.in-Some.session.now (record c.in-Some.session.now { is_open = true }) (sym c.in-Some.ensures.value) refl

pub returns-clause-stepped : goal.returns-clause-stepped
returns-clause-stepped g c = λ is session at. ap (λ x. x.is_open) (sym (put_there c.args.self.now.sessions c.args.place c.in-Some.session.now (record c.in-Some.session.now { is_open = true }) session (sym c.in-Some.ensures.value) at))

pub returns-then-len-capacity-clause-opens : goal.returns-then-len-capacity-clause-opens
returns-then-len-capacity-clause-opens g c = grind (arith, common_steps)

pub returns-in_default-clause-opens : goal.returns-in_default-clause-opens
returns-in_default-clause-opens g c = grind (arith, common_steps)

pub returns-clause-kept : goal.returns-clause-kept
returns-clause-kept g c = grind (arith, common_steps)

pub returns-clause-refused : goal.returns-clause-refused
returns-clause-refused g c = grind (arith, common_steps)

pub returns-then-len-capacity-clause-refused : goal.returns-then-len-capacity-clause-refused
returns-then-len-capacity-clause-refused g c = grind (arith, common_steps)

pub returns-in_default-clause-refused : goal.returns-in_default-clause-refused
returns-in_default-clause-refused g c = grind (arith, common_steps)

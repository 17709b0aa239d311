use Rattle.idl_consts.proofs.Trailing.{next_name, next_fault, next_none, free_none, goes_followed}
use Rattle.idl_consts.specs.Views.{files_of}
use Rattle.idl_consts.proofs.follow.go_on.Goals as goal

pub returns-in-Name-clause-goes : goal.returns-in-Name-clause-goes
returns-in-Name-clause-goes c =
    let d = files_of c.args.view.now in
    let trail = c.args.trail.now in
    let top = c.take_next.new.frame in
    goes_followed d c.meet_name.result trail (record trail { top = top }) c.meet_name.new.trail c.in-Name.name c.meet_name.ensures
    (λ s m t. next_name d s m trail.outer.items trail.top top c.in-Name.name t.0 t.1 (c.in-Name.ensures d))

pub returns-in-Fault-clause-goes : goal.returns-in-Fault-clause-goes
returns-in-Fault-clause-goes c = λ s m t.
    let d = files_of c.args.view.now in
    let trail = c.args.trail.now in
    next_fault d s m trail.outer.items trail.top c.take_next.new.frame c.in-Fault.field-0 c.in-Fault.row t.0 t.1 (c.in-Fault.ensures d)

pub returns-in-Nothing-clause-goes : goal.returns-in-Nothing-clause-goes
returns-in-Nothing-clause-goes c = λ s m t.
    let d = files_of c.args.view.now in
    let trail = c.args.trail.now in
    c.leave.ensures d s m (next_none d s m trail.outer.items trail.top c.take_next.new.frame t.0 t.1 (c.in-Nothing.ensures d))

pub keep-requires-clause-row : goal.keep-requires-clause-row
keep-requires-clause-row c =
    let d = files_of c.args.view.now in
    free_none d c.args.trail.now.top c.take_next.new.frame c.requires.top (c.in-Nothing.ensures d)

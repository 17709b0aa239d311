use Rattle.idl_consts.proofs.Trailing.{row_met}
use Rattle.idl_consts.specs.Views.{files_of}
use Rattle.idl_consts.proofs.follow.meet_name.Goals as goal

pub returns-in-Some : goal.returns-in-Some
returns-in-Some c = λ s m l. rw c.met.ensures (row_met (files_of c.args.view.now) s m c.args.trail.now c.args.name c.in-Some.row l c.in-Some.ensures)

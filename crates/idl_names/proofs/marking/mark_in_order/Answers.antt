use Rattle.std.proofs.Common.{sym, subst}
use Rattle.idl_names.specs.Files.{file_trees}
use Rattle.idl_names.specs.Marks.{AreMarked}
use Rattle.idl_names.proofs.Reaching.{none_marked}
use Rattle.idl_names.proofs.marking.mark_in_order.Goals as goal

pub loop-spot-init : goal.loop-spot-init
loop-spot-init c =
    let files = file_trees c.args.names.now.files.now in
    subst (AreMarked files) (sym c.requires) (none_marked files)

use Rattle.idl_names.specs.Files.{file_trees}
use Rattle.idl_names.proofs.Rounds.{row_none, row_more}
use Rattle.idl_names.proofs.cycles.row_of.Goals as goal

pub loop-place-init : goal.loop-place-init
loop-place-init c = row_none (file_trees c.args.names.now.files.now) c.args.file c.new-list.result.items c.new-list.ensures.items

pub loop-place-preserved : goal.loop-place-preserved
loop-place-preserved c =
    row_more (file_trees c.args.names.now.files.now) c.args.file c.loop-place.list.items c.push.new.self.items c.in_ok-cycle.cycle c.loop-place.place c.in_ok-push.ensures.items c.loop-place.invariant c.in_ok-cycle.ensures

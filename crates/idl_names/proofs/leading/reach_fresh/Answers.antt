use Rattle.std.proofs.Common.{◌∙◌, sym}
use Rattle.idl_names.specs.Files.{file_trees}
use Rattle.idl_names.proofs.Reaching.{reaching_first, reaching_more, all_beyond}
use Rattle.idl_names.proofs.leading.reach_fresh.Goals as goal

pub spots-init : goal.spots-init
spots-init c = reaching_first (file_trees c.args.names.now.files.now) c.args.marks.now c.args.from c.args.set.now c.add_next.new.set c.requires c.in_ok-add_next.ensures

pub spots-preserved : goal.spots-preserved
spots-preserved c =
    reaching_more (file_trees c.args.names.now.files.now) c.args.marks.now c.args.from c.spots.set c.add_fresh.new.set c.spots.i c.in-Some.spot (sym c.in-Some.ensures.value) c.in_ok-add_fresh.ensures c.spots.invariant

pub returns : goal.returns
returns c = all_beyond (file_trees c.args.names.now.files.now) c.args.marks.now c.args.from c.spots.set c.spots.i (sym c.get.ensures.value ∙ c.in_default.is) c.spots.invariant

use Rattle.std.proofs.Common.{sym}
use Rattle.idl_names.specs.Files.{file_trees}
use Rattle.idl_names.proofs.Marked.{round_first, round_on_more}
use Rattle.idl_names.proofs.Spots.{get_has}
use Rattle.idl_names.proofs.marking.find_round.Goals as goal

pub spots-init : goal.spots-init
spots-init c = round_first (file_trees c.args.names.now.files.now) c.args.from c.args.set.now c.args.round.now c.insert.new.self c.requires.no_round c.in_ok-insert.ensures c.requires.from

pub spots-preserved : goal.spots-preserved
spots-preserved c =
    round_on_more (file_trees c.args.names.now.files.now) c.args.from c.in-Some.spot c.args.set.now c.spots.round c.add_sources.new.round (get_has c.spots.round c.spots.i c.in-Some.spot (sym c.in-Some.ensures.value)) c.spots.invariant
    c.in_ok-add_sources.ensures

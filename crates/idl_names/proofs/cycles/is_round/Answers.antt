use Rattle.std.proofs.Common.{◌≡◌, ◌∙◌, sym, refl, subst, Bool, true, false}
use Rattle.idl_names.specs.declared.documents.Spot.{Spot}
use Rattle.idl_names.specs.Cycles.{IsReached, TellsRound}
use Rattle.idl_names.specs.Files.{FileTree, file_trees}
use Rattle.idl_names.specs.Sets.{is_among}
use Rattle.idl_names.proofs.Rounds.{tells_round}
use Rattle.idl_names.proofs.cycles.is_round.Goals as goal

pub returns : goal.returns
returns c = tells_round (file_trees c.args.names.now.files.now) c.args.spot c.reach-reached.new.set c.contains-round.result c.in_ok-reached.ensures (sym c.contains-round.ensures)

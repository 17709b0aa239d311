use Rattle.std.proofs.Common.{◌∙◌, sym}
use Rattle.idl_names.specs.Files.{file_trees}
use Rattle.idl_names.proofs.Spots.{among_has}
use Rattle.idl_names.proofs.marking.mark_with.Goals as goal

pub mark_round-requires-clause-round : goal.mark_round-requires-clause-round
mark_round-requires-clause-round c = among_has c.args.spot c.reach_fresh.new.set (sym c.contains.ensures ∙ c.if-contains.true)

pub returns : goal.returns
returns c = c.mark_line.ensures (file_trees c.args.names.now.files.now) c.requires.marked c.in_ok-reach_fresh.ensures

use Rattle.std.proofs.Common.{sym}
use Rattle.idl_names.specs.Files.{file_trees}
use Rattle.idl_typedefs.proofs.Reaching.{joined_link, reached_one}
use Rattle.idl_typedefs.proofs.walk.follow.Goals as goal

pub returns-in-Some : goal.returns-in-Some
returns-in-Some c =
    let files = file_trees c.args.names.now.files.now in
    joined_link files c.names.steps c.args.spot c.names.at c.in-Some.link c.joined.result c.names.invariant (c.in-Some.ensures.link files c.requires)
    c.joined.ensures.first c.joined.ensures.last c.joined.ensures.steps

pub names-preserved : goal.names-preserved
names-preserved c =
    let files = file_trees c.args.names.now.files.now in
    reached_one files c.names.steps c.args.spot c.names.at c.in-Some-next.further c.names.invariant (sym c.in-Some-next.ensures)

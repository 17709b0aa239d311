use Rattle.idl_names.specs.Files.{file_trees}
use Rattle.idl_names.proofs.Marked.{gains_none, gains_more}
use Rattle.idl_names.proofs.marking.add_sources.Goals as goal

pub loop-source-init : goal.loop-source-init
loop-source-init c = gains_none (file_trees c.args.names.now.files.now) c.args.set.now c.args.to c.args.round.now

pub loop-source-preserved : goal.loop-source-preserved
loop-source-preserved c =
    gains_more (file_trees c.args.names.now.files.now) c.args.set.now c.args.to c.args.round.now c.loop-source.round c.add_source.new.round c.loop-source.invariant c.in_ok-add_source.ensures

use Rattle.idl_names.proofs.Indexed.{indexed_more}
use Rattle.idl_names.proofs.names.index_of.Goals as goal
use Rattle.std.proofs.Common.{arith}
use Rattle.std.proofs.lemmas.Grind.{common_steps}

pub loop-file-preserved : goal.loop-file-preserved
loop-file-preserved c =
    indexed_more c.args.files.now c.loop-file.index.items c.push.new.self.items c.file-item.result c.in_ok-names.names c.loop-file.file-index c.loop-file-test.true c.file-item.is c.in_ok-push.ensures.items
    c.loop-file.invariant c.in_ok-names.ensures

pub returns : goal.returns
returns c = grind (arith, common_steps)

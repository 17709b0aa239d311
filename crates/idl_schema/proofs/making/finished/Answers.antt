use Rattle.std.proofs.Common.{arith}
use Rattle.std.proofs.lemmas.Grind.{common_steps}
use Rattle.idl_schema.proofs.making.finished.Goals as goal

pub finish-requires : goal.finish-requires
finish-requires c = grind (arith, common_steps)

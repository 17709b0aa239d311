use Rattle.std.proofs.Common.{arith}
use Rattle.std.proofs.lemmas.Grind.{elements}
use Rattle.idl_consts.proofs.knowing.Known.put.Goals as goal

pub returns-then-place-len : goal.returns-then-place-len
returns-then-place-len c = grind (arith, elements)

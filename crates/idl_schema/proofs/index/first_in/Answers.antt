use Rattle.std.proofs.Common.{arith}
use Rattle.std.proofs.lemmas.Grind.{elements}
use Rattle.idl_schema.proofs.index.first_in.Goals as goal

pub returns-in_err-row : goal.returns-in_err-row
returns-in_err-row c = grind (arith, elements)

pub returns : goal.returns
returns c = grind (arith, elements)

use Rattle.std.proofs.Common.{arith}
use Rattle.std.proofs.lemmas.Grind.{elements}
use Rattle.idl_names.proofs.names.include_in.Goals as goal

pub returns-in_err-names : goal.returns-in_err-names
returns-in_err-names c = grind (arith, elements)

pub returns : goal.returns
returns c = grind (arith, elements)

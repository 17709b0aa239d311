use Rattle.std.proofs.Common.{arith}
use Rattle.std.proofs.lemmas.Grind.{elements}
use Rattle.idl_names.proofs.names.place_in.Goals as goal

pub returns-in-Services : goal.returns-in-Services
returns-in-Services c = grind (arith, elements)

pub returns-in_err-names : goal.returns-in_err-names
returns-in_err-names c = grind (arith, elements)

pub returns-in-Types : goal.returns-in-Types
returns-in-Types c = grind (arith, elements)

pub returns-in-Constants : goal.returns-in-Constants
returns-in-Constants c = grind (arith, elements)

use Rattle.std.proofs.Common.{arith}
use Rattle.std.proofs.lemmas.Grind.{elements}
use Rattle.idl_names.specs.Meaning.{included}
use Rattle.idl_names.proofs.meaning.included.Goals as goal

pub returns : goal.returns
unfolding included
returns c = grind (arith, elements)

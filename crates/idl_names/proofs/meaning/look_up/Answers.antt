use Rattle.std.proofs.Common.{arith}
use Rattle.std.proofs.lemmas.Grind.{common_steps}
use Rattle.idl_names.specs.Meaning.{meaning}
use Rattle.idl_names.proofs.meaning.look_up.Goals as goal

pub returns-in_ok-other-in-Some : goal.returns-in_ok-other-in-Some
unfolding meaning
returns-in_ok-other-in-Some c = grind (arith, common_steps)

pub declared_in-requires-in-Some : goal.declared_in-requires-in-Some
unfolding meaning
declared_in-requires-in-Some c = grind (arith, common_steps)

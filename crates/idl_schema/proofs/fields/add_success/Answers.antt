use Rattle.std.proofs.Common.{arith}
use Rattle.std.proofs.lemmas.Grind.{common_steps}
use Rattle.idl_schema.proofs.fields.add_success.Goals as goal

pub returns-in_ok-add_parts-in-Some-clause-types : goal.returns-in_ok-add_parts-in-Some-clause-types
returns-in_ok-add_parts-in-Some-clause-types c = grind (arith, common_steps)

pub returns-in_ok-add_parts-in-Some-clause-list : goal.returns-in_ok-add_parts-in-Some-clause-list
returns-in_ok-add_parts-in-Some-clause-list c = grind (arith, common_steps)

use Rattle.std.proofs.Common.{arith}
use Rattle.std.proofs.lemmas.Grind.{common_steps}
use Rattle.type_tables.proofs.builder.declare_failure.Goals as goal

pub add_field-requires-clause-few : goal.add_field-requires-clause-few
add_field-requires-clause-few c = grind (arith, common_steps)

pub add_field-requires-clause-known : goal.add_field-requires-clause-known
add_field-requires-clause-known c = grind (arith, common_steps)

pub add_field-requires-2-clause-few : goal.add_field-requires-2-clause-few
add_field-requires-2-clause-few c = grind (arith, common_steps)

pub add_field-requires-2-clause-known : goal.add_field-requires-2-clause-known
add_field-requires-2-clause-known c = grind (arith, common_steps)

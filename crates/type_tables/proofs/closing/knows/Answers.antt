use Rattle.std.proofs.Common.{arith}
use Rattle.std.proofs.lemmas.Grind.{common_steps}
use Rattle.type_tables.proofs.closing.knows.Goals as goal

pub returns-in-List : goal.returns-in-List
returns-in-List c = grind (arith, common_steps)

pub returns-then-has_part : goal.returns-then-has_part
returns-then-has_part c = grind (arith, common_steps)

pub returns-in-Enum : goal.returns-in-Enum
returns-in-Enum c = grind (arith, common_steps)

pub returns-in_default : goal.returns-in_default
returns-in_default c = grind (arith, common_steps)

pub returns-else-has_part : goal.returns-else-has_part
returns-else-has_part c = grind (arith, common_steps)

pub returns-in-Set : goal.returns-in-Set
returns-in-Set c = grind (arith, common_steps)

pub returns-in-Struct : goal.returns-in-Struct
returns-in-Struct c = grind (arith, common_steps)

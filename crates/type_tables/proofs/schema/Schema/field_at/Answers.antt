use Rattle.std.proofs.Common.{arith}
use Rattle.std.proofs.lemmas.Grind.{elements}
use Rattle.type_tables.proofs.schema.Schema.field_at.Goals as goal

pub returns-clause-known : goal.returns-clause-known
returns-clause-known c = grind (arith, elements)

pub returns-clause-value : goal.returns-clause-value
returns-clause-value c = grind (arith, elements)

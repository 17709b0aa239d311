use Rattle.std.proofs.Common.{arith}
use Rattle.std.proofs.lemmas.Grind.{common_steps}
use Rattle.idl_schema.proofs.fields.push_field.Goals as goal

pub push-requires-clause-short : goal.push-requires-clause-short
push-requires-clause-short c = grind (arith, common_steps)

pub returns : goal.returns
returns c = grind (arith, common_steps)

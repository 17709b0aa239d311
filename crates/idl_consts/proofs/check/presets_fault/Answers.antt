use Rattle.std.proofs.Common.{arith}
use Rattle.std.proofs.lemmas.Grind.{common_steps}
use Rattle.idl_consts.proofs.check.presets_fault.Goals as goal

pub returns-clause-told : goal.returns-clause-told
returns-clause-told c = grind (arith, common_steps)

pub loop-field-preserved : goal.loop-field-preserved
loop-field-preserved c = grind (arith, common_steps)

use Rattle.std.proofs.Common.{arith}
use Rattle.std.proofs.lemmas.Grind.{common_steps}
use Rattle.compact_protocol.specs.Plain.{elements_spelling}
use Rattle.compact_protocol.proofs.write_forms.lay_elements.Goals as goal

pub returns-clause-laid : goal.returns-clause-laid
unfolding elements_spelling
returns-clause-laid c = grind (arith, common_steps)

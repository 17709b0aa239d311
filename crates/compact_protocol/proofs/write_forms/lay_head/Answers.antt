use Rattle.std.proofs.Common.{arith}
use Rattle.std.proofs.lemmas.Grind.{common_steps}
use Rattle.compact_protocol.specs.Plain.{head_spelling}
use Rattle.compact_protocol.specs.Plain.{string_spelling}
use Rattle.compact_protocol.proofs.write_forms.lay_head.Goals as goal

pub returns-clause-laid : goal.returns-clause-laid
unfolding head_spelling string_spelling
returns-clause-laid c = grind (arith, common_steps)

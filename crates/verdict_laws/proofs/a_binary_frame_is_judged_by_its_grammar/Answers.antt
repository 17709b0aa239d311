use Rattle.verdict_laws.proofs.Faulted.{binary_told}
use Rattle.verdict_laws.proofs.a_binary_frame_is_judged_by_its_grammar.Goals as goal

pub returns : goal.returns
returns c = binary_told

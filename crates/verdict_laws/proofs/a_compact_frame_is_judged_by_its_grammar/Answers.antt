use Rattle.verdict_laws.proofs.Faulted.{compact_told}
use Rattle.verdict_laws.proofs.a_compact_frame_is_judged_by_its_grammar.Goals as goal

pub returns : goal.returns
returns c = compact_told

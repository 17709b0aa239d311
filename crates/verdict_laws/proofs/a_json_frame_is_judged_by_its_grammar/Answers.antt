use Rattle.verdict_laws.proofs.Faulted.{json_told}
use Rattle.verdict_laws.proofs.a_json_frame_is_judged_by_its_grammar.Goals as goal

pub returns : goal.returns
returns c = json_told

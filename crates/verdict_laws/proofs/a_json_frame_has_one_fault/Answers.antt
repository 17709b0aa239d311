use Rattle.verdict_laws.proofs.OneFault.{one_json_fault}
use Rattle.verdict_laws.proofs.a_json_frame_has_one_fault.Goals as goal

pub returns : goal.returns
returns c d route frame f g a b = one_json_fault d route frame f g a b

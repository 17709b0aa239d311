use Rattle.line_transport.proofs.Spanning.{of_splits, to_splits}
use Rattle.line_transport.proofs.laws.frames_are_cut.Goals as goal

pub returns : goal.returns
returns c = λ limit bytes frames rest. (to_splits limit bytes frames rest, of_splits limit bytes frames rest)

use Rattle.line_transport.proofs.Spanning.{one_cutting}
use Rattle.line_transport.proofs.laws.one_cutting.Goals as goal

pub returns : goal.returns
returns c = λ t limit bytes small a b. one_cutting t limit bytes a.messages b.messages a.rest b.rest small a.cuts b.cuts

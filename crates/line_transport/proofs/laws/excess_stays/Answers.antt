use Rattle.line_transport.proofs.Spanning.{excess_stays}
use Rattle.line_transport.proofs.laws.excess_stays.Goals as goal

pub returns : goal.returns
returns c = excess_stays

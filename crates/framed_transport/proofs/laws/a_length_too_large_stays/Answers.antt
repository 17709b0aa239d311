use Rattle.framed_transport.proofs.Cutting.{large_stays}
use Rattle.framed_transport.proofs.laws.a_length_too_large_stays.Goals as goal

pub returns : goal.returns
returns c = large_stays

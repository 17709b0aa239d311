use Rattle.framed_transport.proofs.Cutting.{whole_stays}
use Rattle.framed_transport.proofs.laws.a_whole_frame_stays.Goals as goal

pub returns : goal.returns
returns c = whole_stays

use Rattle.framed_transport.proofs.Cutting.{full_front}
use Rattle.framed_transport.proofs.laws.a_full_buffer_holds_a_frame.Goals as goal

pub returns : goal.returns
returns c = full_front

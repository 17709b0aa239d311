use Rattle.line_transport.proofs.Cutting.{stands}
use Rattle.line_transport.proofs.laws.a_message_stands_at_the_front.Goals as goal

pub returns : goal.returns
returns c = stands

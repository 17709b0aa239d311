use Rattle.std.proofs.Common.{◌++◌, refl}
use Rattle.framed_transport.specs.Frames.{framed}
use Rattle.framed_transport.proofs.Cutting.{stands}
use Rattle.framed_transport.proofs.laws.frame_stands_at_the_front.Goals as goal

pub returns : goal.returns
returns c = λ limit frame rest small within. stands limit (framed frame ++ rest) frame rest small within refl

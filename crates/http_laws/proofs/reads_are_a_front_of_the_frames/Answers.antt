use Rattle.http_laws.proofs.Served.{served}
use Rattle.http_laws.proofs.reads_are_a_front_of_the_frames.Goals as goal

pub returns : goal.returns
returns c = served

use Rattle.run_laws.proofs.Complete.{good_stream}
use Rattle.run_laws.proofs.a_good_stream_is_done.Goals as goal

pub returns : goal.returns
returns c = λ k a b ending streamed good worked. good_stream k a b ending good.bytes good.frames good.small streamed good.told good.few good.cuts good.passed worked.0 worked.1

use Rattle.std.proofs.Common.{length, arith}
use Rattle.stream_messages.proofs.Cutting.{each_cut}
use Rattle.stream_messages.proofs.laws.a_stream_is_cut.Goals as goal

pub returns : goal.returns
returns c = λ wire limit stream some fits are. each_cut wire limit some fits (length stream) stream (omega arith) are

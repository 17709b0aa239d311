use Rattle.run_laws.proofs.Started.{stream_starts}
use Rattle.run_laws.proofs.a_good_idl_starts_a_stream.Goals as goal

pub returns : goal.returns
returns c = stream_starts c.files_give_one_answer.ensures

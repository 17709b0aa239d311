use Rattle.run_laws.proofs.Started.{server_starts}
use Rattle.run_laws.proofs.a_good_idl_starts_a_server.Goals as goal

pub returns : goal.returns
returns g c = server_starts c.files_give_one_answer.ensures g.H.Hub

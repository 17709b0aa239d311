use Rattle.run_laws.proofs.Started.{router_starts}
use Rattle.run_laws.proofs.a_good_idl_starts_a_router.Goals as goal

pub returns : goal.returns
returns g c = router_starts c.files_give_one_answer.ensures g.G.Fan

use Rattle.run_laws.proofs.Served.{hub_stopped}
use Rattle.run_laws.proofs.a_stopped_hub_was_served.Goals as goal

pub returns : goal.returns
returns g c = hub_stopped g.H.Hub

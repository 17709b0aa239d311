use Rattle.run_laws.proofs.Routed.{fan_stopped}
use Rattle.run_laws.proofs.a_stopped_fan_was_served.Goals as goal

pub returns : goal.returns
returns g c = fan_stopped g.G.Fan

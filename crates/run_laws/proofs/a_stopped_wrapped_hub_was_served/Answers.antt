use Rattle.run_laws.proofs.Wrapped.{wrapped_stopped}
use Rattle.run_laws.proofs.a_stopped_wrapped_hub_was_served.Goals as goal

pub returns : goal.returns
returns g c = wrapped_stopped g.H.Hub

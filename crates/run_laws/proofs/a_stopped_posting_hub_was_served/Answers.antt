use Rattle.run_laws.proofs.Posting.{posts_stopped}
use Rattle.run_laws.proofs.a_stopped_posting_hub_was_served.Goals as goal

pub returns : goal.returns
returns g c = posts_stopped g.H.Hub

use Rattle.session_core.specs.Working.{standing}
use Rattle.session_core.proofs.Own.{own_outcome}
use Rattle.session_core.proofs.session.Session.outcome.Goals as goal

pub returns-clause-own : goal.returns-clause-own
returns-clause-own g c =
    let s = c.self.inside.state in
    own_outcome (g.J.Judge.rules c.self.inside.judge) s.client.held.limit s.calls.capacity (standing s) s.outcome c.self.invariant.1

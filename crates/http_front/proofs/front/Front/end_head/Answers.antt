use Rattle.std.proofs.Common.{ap}
use Rattle.http_front.specs.Fronts.{Front}
use Rattle.http_front.proofs.Fitting.{ends_head}
use Rattle.http_front.proofs.front.Front.end_head.Goals as goal

pub returns-clause-ends : goal.returns-clause-ends
returns-clause-ends c =
    ends_head c.args.self.now _ c.requires.at c.requires.front c.end_of_head-self-inside.ensures
    (ap (λ (f : Front). f.input) c.self.view_is) (ap (λ (f : Front). f.limit) c.self.view_is)

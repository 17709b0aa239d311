use Rattle.std.proofs.Common.{subst}
use Rattle.service_router.specs.Router.{Seen, IsSame}
use Rattle.service_router.proofs.Rooms.{seen, same_kept, kept_holds}
use Rattle.service_router.proofs.router.Router.take.Goals as goal

pub returns-clause-same : goal.returns-clause-same
returns-clause-same g c =
    subst (λ (x : Seen). IsSame x (seen c.take.new.judge c.take.new.self)) c.self.view_is
    (same_kept c.self.inside.judge c.take.new.judge c.self.inside.state c.take.new.self c.take.ensures.same c.self.invariant.0 c.take.ensures.keeps)

pub returns-clause-holds : goal.returns-clause-holds
returns-clause-holds g c = kept_holds c.self.inside.judge c.self.inside.state c.take.new.self c.take.new.self.outcome c.take.ensures.keeps

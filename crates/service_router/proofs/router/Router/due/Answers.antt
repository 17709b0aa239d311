use Rattle.service_router.specs.Judging.{rules_of}
use Rattle.service_router.specs.Router.{Seen}
use Rattle.service_router.specs.Working.{standing}
use Rattle.service_router.proofs.Endings.{over_due}
use Rattle.std.proofs.Common.{ap, subst}
use Rattle.service_router.specs.Router.{HoldsWithin}
use Rattle.service_router.proofs.Rooms.{sound_holds}
use Rattle.service_router.proofs.router.Router.due.Goals as goal

pub returns-clause-over : goal.returns-clause-over
returns-clause-over c = λ some.
    let s = c.self.inside.state in
    over_due (rules_of c.self.inside.judge) s.client.limit s.calls.capacity c.args.port (standing s) c.args.self.now.standing s.outcome c.args.self.now.outcome c.self.invariant.1
    (ap (λ (x : Seen). x.standing) c.self.view_is) (ap (λ (x : Seen). x.outcome) c.self.view_is) some

pub returns-clause-holds : goal.returns-clause-holds
returns-clause-holds c = subst (λ (x : Seen). HoldsWithin x) c.self.view_is (sound_holds c.self.inside.state c.self.inside.state.outcome c.self.invariant.0.ready)

use Rattle.std.proofs.Common.{subst}
use Rattle.service_router.specs.Router.{Seen, HoldsWithin}
use Rattle.service_router.proofs.Rooms.{sound_holds}
use Rattle.service_router.specs.Judging.{rules_of}
use Rattle.service_router.specs.Working.{standing}
use Rattle.service_router.proofs.Endings.{own_outcome_of}
use Rattle.service_router.proofs.router.Router.outcome.Goals as goal

pub returns-clause-own : goal.returns-clause-own
returns-clause-own c =
    let s = c.self.inside.state in
    own_outcome_of (rules_of c.self.inside.judge) s.client.limit s.calls.capacity (standing s) s.outcome c.self.invariant.1

pub returns-clause-holds : goal.returns-clause-holds
returns-clause-holds c = subst (λ (x : Seen). HoldsWithin x) c.self.view_is (sound_holds c.self.inside.state c.self.inside.state.outcome c.self.invariant.0.ready)

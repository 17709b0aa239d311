use Rattle.service_router.specs.Router.{Seen}
use Rattle.std.proofs.Common.{subst}
use Rattle.service_router.specs.Router.{HoldsWithin}
use Rattle.service_router.proofs.Rooms.{sound_holds}
use Rattle.service_router.proofs.router.Router.room.Goals as goal

pub returns-clause-holds : goal.returns-clause-holds
returns-clause-holds c = subst (λ (x : Seen). HoldsWithin x) c.self.view_is (sound_holds c.self.inside.state c.self.inside.state.outcome c.self.invariant.0.ready)

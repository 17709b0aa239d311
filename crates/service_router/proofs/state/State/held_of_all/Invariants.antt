use Rattle.std.proofs.Common.{◌≡◌, take}
use Rattle.service_router.specs.Ends.{held_of_all}
use Rattle.service_router.proofs.state.State.held_of_all.Given as goal

abbrev pub invariant-targets : goal.invariant-targets
invariant-targets l = record { held : l.held ≡ held_of_all (take l.target l.self.ports.items) }

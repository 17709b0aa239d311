use Rattle.std.proofs.Common.{◌≡◌, ◌-◌, ◌≤◌, length}
use Rattle.std.specs.Prelude.{replicate}
use Rattle.service_router.specs.Standing.{silent}
use Rattle.service_router.proofs.state.open_ports.Given as goal

abbrev pub invariant-targets : goal.invariant-targets
invariant-targets l = record {
  silent : l.ports.items ≡ replicate (length l.ports.items) (silent l.limit);
  within : length l.ports.items ≤ l.targets;
}

abbrev pub decreases-targets : goal.decreases-targets
decreases-targets l = l.targets - length l.ports.items

use Rattle.std.proofs.Common.{◌≡◌, ◌+◌, ◌-◌, ◌≤◌, length}
use Rattle.std.proofs.Math.ListN.{replicate}
use Rattle.gate_memory.specs.Link.{new_link_state}
use Rattle.gate_memory.proofs.fan_session.open_ports.Given as goal

-- so many new ports
abbrev pub invariant-ports : goal.invariant-ports
invariant-ports l = record {
  new : l.ports.items ≡ replicate (length l.ports.items) new_link_state;
  few : length l.ports.items ≤ l.targets + 1;
}

abbrev pub decreases-ports : goal.decreases-ports
decreases-ports l = l.targets + 1 - length l.ports.items

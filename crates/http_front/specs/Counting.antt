-- What the front counts beside the hub below.
use Rattle.std.specs.Prelude.{ℕ, ◌+◌}
use Rattle.gate_hub.specs.Hubs.{Counts}
use Rattle.gate_hub.specs.declared.hub.Side.{Side}
use Rattle.gate_hub.specs.declared.hub.Side.TheVariants as side

-- reads of a client that is held back
abbrev pub held_back : ℕ → Side → ℕ
held_back waits side.Client = waits
held_back waits side.Upstream = 0

-- with the calls on sessions without a slot and the writes that answer nothing, and the reads of clients that are held back
abbrev pub with_own : Counts → ℕ → ℕ → Counts
with_own inner strays waits = record {
  faults = inner.faults;
  link_faults = λ k s. inner.link_faults k s + strays;
  waits = λ k s. inner.waits k s + held_back waits s;
}

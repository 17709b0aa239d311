-- The counts of the hub over sockets: those of a side are of all sessions together.
use Rattle.std.specs.Prelude.{ℕ}
use Rattle.gate_base.specs.Causes.{Rose}
use Rattle.gate_hub.specs.Hubs.{Counts}
use Rattle.gate_fan.specs.Fans as fans
use Rattle.gate_hub.specs.declared.hub.Side.{Side}
use Rattle.gate_hub.specs.declared.hub.Side.TheVariants as side
use Rattle.mio_edge.specs.declared.hub.MioHub.{MioHub}
use Rattle.mio_edge.specs.declared.hub.SideCounts.{SideCounts}

abbrev pub side_counts : SideCounts → SideCounts → Side → SideCounts
side_counts client upstream side.Client = client
side_counts client upstream side.Upstream = upstream

abbrev pub counts_of : ℕ → SideCounts → SideCounts → Counts
counts_of faults client upstream = record {
  faults = faults;
  link_faults = λ k s. (side_counts client upstream s).faults;
  waits = λ k s. (side_counts client upstream s).waits;
}

-- what was counted of a side
abbrev pub side_of : {W S : Type 0} → MioHub W S → Side → SideCounts
side_of hub side = side_counts hub.client hub.upstream side

-- the faults of a side, or its answers that it isn't ready, have become more
abbrev pub FaultRose : {W S : Type 0} → Side → MioHub W S → MioHub W S → Type 0
FaultRose side a b = Rose (side_of a side).faults (side_of b side).faults

abbrev pub WaitRose : {W S : Type 0} → Side → MioHub W S → MioHub W S → Type 0
WaitRose side a b = Rose (side_of a side).waits (side_of b side).waits

-- the counts of this hub
abbrev pub counts_in : {W S : Type 0} → MioHub W S → Counts
counts_in hub = counts_of hub.sockets.faults hub.client hub.upstream

-- the counts of the fan over sockets: those of a port are of all ports and sessions together
abbrev pub fan_counts : ℕ → SideCounts → fans.Counts
fan_counts faults links = record {
  faults = faults;
  link_faults = λ k port. links.faults;
  waits = λ k port. links.waits;
}

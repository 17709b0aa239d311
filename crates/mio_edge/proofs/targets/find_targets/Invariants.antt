use Rattle.std.proofs.Common.{take}
use Rattle.mio_edge.specs.Targets.{AddsTargets}
use Rattle.mio_edge.proofs.targets.find_targets.Given as goal

-- the targets of the words so far stand behind those that were there
abbrev pub invariant-loop-at : goal.invariant-loop-at
invariant-loop-at g l = AddsTargets g.W.Network.names (take l.at l.upstreams) l.fn.targets.items l.targets.items

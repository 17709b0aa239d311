use Rattle.std.proofs.Common.{◌≡◌, take}
use Rattle.mio_edge.specs.Targets.{words_of}
use Rattle.mio_edge.proofs.fan.addresses_of.Given as goal

-- the words of the targets so far
abbrev pub invariant-loop-target : goal.invariant-loop-target
invariant-loop-target l = l.addresses.items ≡ words_of (take l.target-index l.targets)

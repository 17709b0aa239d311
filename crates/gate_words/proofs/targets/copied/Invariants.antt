use Rattle.std.proofs.Common.{◌≡◌, take}
use Rattle.gate_words.proofs.targets.copied.Given as goal

abbrev pub invariant-loop-target : goal.invariant-loop-target
invariant-loop-target l = l.copy.items ≡ take l.target-index l.targets

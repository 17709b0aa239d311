use Rattle.std.proofs.Common.{length}
use Rattle.gate_words.proofs.targets.+has_service.Given as goal

abbrev pub decreases-has_service : goal.decreases-has_service
decreases-has_service l = length l.targets.now

use Rattle.std.proofs.Common.{length}
use Rattle.crew_server.proofs.telling.+tell.Given as goal

abbrev pub decreases-tell : goal.decreases-tell
decreases-tell g l = length l.crew.now

use Rattle.std.proofs.Common.{◌≡◌, ◌-◌, length, true}
use Rattle.json_text.proofs.LaidText.{Copied}
use Rattle.json_text.proofs.lay.lay_run.Given as goal

abbrev pub invariant-vectors : goal.invariant-vectors
invariant-vectors l = Copied l.fn.cells l.cells l.bytes l.to l.from l.size l.at (l.is_ascii ≡ true)

abbrev pub decreases-vectors : goal.decreases-vectors
decreases-vectors l = length l.bytes - l.at

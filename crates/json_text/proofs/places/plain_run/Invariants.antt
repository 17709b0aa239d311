use Rattle.std.proofs.Common.{◌≡◌, ◌-◌, length, true}
use Rattle.json_text.proofs.PlainTexts.{PlainRun}
use Rattle.json_text.proofs.places.plain_run.Given as goal

abbrev pub invariant-runs : goal.invariant-runs
invariant-runs l = PlainRun l.bytes l.at l.«end» (l.is_ascii ≡ true)

abbrev pub decreases-runs : goal.decreases-runs
decreases-runs l = length l.bytes - l.«end»

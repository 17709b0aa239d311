use Rattle.std.proofs.Common.{◌≡◌, ◌-◌, length, true}
use Rattle.json_text.proofs.PlainTexts.{PlainRun}
use Rattle.json_text.proofs.places.last_plain_run.Given as goal

abbrev pub invariant-bytes : goal.invariant-bytes
invariant-bytes l = PlainRun l.bytes l.at l.«end» (l.is_ascii ≡ true) × (l.is_ascii ≡ true → l.were_ascii ≡ true)

abbrev pub decreases-bytes : goal.decreases-bytes
decreases-bytes l = length l.bytes - l.«end»

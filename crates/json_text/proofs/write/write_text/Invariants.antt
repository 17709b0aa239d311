use Rattle.std.proofs.Common.{◌≡◌, ◌-◌, ◌≤◌, ◌++◌, [], ◌∷◌, length, drop}
use Rattle.json_text.specs.Plain.{pieces_spelling, text_spelling}
use Rattle.json_text.proofs.write.write_text.Given as goal

abbrev pub invariant-runs : goal.invariant-runs
invariant-runs l = (l.out.bytes ++ (pieces_spelling (drop l.from l.text) ++ 34 ∷ []) ≡ l.fn.out.bytes ++ text_spelling l.text) × (l.from ≤ length l.text) × (l.out.room ≡ l.fn.out.room)

abbrev pub decreases-runs : goal.decreases-runs
decreases-runs l = length l.text - l.from

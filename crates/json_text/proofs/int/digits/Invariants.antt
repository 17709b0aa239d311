use Rattle.std.proofs.Common.{◌≡◌, ◌≤◌, drop}
use Rattle.json_text.specs.Int.{digits_from}
use Rattle.json_text.proofs.int.digits.Given as goal

abbrev pub invariant-loop-byte : goal.invariant-loop-byte
invariant-loop-byte l = (digits_from 0 l.bytes ≡ digits_from l.value (drop l.byte-index l.bytes)) × (l.value ≤ 10000000000000000009)

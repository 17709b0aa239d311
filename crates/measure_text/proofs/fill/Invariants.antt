use Rattle.std.proofs.Common.{◌≡◌, ◌-◌, ◌++◌, take, length}
use Rattle.measure_text.specs.Measured.{letters}
use Rattle.measure_text.proofs.fill.Given as goal

abbrev pub invariant-loop-byte : goal.invariant-loop-byte
invariant-loop-byte l = take l.byte-index l.bytes ++ letters l.every l.left (length l.bytes - l.byte-index) ≡ letters l.every l.every (length l.bytes)

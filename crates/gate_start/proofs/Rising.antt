-- Counts of faults that rose.
use Rattle.std.proofs.Common.{ℕ, ◌≤◌, arith}
use Rattle.gate_base.specs.Causes.{Rose}

-- a count that rose behind some moment rose behind an earlier one
pub rose_earlier : (before mid now : ℕ) → before ≤ mid → Rose mid now → Rose before now
rose_earlier before mid now h rose = omega arith

-- A number's bytes from the highest on, as those of the turned number from the lowest on.
use Rattle.std.proofs.Common.{◌≡◌, ℕ, zero, suc, ◌<◌, refl, arith}
use Rattle.std.specs.Prelude.{slice_index}
use Rattle.std.specs.Int.{w32, swap_bytes, to_be_bytes, to_le_bytes}
use Rattle.std.proofs.lemmas.Nat.{le_bytes_4}

pub turned : (n : ℕ) → to_le_bytes w32 (swap_bytes w32 n) ≡ to_be_bytes w32 n
turned n = le_bytes_4 (to_be_bytes w32 n) (swap_bytes w32 n) refl small (omega arith)
  where
    small : (i : ℕ) → slice_index (to_be_bytes w32 n) i < 256
    small zero = omega arith
    small (suc zero) = omega arith
    small (suc (suc zero)) = omega arith
    small (suc (suc (suc zero))) = omega arith
    small (suc (suc (suc (suc i)))) = omega arith

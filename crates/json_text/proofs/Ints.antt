-- Integers at a place.
use Rattle.std.proofs.Common.{◌≡◌, ℕ, ℤ, ◌+◌, ◌-◌, ◌*◌, ◌<◌, ◌≤◌, List, length, take, drop, Option, Some, None, cond, sym, ap, arith}
use Rattle.std.specs.Prelude.{nat_le, ◌&&◌, ◌==◌, slice_index}
use Rattle.std.proofs.lemmas.List.{drop_more, drop_all}
use Rattle.std.specs.List.{prefix_len}
use Rattle.std.specs.Char.{is_ascii_digit}
use Rattle.json_text.specs.Int.{is_int_byte, digits_from, within, integer, run_scan, int_at, told, can_grow}
use Rattle.json_text.specs.declared.scanned.Scan.TheVariants.{Whole}
use Rattle.json_text.specs.Scan.{moved}
use Rattle.std.proofs.lemmas.Bool.Decides.{nat_tests}

pub digits_step : (bytes : List ℕ) (i so_far : ℕ) → i < length bytes → digits_from so_far (drop i bytes)
    ≡ cond (is_ascii_digit (slice_index bytes i) && nat_le so_far 1000000000000000000) (digits_from (so_far * 10 + (slice_index bytes i - 48)) (drop (i + 1) bytes)) None
unfolding digits_from
digits_step bytes i so_far there = ap (digits_from so_far) (drop_more bytes i 0 there)

pub digits_done : (bytes : List ℕ) (i so_far : ℕ) → length bytes ≤ i → digits_from so_far (drop i bytes) ≡ Some so_far
unfolding digits_from
digits_done bytes i so_far past = ap (digits_from so_far) (drop_all i bytes past)

-- the run that ends at a place
pub int_to : (low high : ℤ) (bytes : List ℕ) (at stop : ℕ) → stop ≡ at + prefix_len is_int_byte (drop at bytes)
    → int_at low high (drop at bytes) ≡ run_scan low (take (stop - at) (drop at bytes)) (drop at bytes) (within low high (integer (take (stop - at) (drop at bytes))))
unfolding int_at
int_to low high bytes at stop is =
    let e : prefix_len is_int_byte (drop at bytes) ≡ stop - at = omega arith in
    ap (λ n. run_scan low (take n (drop at bytes)) (drop at bytes) (within low high (integer (take n (drop at bytes))))) e

pub told_run : (found : Option ℤ) (low : ℤ) (run bytes : List ℕ) (at stop size : ℕ) → at + length run ≡ stop → at + length bytes ≡ size
    → told found at stop ((stop == size) && can_grow low run) ≡ moved at (run_scan low run bytes found)
told_run (Some v) low run bytes at stop size long all = ap (Whole v) (sym long)
told_run None low run bytes at stop size long all = let none : at + 0 ≡ at = omega arith in grind (arith, nat_tests)

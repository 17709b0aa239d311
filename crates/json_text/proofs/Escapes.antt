-- Facts of escapes over plain lists.
use Rattle.std.proofs.Common.{◌≡◌, ℕ, ◌+◌, ◌*◌, ◌<◌, ◌≤◌, Bool, true, false, cond, List, length, arith, Option, Some, None}
use Rattle.std.specs.Prelude.{nat_le, nat_lt, not, slice_index, ◌||◌, ◌&&◌, ◌==◌}
use Rattle.std.proofs.lemmas.Bool.Decides.{nat_tests}
use Rattle.json_text.specs.declared.scanned.Scan.{Scan}
use Rattle.json_text.specs.declared.scanned.Scan.TheVariants.{Whole, Short, Bad}
use Rattle.json_text.specs.Escape.{begins_unit, begins_low, is_high, is_low, begins_second, byte_fits, digit_fits, digit_at, unit_at, escape_at, unicode_at, pair_at, short_then, short_escape}

pub record Between (least most n : ℕ) : Type 0 where
  pub low : least ≤ n
  pub high : n ≤ most

fits_in : (size at d low high : ℕ) → (nat_le size at || (nat_le low d && nat_le d high)) ≡ true → at < size → Between low high d
fits_in size at d low high fits there = record { low = grind (arith, nat_tests); high = grind (arith, nat_tests) }

six : (a b c d e f : Bool) → (a && b && c && d && e && f) ≡ true → (c ≡ true) × (d ≡ true) × (e ≡ true) × (f ≡ true)
six true true true true true true h = (h, h, h, h)
six false b c d e f h = absurd (cc)
six true false c d e f h = absurd (cc)
six true true false d e f h = absurd (cc)
six true true true false e f h = absurd (cc)
six true true true true false f h = absurd (cc)
six true true true true true false h = absurd (cc)

four_digits : (a b c d : ℕ) → Between 13 13 a → Between 12 15 b → Between 0 15 c → Between 0 15 d → Between 0xdc00 0xdfff (a * 4096 + b * 256 + c * 16 + d)
four_digits a b c d p q r s = record { low = omega (arith, p.low, q.low); high = omega (arith, p.high, q.high, r.high, s.high) }

pub low_unit : (bytes : List ℕ) → begins_second bytes 6 ≡ true → 12 ≤ length bytes → Between 0xdc00 0xdfff (unit_at bytes 8)
unfolding begins_second
low_unit bytes begins long =
    let parts = six (byte_fits bytes 6 92) (byte_fits bytes 7 117) (digit_fits bytes 8 13 13) (digit_fits bytes 9 12 15) (digit_fits bytes 10 0 15) (digit_fits bytes 11 0 15) begins in
    four_digits (digit_at bytes 8) (digit_at bytes 9) (digit_at bytes 10) (digit_at bytes 11)
    (fits_in (length bytes) 8 _ 13 13 parts.0 (omega arith)) (fits_in (length bytes) 9 _ 12 15 parts.1 (omega arith)) (fits_in (length bytes) 10 _ 0 15 parts.2 (omega arith)) (fits_in (length bytes) 11 _ 0 15 parts.3 (omega arith))

abbrev pub TakesSome : Scan ℕ → Type 0
TakesSome (Whole c taken) = 0 < taken
TakesSome Short = Unit {0}
TakesSome (Bad place) = Unit {0}

either : (b : Bool) (x y : Scan ℕ) → TakesSome x → TakesSome y → TakesSome (cond b x y)
either true x y p q = p
either false x y p q = q

short_some : (o : Option ℕ) → TakesSome (short_then o)
short_some None = tt
short_some (Some c) = omega arith

of_pair : (a b : Bool) (c n : ℕ) → 0 < n → TakesSome (cond a (Bad 0) (cond b Short (Whole c n)))
of_pair true b c n h = tt
of_pair false true c n h = tt
of_pair false false c n h = h

pair_some : (high : ℕ) (bytes : List ℕ) → TakesSome (pair_at high bytes)
unfolding pair_at
pair_some high bytes = of_pair _ _ _ 12 (omega arith)

of_unicode : (a b c d e : Bool) (x : Scan ℕ) (u n : ℕ) → TakesSome x → 0 < n → TakesSome (cond a (Bad 0) (cond b (cond c (Bad 0) Short) (cond d x (cond e (Bad 0) (Whole u n)))))
of_unicode true b c d e x u n p h = tt
of_unicode false true true d e x u n p h = tt
of_unicode false true false d e x u n p h = tt
of_unicode false false c true e x u n p h = p
of_unicode false false c false true x u n p h = tt
of_unicode false false c false false x u n p h = h

unicode_some : (bytes : List ℕ) → TakesSome (unicode_at bytes)
unfolding unicode_at
unicode_some bytes = of_unicode (not (begins_unit bytes 2)) (nat_lt (length bytes) 6) (begins_low bytes 2) (is_high (unit_at bytes 2)) (is_low (unit_at bytes 2)) (pair_at (unit_at bytes 2) bytes) (unit_at bytes 2) 6 (pair_some (unit_at bytes 2) bytes) (omega arith)

of_escape : (a b : Bool) (x y : Scan ℕ) → TakesSome x → TakesSome y → TakesSome (cond a Short (cond b x y))
of_escape true b x y p q = tt
of_escape false true x y p q = p
of_escape false false x y p q = q

pub taken_some : (bytes : List ℕ) → TakesSome (escape_at bytes)
unfolding escape_at
taken_some bytes = of_escape (nat_lt (length bytes) 2) (slice_index bytes 1 == 117) (unicode_at bytes) (short_then (short_escape (slice_index bytes 1))) (unicode_some bytes) (short_some (short_escape (slice_index bytes 1)))

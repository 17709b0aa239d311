-- A scan of a string that is bad looks at no byte behind the faulty piece.
use Rattle.std.proofs.Common.{◌≡◌, ℕ, ◌+◌, ◌*◌, ◌<◌, ◌≤◌, Bool, true, false, cond, List, ◌++◌, length, refl, sym, ap, ◌∙◌, arith, ◌⊎◌, inl, inr, length-append}
use Rattle.std.specs.Prelude.{not, nat_lt, nat_le, ◌==◌, ◌&&◌, ◌||◌, slice_index}
use Rattle.std.specs.Char.{digit_value}
use Rattle.std.proofs.lemmas.Bool.Decides.{nat_tests}
use Rattle.json_text.specs.declared.scanned.Scan.{Scan}
use Rattle.json_text.specs.declared.scanned.Scan.TheVariants.{Whole, Short, Bad}
use Rattle.json_text.specs.Escape.{digit_at, digit_fits, byte_fits, unit_at, begins_unit, begins_low, begins_second, is_high, is_low, pair as joined, pair_at, unit_then, unicode_at, short_escape, short_then, escape_at}
use Rattle.json_text_laws.proofs.Choices.{cond_true, cond_false, either_way}
use Rattle.json_text_laws.proofs.Ends.{front_index}
use Rattle.json_text_laws.proofs.Read.{both_true}

-- nothing more behind changes what a scan that is not short tells
abbrev pub Stays : {X : Type 0} → Scan X → Scan X → Type 0
Stays scan longer = (scan ≡ Short) ⊎ (longer ≡ scan)

pub and_false : (a b : Bool) → b ≡ false → (a && b) ≡ false
and_false true b e = e
and_false false b e = refl

and_stays : (a b c d : Bool) → (a ≡ false → c ≡ false) → (b ≡ false → d ≡ false) → (a && b) ≡ false → (c && d) ≡ false
and_stays false b c d f g e = ap (λ z. z && d) (f refl)
and_stays true b c d f g e = and_false c d (g e)

or_parts : (a b : Bool) → (a || b) ≡ false → (a ≡ false) × (b ≡ false)
or_parts false b e = (refl, e)
or_parts true b e = absurd (cc)

-- ---- digits and code units

module _ (bytes more : List ℕ) where
  there : (at : ℕ) → nat_le (length bytes) at ≡ false → at < length bytes
  there at e = grind (arith, nat_tests)

  not_past : (at : ℕ) → at < length bytes → nat_le (length (bytes ++ more)) at ≡ false
  not_past at h = let l = length-append bytes more in grind (arith, nat_tests)

  in_front : (at : ℕ) → at < length bytes → nat_le (length bytes) at ≡ false
  in_front at h = grind (arith, nat_tests)

  digit_same : (at low high : ℕ) → at < length bytes → digit_fits (bytes ++ more) at low high ≡ digit_fits bytes at low high
  digit_same at low high h =
      ap (λ x. nat_le (length (bytes ++ more)) at || (nat_le low (digit_value x) && nat_le (digit_value x) high)) (front_index bytes more at h)
      ∙ ap (λ t. t || (nat_le low (digit_at bytes at) && nat_le (digit_at bytes at) high)) (not_past at h ∙ sym (in_front at h))

  byte_same : (at byte : ℕ) → at < length bytes → byte_fits (bytes ++ more) at byte ≡ byte_fits bytes at byte
  byte_same at byte h =
      ap (λ x. nat_le (length (bytes ++ more)) at || (x == byte)) (front_index bytes more at h) ∙ ap (λ t. t || (slice_index bytes at == byte)) (not_past at h ∙ sym (in_front at h))

  digit_stays : (at low high : ℕ) → digit_fits bytes at low high ≡ false → digit_fits (bytes ++ more) at low high ≡ false
  digit_stays at low high e = digit_same at low high (there at (or_parts (nat_le (length bytes) at) (nat_le low (digit_at bytes at) && nat_le (digit_at bytes at) high) e).0) ∙ e

  byte_stays : (at byte : ℕ) → byte_fits bytes at byte ≡ false → byte_fits (bytes ++ more) at byte ≡ false
  byte_stays at byte e = byte_same at byte (there at (or_parts (nat_le (length bytes) at) (slice_index bytes at == byte) e).0) ∙ e

  unit_stays : begins_unit bytes 2 ≡ false → begins_unit (bytes ++ more) 2 ≡ false
  unfolding begins_unit
  unit_stays e =
      and_stays _ (digit_fits bytes 5 0 15) _ (digit_fits (bytes ++ more) 5 0 15)
      (and_stays _ (digit_fits bytes 4 0 15) _ (digit_fits (bytes ++ more) 4 0 15)
      (and_stays (digit_fits bytes 2 0 15) (digit_fits bytes 3 0 15) (digit_fits (bytes ++ more) 2 0 15) (digit_fits (bytes ++ more) 3 0 15) (digit_stays 2 0 15) (digit_stays 3 0 15))
      (digit_stays 4 0 15)) (digit_stays 5 0 15) e

  unit_same : 6 ≤ length bytes → begins_unit (bytes ++ more) 2 ≡ begins_unit bytes 2
  unfolding begins_unit
  unit_same h =
      let p = digit_same 2 0 15 (omega arith) in
      let q = digit_same 3 0 15 (omega arith) in
      let r = digit_same 4 0 15 (omega arith) in
      let s = digit_same 5 0 15 (omega arith) in
      ap (λ z. z && digit_fits (bytes ++ more) 3 0 15 && digit_fits (bytes ++ more) 4 0 15 && digit_fits (bytes ++ more) 5 0 15) p
      ∙ ap (λ z. digit_fits bytes 2 0 15 && z && digit_fits (bytes ++ more) 4 0 15 && digit_fits (bytes ++ more) 5 0 15) q
      ∙ ap (λ z. digit_fits bytes 2 0 15 && digit_fits bytes 3 0 15 && z && digit_fits (bytes ++ more) 5 0 15) r
      ∙ ap (λ z. digit_fits bytes 2 0 15 && digit_fits bytes 3 0 15 && digit_fits bytes 4 0 15 && z) s

  code_same : (at : ℕ) → at + 3 < length bytes → unit_at (bytes ++ more) at ≡ unit_at bytes at
  code_same at h =
      let p = ap digit_value (front_index bytes more at (omega arith)) in
      let q = ap digit_value (front_index bytes more (at + 1) (omega arith)) in
      let r = ap digit_value (front_index bytes more (at + 2) (omega arith)) in
      let s = ap digit_value (front_index bytes more (at + 3) (omega arith)) in
      omega (arith, p, q, r, s)

  second_stays : begins_second bytes 6 ≡ false → begins_second (bytes ++ more) 6 ≡ false
  unfolding begins_second
  second_stays e =
      and_stays _ (digit_fits bytes 11 0 15) _ (digit_fits (bytes ++ more) 11 0 15)
      (and_stays _ (digit_fits bytes 10 0 15) _ (digit_fits (bytes ++ more) 10 0 15)
      (and_stays _ (digit_fits bytes 9 12 15) _ (digit_fits (bytes ++ more) 9 12 15)
      (and_stays _ (digit_fits bytes 8 13 13) _ (digit_fits (bytes ++ more) 8 13 13)
      (and_stays (byte_fits bytes 6 92) (byte_fits bytes 7 117) (byte_fits (bytes ++ more) 6 92) (byte_fits (bytes ++ more) 7 117) (byte_stays 6 92) (byte_stays 7 117))
      (digit_stays 8 13 13)) (digit_stays 9 12 15)) (digit_stays 10 0 15)) (digit_stays 11 0 15) e

  long_same : (n : ℕ) → nat_lt (length bytes) n ≡ false → nat_lt (length (bytes ++ more)) n ≡ false
  long_same n e = let l = length-append bytes more in grind (arith, nat_tests)

  long_there : (n : ℕ) → nat_lt (length bytes) n ≡ false → n ≤ length bytes
  long_there n e = grind (arith, nat_tests)

  second_same : 12 ≤ length bytes → begins_second (bytes ++ more) 6 ≡ begins_second bytes 6
  unfolding begins_second
  second_same h =
      let p = byte_same 6 92 (omega arith) in
      let q = byte_same 7 117 (omega arith) in
      let r = digit_same 8 13 13 (omega arith) in
      let s = digit_same 9 12 15 (omega arith) in
      let t = digit_same 10 0 15 (omega arith) in
      let u = digit_same 11 0 15 (omega arith) in
      cc

-- ---- escapes

pub cond_stays : {X : Type 0} → (b c : Bool) (x y x2 y2 : Scan X) → (b ≡ true → (c ≡ true) × Stays x x2) → (b ≡ false → (c ≡ false) × Stays y y2) → Stays (cond b x y) (cond c x2 y2)
cond_stays true c x y x2 y2 f g = let h = f refl in chosen h.1
  where
    chosen : Stays x x2 → Stays x (cond c x2 y2)
    chosen (inl e) = inl e
    chosen (inr e) = inr (cond_true c x2 y2 (f refl).0 ∙ e)
cond_stays false c x y x2 y2 f g = let h = g refl in chosen h.1
  where
    chosen : Stays y y2 → Stays y (cond c x2 y2)
    chosen (inl e) = inl e
    chosen (inr e) = inr (cond_false c x2 y2 (g refl).0 ∙ e)

-- what is short where there are too few bytes
pub short_stays : {X : Type 0} → (b c : Bool) (y y2 : Scan X) → (b ≡ false → (c ≡ false) × Stays y y2) → Stays (cond b Short y) (cond c Short y2)
short_stays true c y y2 g = inl refl
short_stays {X} false c y y2 g = cond_stays {X = X} false c Short y Short y2 (λ e. absurd (cc)) g

module _ (bytes more : List ℕ) where
  pair_stays : (high : ℕ) → Stays (pair_at high bytes) (pair_at high (bytes ++ more))
  unfolding pair_at
  pair_stays high = by_begin (either_way (begins_second bytes 6))
    where
      early : Scan ℕ
      early = cond (nat_lt (length bytes) 12) Short (Whole (joined high (unit_at bytes 8)) 12)

      late : Scan ℕ
      late = cond (nat_lt (length (bytes ++ more)) 12) Short (Whole (joined high (unit_at (bytes ++ more) 8)) 12)

      by_long : begins_second bytes 6 ≡ true → (nat_lt (length bytes) 12 ≡ true) ⊎ (nat_lt (length bytes) 12 ≡ false) → Stays (cond (not (begins_second bytes 6)) (Bad 0) early) (cond (not (begins_second (bytes ++ more) 6)) (Bad 0) late)
      by_long e (inl s) = inl (cond_false (not (begins_second bytes 6)) (Bad 0) early (ap not e) ∙ cond_true (nat_lt (length bytes) 12) Short _ s)
      by_long e (inr l) =
          let long = long_there bytes more 12 l in
          inr (cond_false (not (begins_second (bytes ++ more) 6)) (Bad 0) late (ap not (second_same bytes more long ∙ e)) ∙ cond_false (nat_lt (length (bytes ++ more)) 12) Short _ (long_same bytes more 12 l)
          ∙ ap (λ u. Whole (joined high u) 12) (code_same bytes more 8 (omega arith)) ∙ sym (cond_false (not (begins_second bytes 6)) (Bad 0) early (ap not e) ∙ cond_false (nat_lt (length bytes) 12) Short _ l))

      by_begin : (begins_second bytes 6 ≡ true) ⊎ (begins_second bytes 6 ≡ false) → Stays (cond (not (begins_second bytes 6)) (Bad 0) early) (cond (not (begins_second (bytes ++ more) 6)) (Bad 0) late)
      by_begin (inl e) = by_long e (either_way (nat_lt (length bytes) 12))
      by_begin (inr e) = inr (cond_true (not (begins_second (bytes ++ more) 6)) (Bad 0) late (ap not (second_stays bytes more e)) ∙ sym (cond_true (not (begins_second bytes 6)) (Bad 0) early (ap not e)))

  then_stays : (unit : ℕ) → Stays (unit_then unit bytes) (unit_then unit (bytes ++ more))
  then_stays unit = cond_stays (is_high unit) (is_high unit) _ _ _ _ (λ e. (e, pair_stays unit)) (λ e. (e, inr refl))

-- a unit that begins as a low surrogate is one, whatever follows
low_unit : (a b c d : ℕ) → a ≡ 13 → 12 ≤ b → b ≤ 15 → c ≤ 15 → d ≤ 15 → (is_high (a * 4096 + b * 256 + c * 16 + d) ≡ false) × (is_low (a * 4096 + b * 256 + c * 16 + d) ≡ true)
low_unit a b c d p q r s t = let u = a * 4096 + b * 256 + c * 16 + d in by_size u (omega arith) (omega arith)
  where
    by_size : (u : ℕ) → 0xdc00 ≤ u → u < 0xe000 → (is_high u ≡ false) × (is_low u ≡ true)
    by_size u low high = (grind (arith, nat_tests), grind (arith, nat_tests))

fits_at : (size at d low high : ℕ) → (nat_le size at || (nat_le low d && nat_le d high)) ≡ true → at < size → (low ≤ d) × (d ≤ high)
fits_at size at d low high fits there = (grind (arith, nat_tests), grind (arith, nat_tests))

bad_low : (long : List ℕ) → begins_low long 2 ≡ true → unicode_at long ≡ Bad 0
unfolding unicode_at begins_low begins_unit
bad_low long e = by_unit (either_way (begins_unit long 2))
  where
    after : Scan ℕ
    after = cond (nat_lt (length long) 6) (cond (begins_low long 2) (Bad 0) Short) (unit_then (unit_at long 2) long)

    by_long : begins_unit long 2 ≡ true → (nat_lt (length long) 6 ≡ true) ⊎ (nat_lt (length long) 6 ≡ false) → after ≡ Bad 0
    by_long u (inl s) = cond_true (nat_lt (length long) 6) _ _ s ∙ cond_true (begins_low long 2) (Bad 0) Short e
    by_long u (inr l) =
        let size : 6 ≤ length long = grind (arith, nat_tests) in
        let p = both_true (nat_le 4 (length long) && digit_fits long 2 13 13) (digit_fits long 3 12 15) e in
        let q = both_true (nat_le 4 (length long)) (digit_fits long 2 13 13) p.0 in
        let r = both_true (digit_fits long 2 0 15 && digit_fits long 3 0 15 && digit_fits long 4 0 15) (digit_fits long 5 0 15) u in
        let s = both_true (digit_fits long 2 0 15 && digit_fits long 3 0 15) (digit_fits long 4 0 15) r.0 in
        let a = fits_at (length long) 2 (digit_at long 2) 13 13 q.1 (omega arith) in
        let b = fits_at (length long) 3 (digit_at long 3) 12 15 p.1 (omega arith) in
        let c = fits_at (length long) 4 (digit_at long 4) 0 15 s.1 (omega arith) in
        let d = fits_at (length long) 5 (digit_at long 5) 0 15 r.1 (omega arith) in
        let low = low_unit (digit_at long 2) (digit_at long 3) (digit_at long 4) (digit_at long 5) (omega (arith, a.0, a.1)) b.0 b.1 c.1 d.1 in
        cond_false (nat_lt (length long) 6) _ (unit_then (unit_at long 2) long) l ∙ cond_false (is_high (unit_at long 2)) _ _ low.0 ∙ cond_true (is_low (unit_at long 2)) (Bad 0) _ low.1

    by_unit : (begins_unit long 2 ≡ true) ⊎ (begins_unit long 2 ≡ false) → cond (not (begins_unit long 2)) (Bad 0) after ≡ Bad 0
    by_unit (inl u) = cond_false (not (begins_unit long 2)) (Bad 0) after (ap not u) ∙ by_long u (either_way (nat_lt (length long) 6))
    by_unit (inr u) = cond_true (not (begins_unit long 2)) (Bad 0) after (ap not u)

no_low : (bytes more : List ℕ) → begins_low bytes 2 ≡ false → Stays (unicode_at bytes) (unicode_at (bytes ++ more))
unfolding unicode_at
no_low bytes more e = by_unit (either_way (begins_unit bytes 2))
  where
    after : List ℕ → Scan ℕ
    after l = cond (nat_lt (length l) 6) (cond (begins_low l 2) (Bad 0) Short) (unit_then (unit_at l 2) l)

    by_then : Stays (unit_then (unit_at bytes 2) bytes) (unit_then (unit_at bytes 2) (bytes ++ more)) → begins_unit bytes 2 ≡ true → nat_lt (length bytes) 6 ≡ false
        → Stays (cond (not (begins_unit bytes 2)) (Bad 0) (after bytes)) (cond (not (begins_unit (bytes ++ more) 2)) (Bad 0) (after (bytes ++ more)))
    by_then (inl s) u l = inl (cond_false (not (begins_unit bytes 2)) (Bad 0) (after bytes) (ap not u) ∙ cond_false (nat_lt (length bytes) 6) _ _ l ∙ s)
    by_then (inr s) u l =
        let size = long_there bytes more 6 l in
        inr (cond_false (not (begins_unit (bytes ++ more) 2)) (Bad 0) (after (bytes ++ more)) (ap not (unit_same bytes more size ∙ u)) ∙ cond_false (nat_lt (length (bytes ++ more)) 6) _ _ (long_same bytes more 6 l)
        ∙ ap (λ c. unit_then c (bytes ++ more)) (code_same bytes more 2 (omega arith)) ∙ s ∙ sym (cond_false (not (begins_unit bytes 2)) (Bad 0) (after bytes) (ap not u) ∙ cond_false (nat_lt (length bytes) 6) _ _ l))

    by_long : begins_unit bytes 2 ≡ true → (nat_lt (length bytes) 6 ≡ true) ⊎ (nat_lt (length bytes) 6 ≡ false)
        → Stays (cond (not (begins_unit bytes 2)) (Bad 0) (after bytes)) (cond (not (begins_unit (bytes ++ more) 2)) (Bad 0) (after (bytes ++ more)))
    by_long u (inl s) = inl (cond_false (not (begins_unit bytes 2)) (Bad 0) (after bytes) (ap not u) ∙ cond_true (nat_lt (length bytes) 6) _ _ s ∙ cond_false (begins_low bytes 2) (Bad 0) Short e)
    by_long u (inr l) = by_then (then_stays bytes more (unit_at bytes 2)) u l

    by_unit : (begins_unit bytes 2 ≡ true) ⊎ (begins_unit bytes 2 ≡ false) → Stays (cond (not (begins_unit bytes 2)) (Bad 0) (after bytes)) (cond (not (begins_unit (bytes ++ more) 2)) (Bad 0) (after (bytes ++ more)))
    by_unit (inl u) = by_long u (either_way (nat_lt (length bytes) 6))
    by_unit (inr u) = inr (cond_true (not (begins_unit (bytes ++ more) 2)) (Bad 0) (after (bytes ++ more)) (ap not (unit_stays bytes more u)) ∙ sym (cond_true (not (begins_unit bytes 2)) (Bad 0) (after bytes) (ap not u)))

module _ (bytes more : List ℕ) where
  low_longer : begins_low bytes 2 ≡ true → begins_low (bytes ++ more) 2 ≡ true
  unfolding begins_low
  low_longer e =
      let p = both_true (nat_le 4 (length bytes) && digit_fits bytes 2 13 13) (digit_fits bytes 3 12 15) e in
      let q = both_true (nat_le 4 (length bytes)) (digit_fits bytes 2 13 13) p.0 in
      let size : 4 ≤ length bytes = let t = q.0 in grind (arith, nat_tests) in
      let l = length-append bytes more in
      let long : nat_le 4 (length (bytes ++ more)) ≡ true = grind (arith, nat_tests) in
      let a = digit_same bytes more 2 13 13 (omega arith) ∙ q.1 in
      let b = digit_same bytes more 3 12 15 (omega arith) ∙ p.1 in
      cc

  unicode_stays : Stays (unicode_at bytes) (unicode_at (bytes ++ more))
  unicode_stays = by_low (either_way (begins_low bytes 2))
    where
      plain_stays : begins_low bytes 2 ≡ false → Stays (unicode_at bytes) (unicode_at (bytes ++ more))
      plain_stays e = no_low bytes more e

      by_low : (begins_low bytes 2 ≡ true) ⊎ (begins_low bytes 2 ≡ false) → Stays (unicode_at bytes) (unicode_at (bytes ++ more))
      by_low (inl e) = inr (bad_low (bytes ++ more) (low_longer e) ∙ sym (bad_low bytes e))
      by_low (inr e) = plain_stays e

  pub escape_stays : Stays (escape_at bytes) (escape_at (bytes ++ more))
  unfolding escape_at
  escape_stays =
      short_stays (nat_lt (length bytes) 2) (nat_lt (length (bytes ++ more)) 2) _ _ (λ e.
      let same = front_index bytes more 1 (long_there bytes more 2 e) in (
        long_same bytes more 2 e,
        cond_stays (slice_index bytes 1 == 117) (slice_index (bytes ++ more) 1 == 117) _ _ _ _
            (λ u. (ap (λ x. x == 117) same ∙ u, unicode_stays)) (λ u. (ap (λ x. x == 117) same ∙ u, inr (ap (λ x. short_then (short_escape x)) same))),
      ))

-- What the scan of an integer tells.
use Rattle.std.proofs.Common.{◌≡◌, ℕ, ℤ, zero, suc, pos, negsuc, ◌+◌, ◌-◌, ◌*◌, ◌≤◌, ◌≤ℤ◌, Bool, true, false, cond, List, [], ◌∷◌, ◌++◌, length, Option, Some, None, refl, sym, ap, ◌∙◌, subst, arith, ◌⊎◌, inl, inr}
use Rattle.std.specs.Prelude.{int_lt, ◌==◌, ◌&&◌, ◌||◌}
use Rattle.std.proofs.lemmas.Bool.Decides.{nat_tests}
use Rattle.json_text.specs.declared.scanned.Scan.TheVariants.{Short, Bad}
use Rattle.json_text.specs.Int.{is_int_byte, integer, within, can_grow, run_scan, int_run, int_at}
use Rattle.json_text.specs.Grammar.{AreDigits, IsCounting, value_from, value_of, negated, SpellsInt}
use Rattle.json_text_laws.specs.Judged.{NoneGood, Judges, GoodInt, IsRange}
use Rattle.json_text_laws.proofs.Choices.{cond_none, cond_false, either_way}
use Rattle.json_text_laws.proofs.Fronts.{Full, Stops, full_or_stops}
use Rattle.json_text_laws.proofs.Integers.{Fits64, int_sound, int_found, grows, counting_some}

module _ (low high : ℤ) (range : IsRange low high) where
  fits : (z : ℤ) → low ≤ℤ z → z ≤ℤ high → Fits64 z
  fits z p q = let l = range.least in let m = range.most in (grind (arith, nat_tests), grind (arith, nat_tests))

  within_some : (found : Option ℤ) (v : ℤ) → within low high found ≡ Some v → (found ≡ Some v) × (low ≤ℤ v) × (v ≤ℤ high)
  within_some None v e = absurd (cc)
  within_some (Some w) v e =
      let test = cond_none (int_lt w low || int_lt high w) (Some w) v e in
      let same : w ≡ v = (let t = test.1 in cc) in
      let out = test.0 in
      let p : low ≤ℤ w = grind (arith, nat_tests) in
      let q : w ≤ℤ high = grind (arith, nat_tests) in
      (test.1, subst (λ y. low ≤ℤ y) same p, subst (λ y. y ≤ℤ high) same q)

  within_found : (z : ℤ) → low ≤ℤ z → z ≤ℤ high → within low high (Some z) ≡ Some z
  within_found z p q = cond_false (int_lt z low || int_lt high z) None (Some z) (grind (arith, nat_tests))

  -- a run that was not found is no integer of the range
  not_found : (run : List ℕ) (z : ℤ) → within low high (integer run) ≡ None → SpellsInt z run → low ≤ℤ z → z ≤ℤ high → ⊥
  not_found run z none spells p q =
      let found : within low high (integer run) ≡ Some z = ap (within low high) (int_found z run spells (fits z p q)) ∙ within_found z p q in
      let wrong : None ≡ Some z = sym none ∙ found in absurd (cc)

  none_good : (bytes : List ℕ) → within low high (integer (int_run bytes)) ≡ None → NoneGood (GoodInt low high) bytes
  none_good bytes none z after good = not_found (int_run bytes) z none good.1 good.2 good.3

  -- ---- a front of an integer is one, but for nothing and a minus

  value_append : (s : ℕ) (xs ys : List ℕ) → value_from s (xs ++ ys) ≡ value_from (value_from s xs) ys
  value_append s [] ys = refl
  value_append s (x ∷ xs) ys = value_append (s * 10 + (x - 48)) xs ys

  digits_front : (xs ys : List ℕ) → AreDigits (xs ++ ys) → AreDigits xs
  digits_front [] ys h = tt
  digits_front (x ∷ xs) ys h = (h.0, digits_front xs ys h.1)

  counting_front : (x : ℕ) (xs ys : List ℕ) → IsCounting ((x ∷ xs) ++ ys) → IsCounting (x ∷ xs)
  counting_front x xs ys h = (h.0, h.1, digits_front xs ys h.2)

  front_less : (xs ys : List ℕ) → value_of xs ≤ value_of (xs ++ ys)
  front_less xs ys = omega (arith, value_append 0 xs ys, grows (value_of xs) ys)

  abbrev InRange : ℤ → Type 0
  InRange z = (low ≤ℤ z) × (z ≤ℤ high)

  abbrev Spelled : List ℕ → Type 0
  Spelled run = (y : ℤ) × SpellsInt y run × (low ≤ℤ y) × (y ≤ℤ high)

  least_one : (v : ℕ) → 1 ≤ v → low ≤ℤ pos v
  least_one v h = let o = range.one in grind (arith, nat_tests)

  most_of : (u v : ℕ) → u ≤ v → pos v ≤ℤ high → pos u ≤ℤ high
  most_of u v h p = grind (arith, nat_tests)

  least_of : (u v : ℕ) → u ≤ v → low ≤ℤ negated v → low ≤ℤ negated u
  least_of zero zero h p = p
  least_of zero (suc v) h p = grind (arith, nat_tests)
  least_of (suc u) zero h p = absurd (omega arith)
  least_of (suc u) (suc v) h p = grind (arith, nat_tests)

  negated_most : (u : ℕ) → negated u ≤ℤ high
  negated_most zero = range.none
  negated_most (suc u) = let n = range.none in grind (arith, nat_tests)

  of_zero : (x : ℕ) (xs ys : List ℕ) (z : ℤ) → (x ∷ xs) ++ ys ≡ 48 ∷ [] → z ≡ pos 0 → InRange z → Spelled (x ∷ xs)
  of_zero x [] ys z e is r = (z, inl (let first : x ≡ 48 = cc in ap (λ k. k ∷ []) first, is), r.0, r.1)
  of_zero x (y ∷ xs) ys z e is r = absurd (cc)

  of_counting : (x : ℕ) (xs ys : List ℕ) (z : ℤ) → IsCounting ((x ∷ xs) ++ ys) → z ≡ pos (value_of ((x ∷ xs) ++ ys)) → InRange z → Spelled (x ∷ xs)
  of_counting x xs ys z h is r =
      let c = counting_front x xs ys h in
      let u = value_of (x ∷ xs) in
      (pos u, inr (inl (c, refl)), least_one u (counting_some (x ∷ xs) c), most_of u (value_of ((x ∷ xs) ++ ys)) (front_less (x ∷ xs) ys) (subst (λ k. k ≤ℤ high) is r.1))

  of_minus : (xs ys : List ℕ) (z : ℤ) → 1 ≤ length xs → IsCounting (xs ++ ys) → z ≡ negated (value_of (xs ++ ys)) → InRange z → Spelled (45 ∷ xs)
  of_minus [] ys z some h is r = absurd (omega arith)
  of_minus (x ∷ xs) ys z some h is r =
      let c = counting_front x xs ys h in
      let u = value_of (x ∷ xs) in
      (negated u, inr (inr (x ∷ xs, refl, c, refl)), least_of u (value_of ((x ∷ xs) ++ ys)) (front_less (x ∷ xs) ys) (subst (λ k. low ≤ℤ k) is r.0), negated_most u)

  of_negative : (x : ℕ) (xs ys digits : List ℕ) (z : ℤ) → (x ≡ 45 → 1 ≤ length xs) → (x ∷ xs) ++ ys ≡ 45 ∷ digits → IsCounting digits → z ≡ negated (value_of digits) → InRange z → Spelled (x ∷ xs)
  of_negative x xs ys digits z more e h is r =
      let first : x ≡ 45 = cc in
      let rest : xs ++ ys ≡ digits = cc in
      subst (λ k. Spelled (k ∷ xs)) (sym first) (of_minus xs ys z (more first) (subst IsCounting (sym rest) h) (is ∙ ap (λ d. negated (value_of d)) (sym rest)) r)

  front_spelled : (x : ℕ) (xs ys : List ℕ) (z : ℤ) → (x ≡ 45 → 1 ≤ length xs) → SpellsInt z ((x ∷ xs) ++ ys) → InRange z → Spelled (x ∷ xs)
  front_spelled x xs ys z more (inl p) r = of_zero x xs ys z p.0 p.1 r
  front_spelled x xs ys z more (inr (inl p)) r = of_counting x xs ys z p.0 p.1 r
  front_spelled x xs ys z more (inr (inr (digits, e, h, is))) r = of_negative x xs ys digits z more e h is r

  -- a minus alone begins no integer that is not below 0
  below_zero : (v : ℕ) → 1 ≤ v → low ≤ℤ negated v → int_lt low (pos 0) ≡ true
  below_zero zero some p = absurd (omega arith)
  below_zero (suc v) some p = grind (arith, nat_tests)

  first_of_same : (x y : ℕ) (xs ys : List ℕ) → x ∷ xs ≡ y ∷ ys → x ≡ y
  first_of_same x y xs ys e = cc

  minus_below : (x : ℕ) (ys : List ℕ) (z : ℤ) → x ≡ 45 → SpellsInt z (x ∷ ys) → low ≤ℤ z → int_lt low (pos 0) ≡ true
  minus_below x ys z is (inl p) r = let other = first_of_same x 48 ys [] p.0 in absurd (omega arith)
  minus_below x ys z is (inr (inl p)) r = let other = p.0.0 in absurd (omega arith)
  minus_below x ys z is (inr (inr (digits, e, h, value))) r = below_zero (value_of digits) (counting_some digits h) (subst (λ k. low ≤ℤ k) value r)

  -- ---- what the scan tells

  stuck : (x : ℕ) (xs ys : List ℕ) (z : ℤ) → can_grow low (x ∷ xs) ≡ false → within low high (integer (x ∷ xs)) ≡ None → SpellsInt z ((x ∷ xs) ++ ys) → InRange z → ⊥
  stuck x [] ys z grow none spells r = by_minus (either_way (x == 45))
    where
      by_minus : ((x == 45) ≡ true) ⊎ ((x == 45) ≡ false) → ⊥
      by_minus (inl e) =
          let is : x ≡ 45 = grind (arith, nat_tests) in
          let neg = minus_below x ys z is spells r.0 in
          let no : ⊥ = grind (arith, nat_tests) in no
      by_minus (inr e) =
          let y = front_spelled x [] ys z (λ is. absurd (grind (arith, nat_tests))) spells r in
          not_found (x ∷ []) y.0 none y.1 y.2 y.3
  stuck x (y ∷ xs) ys z grow none spells r =
      let s = front_spelled x (y ∷ xs) ys z (λ is. omega arith) spells r in
      not_found (x ∷ y ∷ xs) s.0 none s.1 s.2 s.3

  -- ---- some continuation of a run that can grow

  abbrev Grows : List ℕ → Type 0
  Grows bytes = (more : List ℕ) × (z : ℤ) × (after : ℕ) × GoodInt low high (bytes ++ more) z after

  from_nothing : Grows []
  from_nothing = by_low (either_way (int_lt (pos 0) low))
    where
      by_low : (int_lt (pos 0) low ≡ true) ⊎ (int_lt (pos 0) low ≡ false) → Grows []
      by_low (inl e) =
          let o = range.one in let s = range.some in
          (49 ∷ [], pos 1, 1, (refl, inr (inl ((omega arith, omega arith, tt), refl)), o, grind (arith, nat_tests)))
      by_low (inr e) = (48 ∷ [], pos 0, 1, (refl, inl (refl, refl), grind (arith, nat_tests), range.none))

  from_minus : int_lt low (pos 0) ≡ true → Grows (45 ∷ [])
  from_minus e =
      let n = range.none in
      (49 ∷ [], negsuc 0, 2, (refl, inr (inr (49 ∷ [], refl, (omega arith, omega arith, tt), refl)), grind (arith, nat_tests), grind (arith, nat_tests)))

  can_go_on : (bytes : List ℕ) → can_grow low bytes ≡ true → Grows bytes
  can_go_on [] e = from_nothing
  can_go_on (x ∷ []) e = let is : x ≡ 45 = grind (arith, nat_tests) in subst (λ k. Grows (k ∷ [])) (sym is) (from_minus (grind (arith, nat_tests)))
  can_go_on (x ∷ y ∷ xs) e = absurd (grind (arith, nat_tests))

  no_empty : (run : List ℕ) → can_grow low run ≡ false → 1 ≤ length run
  no_empty [] e = absurd (cc)
  no_empty (x ∷ xs) e = omega arith

  stuck_run : (run ys : List ℕ) (z : ℤ) → can_grow low run ≡ false → within low high (integer run) ≡ None → SpellsInt z (run ++ ys) → InRange z → ⊥
  stuck_run [] ys z grow none spells r = absurd (cc)
  stuck_run (x ∷ xs) ys z grow none spells r = stuck x xs ys z grow none spells r

  full_judged : (bytes : List ℕ) → Full is_int_byte bytes → within low high (integer (int_run bytes)) ≡ None → (b : Bool) → can_grow low (int_run bytes) ≡ b → Judges (GoodInt low high) bytes (cond b Short (Bad 0))
  full_judged bytes full none true grow = (none_good bytes none, can_go_on bytes (ap (can_grow low) (sym full.whole) ∙ grow))
  full_judged bytes full none false grow = (refl, λ more z after good. stuck_run bytes (int_run more) z (ap (can_grow low) (sym full.whole) ∙ grow) (ap (λ r. within low high (integer r)) (sym full.whole) ∙ none) (subst (SpellsInt z) (full.onward more) good.1) (good.2, good.3))

  stops_judged : (bytes : List ℕ) → Stops is_int_byte bytes → within low high (integer (int_run bytes)) ≡ None → Judges (GoodInt low high) bytes (Bad 0)
  stops_judged bytes stops none = (refl, λ more. none_good (bytes ++ more) (ap (λ r. within low high (integer r)) (stops.same more) ∙ none))

  none_judged : (bytes : List ℕ) → within low high (integer (int_run bytes)) ≡ None → Full is_int_byte bytes ⊎ Stops is_int_byte bytes → Judges (GoodInt low high) bytes (run_scan low (int_run bytes) bytes None)
  none_judged bytes none (inl full) =
      let ends : (length (int_run bytes) == length bytes) ≡ true = let e = ap length full.whole in grind (arith, nat_tests) in
      subst (λ b. Judges (GoodInt low high) bytes (cond (b && can_grow low (int_run bytes)) Short (Bad 0))) (sym ends) (full_judged bytes full none (can_grow low (int_run bytes)) refl)
  none_judged bytes none (inr stops) =
      let ends : (length (int_run bytes) == length bytes) ≡ false = let s = stops.shorter in grind (arith, nat_tests) in
      subst (λ b. Judges (GoodInt low high) bytes (cond (b && can_grow low (int_run bytes)) Short (Bad 0))) (sym ends) (stops_judged bytes stops none)

  judged : (bytes : List ℕ) (found : Option ℤ) → within low high (integer (int_run bytes)) ≡ found → Judges (GoodInt low high) bytes (run_scan low (int_run bytes) bytes found)
  judged bytes (Some v) e = let w = within_some (integer (int_run bytes)) v e in (refl, int_sound v (int_run bytes) w.0, w.1, w.2)
  judged bytes None e = none_judged bytes e (full_or_stops is_int_byte bytes)

  pub int_judged : (bytes : List ℕ) → Judges (GoodInt low high) bytes (int_at low high bytes)
  unfolding int_at
  int_judged bytes = judged bytes (within low high (integer (int_run bytes))) refl

-- Where bytes stand in a word, and what stands behind the last dot.
use Rattle.std.proofs.Common.{◌≡◌, ℕ, suc, ◌+◌, ◌<◌, ◌≤◌, ◌==◌, List, [], ◌∷◌, length, drop, Bool, true, false, if◌then◌else◌, nat_lt, refl, sym, ap, ◌∙◌, arith}
use Rattle.std.proofs.lemmas.Bool.Decides.{nat_tests}
use Rattle.peer_addresses.specs.Places.{place}
use Rattle.peer_addresses.specs.Names.{last_label}

-- a place lies within its word, or behind it
pub place_within : (mark : ℕ) (xs : List ℕ) → place mark xs ≤ length xs
place_within mark [] = omega arith
place_within mark (c ∷ cs) = by (c == mark) (place_within mark cs)
  where
    by : (b : Bool) → place mark cs ≤ length cs → (if b then 0 else suc (place mark cs)) ≤ length (c ∷ cs)
    by true under = omega arith
    by false under = omega (arith, under)

-- without a dot it is the whole word
pub whole_label : (xs : List ℕ) → length xs ≤ place 46 xs → last_label xs ≡ xs
whole_label [] over = refl
whole_label (byte ∷ rest) over = by (byte == 46) over
  where
    by : (b : Bool) → length (byte ∷ rest) ≤ (if b then 0 else suc (place 46 rest)) → (if nat_lt (place 46 rest) (length rest) then last_label rest else (if b then rest else byte ∷ rest)) ≡ byte ∷ rest
    by true over = absurd (omega (arith, over))
    by false over = grind (arith, nat_tests, over)

-- it is that of what stands behind the first dot
pub next_label : (xs : List ℕ) → place 46 xs < length xs → last_label xs ≡ last_label (drop (place 46 xs + 1) xs)
next_label [] under = absurd (omega (arith, under))
next_label (byte ∷ rest) under = by (byte == 46) (next_label rest) under
  where
    later : (b : Bool) → nat_lt (place 46 rest) (length rest) ≡ b → (if b then last_label rest else rest) ≡ last_label rest
    later true is = refl
    later false is = sym (whole_label rest (grind (arith, nat_tests, is)))

    by : (b : Bool) → (place 46 rest < length rest → last_label rest ≡ last_label (drop (place 46 rest + 1) rest)) → (if b then 0 else suc (place 46 rest)) < length (byte ∷ rest)
        → (if nat_lt (place 46 rest) (length rest) then last_label rest else (if b then rest else byte ∷ rest)) ≡ last_label (drop ((if b then 0 else suc (place 46 rest)) + 1) (byte ∷ rest))
    by true next under = later (nat_lt (place 46 rest) (length rest)) refl
    by false next under =
        let within : place 46 rest < length rest = omega (arith, under) in
        let test : nat_lt (place 46 rest) (length rest) ≡ true = grind (arith, nat_tests, within) in
        let shift : suc (place 46 rest) + 1 ≡ suc (place 46 rest + 1) = omega arith in
        ap (λ (b : Bool). if b then last_label rest else byte ∷ rest) test ∙ (next within ∙ ap (λ (n : ℕ). last_label (drop n (byte ∷ rest))) (sym shift))

-- The scans of the parser, as parts one behind the other.
use Rattle.std.proofs.Common.{◌≡◌, ◌∙◌, ap, sym, refl, ℕ, ◌+◌, List, drop, Ok, Err, arith}
use Rattle.idl_parser.specs.Lexemes.{Scan, onward}
use Rattle.idl_parser.specs.Seen.{Seen}
use Rattle.grammar_laws.proofs.Lists.{drop_both}
use Rattle.grammar_laws.proofs.Reading.{Part, moved, ok_same}
use Rattle.grammar_laws.proofs.Steps.{step, step_by, step_end}

-- what is read last
pub last : {X Z : Type 0} (n : ℕ) (r : Scan X) (g : X → Z) → onward n r (λ x m. Ok (g x, m)) ≡ moved n g r
last n (Ok x) g = refl
last n (Err f) g = refl

-- without what is passed over before it
pub moved_twice : {X Z : Type 0} (a b : ℕ) (g : X → Z) (r : Scan X) → moved a (λ z. z) (moved b g r) ≡ moved (a + b) g r
moved_twice a b g (Ok x) = let same : a + (b + x.1) ≡ a + b + x.1 = omega arith in ok_same (g x.0) (g x.0) (a + (b + x.1)) (a + b + x.1) refl same
moved_twice a b g (Err f) = refl

module _ {X Y Z : Type 0} (n : ℕ) (q : Part Y) (g : X × Y → Z) (xs : List Seen) where
  -- behind the first of two
  second_is : (x : X) (a : ℕ) (r : Scan Y) → moved (n + a) (λ y. g (x, y)) r ≡ moved n g (step_end (x, a) r)
  second_is x a (Ok y) = let same : n + a + y.1 ≡ n + (a + y.1) = omega arith in ok_same (g (x, y.0)) (g (x, y.0)) (n + a + y.1) (n + (a + y.1)) refl same
  second_is x a (Err f) = refl

  onward_is : (K : X → ℕ → Scan Z) → ((x : X) (m : ℕ) → K x m ≡ moved m (λ y. g (x, y)) (q (drop m xs))) → (r : Scan X) → onward n r K ≡ moved n g (step_by q (drop n xs) r)
  onward_is K rest (Ok x) =
      rest x.0 (n + x.1) ∙ ap (λ (ts : List Seen). moved (n + x.1) (λ y. g (x.0, y)) (q ts)) (sym (drop_both n x.1 xs)) ∙ second_is x.0 x.1 (q (drop x.1 (drop n xs)))
  onward_is K rest (Err f) = refl

-- a scan that goes on as a part does
pub goes_on : {X Y Z : Type 0} (n : ℕ) (p : Part X) (q : Part Y) (g : X × Y → Z) (K : X → ℕ → Scan Z) (xs : List Seen) →
    ((x : X) (m : ℕ) → K x m ≡ moved m (λ y. g (x, y)) (q (drop m xs))) → onward n (p (drop n xs)) K ≡ moved n g (step p q (drop n xs))
goes_on n p q g K xs rest = onward_is n q g xs K rest (p (drop n xs))

-- a scan that goes on behind what was seen otherwise
pub onward_moved : {X Y Z : Type 0} (a : ℕ) (f : X → Y) (r : Scan X) (K : Y → ℕ → Scan Z) → onward 0 (moved a f r) K ≡ onward a r (λ x m. K (f x) m)
onward_moved a f (Ok x) K = let none : 0 + (a + x.1) ≡ a + x.1 = omega arith in ap (K (f x.0)) none
onward_moved a f (Err g) K = refl

module _ {A B : Type 0} (p : Part A) (q : Part B) where
  pub chain2 : {Z : Type 0} (g : A × B → Z) (xs : List Seen) → (onward 0 (p xs) λ x n. onward n (q (drop n xs)) λ y n. Ok (g (x, y), n)) ≡ moved 0 g (step p q xs)
  chain2 {Z} g xs = goes_on 0 p q g (λ x n. onward n (q (drop n xs)) λ y n. Ok (g (x, y), n)) xs (λ x m. last m (q (drop m xs)) (λ y. g (x, y)))

module _ {A B C : Type 0} (p : Part A) (q : Part B) (r : Part C) where
  pub chain3 : {Z : Type 0} (g : A × (B × C) → Z) (xs : List Seen) →
      (onward 0 (p xs) λ x n. onward n (q (drop n xs)) λ y n. onward n (r (drop n xs)) λ z n. Ok (g (x, (y, z)), n)) ≡ moved 0 g (step p (step q r) xs)
  chain3 {Z} g xs =
      goes_on 0 p (step q r) g (λ x n. onward n (q (drop n xs)) λ y n. onward n (r (drop n xs)) λ z n. Ok (g (x, (y, z)), n)) xs
      (λ x m. goes_on m q r (λ t. g (x, t)) (λ y n. onward n (r (drop n xs)) λ z n. Ok (g (x, (y, z)), n)) xs
      (λ y k. last k (r (drop k xs)) (λ z. g (x, (y, z)))))

module _ {A B C D : Type 0} (p : Part A) (q : Part B) (r : Part C) (s : Part D) where
  pub chain4 : {Z : Type 0} (g : A × (B × (C × D)) → Z) (xs : List Seen) →
      (onward 0 (p xs) λ x n. onward n (q (drop n xs)) λ y n. onward n (r (drop n xs)) λ z n. onward n (s (drop n xs)) λ w n. Ok (g (x, (y, (z, w))), n)) ≡ moved 0 g (step p (step q (step r s)) xs)
  chain4 {Z} g xs =
      goes_on 0 p (step q (step r s)) g (λ x n. onward n (q (drop n xs)) λ y n. onward n (r (drop n xs)) λ z n. onward n (s (drop n xs)) λ w n. Ok (g (x, (y, (z, w))), n)) xs
      (λ x m. goes_on m q (step r s) (λ t. g (x, t)) (λ y n. onward n (r (drop n xs)) λ z n. onward n (s (drop n xs)) λ w n. Ok (g (x, (y, (z, w))), n)) xs
      (λ y k. goes_on k r s (λ t. g (x, (y, t))) (λ z n. onward n (s (drop n xs)) λ w n. Ok (g (x, (y, (z, w))), n)) xs
      (λ z j. last j (s (drop j xs)) (λ w. g (x, (y, (z, w)))))))

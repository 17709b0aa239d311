-- The longest run of bytes that pass a test, with more bytes behind.
use Rattle.std.proofs.Common.{◌≡◌, ℕ, suc, ◌+◌, ◌<◌, Bool, true, false, cond, List, [], ◌∷◌, ◌++◌, length, take, refl, sym, ap, ◌∙◌, arith, ◌⊎◌, inl, inr}
use Rattle.std.specs.List.{prefix_len}
use Rattle.json_text_laws.proofs.Choices.{cond_true, cond_false, either_way}

abbrev pub run_of : (ℕ → Bool) → List ℕ → List ℕ
run_of p bytes = take (prefix_len p bytes) bytes

one_more : (b : Bool) (x n : ℕ) (xs : List ℕ) → take (cond b (1 + n) 0) (x ∷ xs) ≡ cond b (x ∷ take n xs) []
one_more true x n xs = let e : 1 + n ≡ suc n = omega arith in ap (λ k. take k (x ∷ xs)) e
one_more false x n xs = refl

pub run_cons : (p : ℕ → Bool) (x : ℕ) (xs : List ℕ) → run_of p (x ∷ xs) ≡ cond (p x) (x ∷ run_of p xs) []
run_cons p x xs = one_more (p x) x (prefix_len p xs) xs

-- all bytes pass, so the run goes on behind them
pub record Full (p : ℕ → Bool) (bytes : List ℕ) : Type 0 where
  pub whole : run_of p bytes ≡ bytes
  pub onward : (more : List ℕ) → run_of p (bytes ++ more) ≡ bytes ++ run_of p more

-- a byte does not, so nothing behind changes the run
pub record Stops (p : ℕ → Bool) (bytes : List ℕ) : Type 0 where
  pub shorter : length (run_of p bytes) < length bytes
  pub same : (more : List ℕ) → run_of p (bytes ++ more) ≡ run_of p bytes

passes : (p : ℕ → Bool) (x : ℕ) (xs : List ℕ) → p x ≡ true → run_of p (x ∷ xs) ≡ x ∷ run_of p xs
passes p x xs e = run_cons p x xs ∙ cond_true (p x) (x ∷ run_of p xs) [] e

fails : (p : ℕ → Bool) (x : ℕ) (xs : List ℕ) → p x ≡ false → run_of p (x ∷ xs) ≡ []
fails p x xs e = run_cons p x xs ∙ cond_false (p x) (x ∷ run_of p xs) [] e

later : (p : ℕ → Bool) (x : ℕ) (xs : List ℕ) → p x ≡ true → Full p xs ⊎ Stops p xs → Full p (x ∷ xs) ⊎ Stops p (x ∷ xs)
later p x xs e (inl f) = inl (record { whole = passes p x xs e ∙ ap (λ r. x ∷ r) f.whole; onward = (λ more. passes p x (xs ++ more) e ∙ ap (λ r. x ∷ r) (f.onward more)) })
later p x xs e (inr s) = inr (record { shorter = omega (arith, ap length (passes p x xs e), s.shorter); same = (λ more. passes p x (xs ++ more) e ∙ ap (λ r. x ∷ r) (s.same more) ∙ sym (passes p x xs e)) })

pub full_or_stops : (p : ℕ → Bool) (bytes : List ℕ) → Full p bytes ⊎ Stops p bytes
full_or_stops p [] = inl (record { whole = refl; onward = (λ more. refl) })
full_or_stops p (x ∷ xs) = by_test (full_or_stops p xs) (either_way (p x))
  where
    by_test : Full p xs ⊎ Stops p xs → (p x ≡ true) ⊎ (p x ≡ false) → Full p (x ∷ xs) ⊎ Stops p (x ∷ xs)
    by_test rest (inl e) = later p x xs e rest
    by_test rest (inr e) = inr (record { shorter = omega (arith, ap length (fails p x xs e)); same = (λ more. fails p x (xs ++ more) e ∙ sym (fails p x xs e)) })

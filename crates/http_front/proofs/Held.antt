-- What is read is held.
use Rattle.std.proofs.Common.{◌≡◌, ℕ, ◌≤◌, List, ◌++◌, length, take, min, ap, ◌∙◌, arith, length-take}
use Rattle.http_front.specs.Fronts.{Front}

-- a piece more is held
pub held_more : (f g : Front) (was now into : List ℕ) (n : ℕ) → n ≤ length into → now ≡ was ++ take n into → was ≡ f.input → g ≡ record f { input = now } → (length (take n into) ≡ n) × (g ≡ record f { input = f.input ++ take n into })
held_more f g was now into n few held input view = (
  length-take n into ∙ least n (length into) few,
  view ∙ ap (λ (xs : List ℕ). record f { input = xs }) (held ∙ ap (λ (xs : List ℕ). xs ++ take n into) input),
)
  where
    least : (m n : ℕ) → m ≤ n → min m n ≡ m
    least m n le = omega (arith, le)

-- What begins a document, and where nothing does any more.
use Rattle.std.proofs.Common.{◌≡◌, ◌∙◌, ap, sym, subst, ℕ, zero, suc, ◌<◌, ◌≤◌, ◌⊎◌, inl, inr, List, [], ◌∷◌, ◌++◌, length, take, drop, arith, refl}
use Rattle.idl_parser.specs.Seen.{Seen}
use Rattle.idl_parser.specs.Lexemes.{offset_of}
use Rattle.grammar_laws.specs.Faults.{IsDocument, Begins, IsFaultPlace, IsFaultAt, at_token, at_end}

append_twice : (xs ys zs : List Seen) → (xs ++ ys) ++ zs ≡ xs ++ (ys ++ zs)
append_twice [] ys zs = refl
append_twice (x ∷ xs) ys zs = ap (λ (t : List Seen). x ∷ t) (append_twice xs ys zs)

-- a longer front is a shorter one with more behind it
pub longer : (m n : ℕ) (xs : List Seen) → m ≤ n → (more : List Seen) × (take n xs ≡ take m xs ++ more)
longer zero n xs few = (take n xs, refl)
longer (suc m) zero xs few = absurd (omega arith)
longer (suc m) (suc n) [] few = ([], refl)
longer (suc m) (suc n) (x ∷ xs) few = let inner = longer m n xs (omega arith) in (inner.0, ap (λ (t : List Seen). x ∷ t) inner.1)

all_of : (xs : List Seen) → take (length xs) xs ≡ xs
all_of [] = refl
all_of (x ∷ xs) = ap (λ (t : List Seen). x ∷ t) (all_of xs)

front_begins : (xs more : List Seen) → Begins (xs ++ more) → Begins xs
front_begins xs more b = (more ++ b.0, subst IsDocument (append_twice xs more b.0) b.1)

pub shorter_begins : (m n : ℕ) (xs : List Seen) → m ≤ n → Begins (take n xs) → Begins (take m xs)
shorter_begins m n xs few b = let split = longer m n xs few in front_begins (take m xs) split.0 (subst Begins split.1 b)

empty_behind : (xs : List Seen) → xs ≡ xs ++ []
empty_behind [] = refl
empty_behind (x ∷ xs) = ap (λ (t : List Seen). x ∷ t) (empty_behind xs)

document_begins : (xs : List Seen) → IsDocument xs → Begins xs
document_begins xs d = ([], subst IsDocument (empty_behind xs) d)

-- before a fault the tokens begin a document
begins_before : (xs : List Seen) (n : ℕ) → IsFaultPlace xs n → (n ≤ length xs) × Begins (take n xs)
begins_before xs n (at_token few b none) = (omega (arith, few), b)
begins_before xs n (at_end all b none) = (omega (arith, all), subst (λ (k : ℕ). Begins (take k xs)) (sym all) (subst Begins (sym (all_of xs)) b))

-- no fault stands behind another
not_behind : (xs : List Seen) (m n : ℕ) → IsFaultPlace xs m → IsFaultPlace xs n → m < n → ⊥
not_behind xs m n (at_token few b none) other less = none (shorter_begins (suc m) n xs (omega (arith, less)) (begins_before xs n other).1)
not_behind xs m n (at_end all b none) other less = let within = (begins_before xs n other).0 in omega (arith, within, all, less)

pub order : (m n : ℕ) → (m ≡ n) ⊎ ((m < n) ⊎ (n < m))
order zero zero = inl refl
order zero (suc n) = inr (inl (omega arith))
order (suc m) zero = inr (inr (omega arith))
order (suc m) (suc n) = by (order m n)
  where
    by : (m ≡ n) ⊎ ((m < n) ⊎ (n < m)) → (suc m ≡ suc n) ⊎ ((suc m < suc n) ⊎ (suc n < suc m))
    by (inl e) = inl (ap suc e)
    by (inr (inl less)) = inr (inl (omega (arith, less)))
    by (inr (inr less)) = inr (inr (omega (arith, less)))

pub one_place : (xs : List Seen) (m n : ℕ) → IsFaultPlace xs m → IsFaultPlace xs n → m ≡ n
one_place xs m n a b = by (order m n)
  where
    by : (m ≡ n) ⊎ ((m < n) ⊎ (n < m)) → m ≡ n
    by (inl e) = e
    by (inr (inl less)) = absurd (not_behind xs m n a b less)
    by (inr (inr less)) = absurd (not_behind xs n m b a less)

pub one_offset : (edge : ℕ) (xs : List Seen) (a b : ℕ) → IsFaultAt edge xs a → IsFaultAt edge xs b → a ≡ b
one_offset edge xs a b x y = x.2 ∙ ap (λ (n : ℕ). offset_of edge (drop n xs)) (one_place xs x.0 y.0 x.1 y.1) ∙ sym y.2

pub no_fault : (xs : List Seen) (n : ℕ) → IsDocument xs → IsFaultPlace xs n → ⊥
no_fault xs n d (at_token few b none) = none (shorter_begins (suc n) (length xs) xs (omega (arith, few)) (subst Begins (sym (all_of xs)) (document_begins xs d)))
no_fault xs n d (at_end all b none) = none d

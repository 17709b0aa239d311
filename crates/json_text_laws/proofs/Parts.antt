-- The longest front of some bytes that pass a test.
use Rattle.std.proofs.Common.{◌≡◌, ℕ, suc, ◌+◌, Bool, true, false, cond, List, [], ◌∷◌, ◌++◌, length, take, drop, refl, ap, ◌∙◌, arith, ◌⊎◌, inl, inr}
use Rattle.std.specs.Prelude.{slice_index}
use Rattle.std.specs.List.{prefix_len}
use Rattle.json_text_laws.proofs.Choices.{cond_false, either_way}

abbrev pub All : (ℕ → Bool) → List ℕ → Type 0
All p [] = Unit {0}
All p (x ∷ xs) = (p x ≡ true) × All p xs

-- the first byte does not pass
abbrev pub Apart : (ℕ → Bool) → List ℕ → Type 0
Apart p [] = Unit {0}
Apart p (x ∷ xs) = p x ≡ false

cut_cons : (b : Bool) (n : ℕ) → b ≡ true → cond b (1 + n) 0 ≡ suc n
cut_cons true n e = omega arith
cut_cons false n e = absurd (cc)

pub cut_len : (p : ℕ → Bool) (front rest : List ℕ) → All p front → Apart p rest → prefix_len p (front ++ rest) ≡ length front
cut_len p [] [] all apart = refl
cut_len p [] (x ∷ xs) all apart = cond_false (p x) (1 + prefix_len p xs) 0 apart
cut_len p (x ∷ xs) rest all apart = cut_cons (p x) (prefix_len p (xs ++ rest)) all.0 ∙ ap suc (cut_len p xs rest all.1 apart)

pub drop_front : (front rest : List ℕ) → drop (length front) (front ++ rest) ≡ rest
drop_front [] rest = refl
drop_front (x ∷ xs) rest = drop_front xs rest

pub take_front : (front rest : List ℕ) → take (length front) (front ++ rest) ≡ front
take_front [] rest = refl
take_front (x ∷ xs) rest = ap (λ r. x ∷ r) (take_front xs rest)

pub at_seam : (front : List ℕ) (x : ℕ) (rest : List ℕ) → slice_index (front ++ (x ∷ rest)) (length front) ≡ x
at_seam [] x rest = refl
at_seam (y ∷ ys) x rest = at_seam ys x rest

pub append_more : (a b c : List ℕ) → (a ++ b) ++ c ≡ a ++ (b ++ c)
append_more [] b c = refl
append_more (x ∷ a) b c = ap (λ r. x ∷ r) (append_more a b c)

pub record Parted (p : ℕ → Bool) (xs : List ℕ) : Type 0 where
  pub front : List ℕ
  pub rest : List ℕ
  pub joined : xs ≡ front ++ rest
  pub all : All p front
  pub apart : Apart p rest

pub parted : (p : ℕ → Bool) (xs : List ℕ) → Parted p xs
parted p [] = record { front = []; rest = []; joined = refl; all = tt; apart = tt }
parted p (x ∷ xs) = by_test (parted p xs) (either_way (p x))
  where
    by_test : Parted p xs → (p x ≡ true) ⊎ (p x ≡ false) → Parted p (x ∷ xs)
    by_test part (inl e) = record { front = x ∷ part.front; rest = part.rest; joined = ap (λ r. x ∷ r) part.joined; all = (e, part.all); apart = part.apart }
    by_test part (inr e) = record { front = []; rest = x ∷ xs; joined = refl; all = tt; apart = e }

pub all_append : (p : ℕ → Bool) (xs ys : List ℕ) → All p xs → All p ys → All p (xs ++ ys)
all_append p [] ys a b = b
all_append p (x ∷ xs) ys a b = (a.0, all_append p xs ys a.1 b)

-- Fronts of some bytes, and how many bytes of one kind stand there.
use Rattle.std.proofs.Common.{◌≡◌, ℕ, suc, ◌+◌, ◌≤◌, Bool, true, false, cond, List, [], ◌∷◌, ◌++◌, length, take, drop, refl, sym, ap, ◌∙◌, subst, arith, ◌⊎◌, inl, inr}
use Rattle.std.specs.Prelude.{slice_index, not, ◌==◌, ◌&&◌}
use Rattle.std.specs.List.{prefix_len, list_all}
use Rattle.std.proofs.lemmas.Bool.{cases_Bool, cond-false, and_parts, and_from, lt-ltb}
use Rattle.idl_lexer.specs.Pieces.{begins}

-- ---- joined lists

pub take_front : (front rest : List ℕ) → take (length front) (front ++ rest) ≡ front
take_front [] rest = refl
take_front (x ∷ xs) rest = ap (λ r. x ∷ r) (take_front xs rest)

pub drop_front : (front rest : List ℕ) → drop (length front) (front ++ rest) ≡ rest
drop_front [] rest = refl
drop_front (x ∷ xs) rest = drop_front xs rest

pub drop_behind : (front : List ℕ) (x : ℕ) (rest : List ℕ) → drop (length front + 1) (front ++ x ∷ rest) ≡ rest
drop_behind [] x rest = refl
drop_behind (y ∷ ys) x rest = let same : suc (length ys) + 1 ≡ suc (length ys + 1) = omega arith in ap (λ n. drop n (y ∷ (ys ++ x ∷ rest))) same ∙ drop_behind ys x rest

pub at_seam : (front : List ℕ) (x : ℕ) (rest : List ℕ) → slice_index (front ++ x ∷ rest) (length front) ≡ x
at_seam [] x rest = refl
at_seam (y ∷ ys) x rest = at_seam ys x rest

pub regroup : (a b c : List ℕ) → (a ++ b) ++ c ≡ a ++ (b ++ c)
regroup [] b c = refl
regroup (x ∷ a) b c = ap (λ r. x ∷ r) (regroup a b c)

-- fronts of one length of the same bytes are the same
pub same_front : (a b r t : List ℕ) → length a ≡ length b → a ++ r ≡ b ++ t → (a ≡ b) × (r ≡ t)
same_front [] [] r t n e = (refl, e)
same_front [] (y ∷ b) r t n e = absurd (omega arith)
same_front (x ∷ a) [] r t n e = absurd (omega arith)
same_front (x ∷ a) (y ∷ b) r t n e =
    let h : x ≡ y = cc in
    let k : a ++ r ≡ b ++ t = cc in
    let s = same_front a b r t (omega arith) k in
    (ap (λ l. x ∷ l) s.0 ∙ ap (λ z. z ∷ b) h, s.1)

pub same_head : (x y : ℕ) (xs ys : List ℕ) → x ∷ xs ≡ y ∷ ys → x ≡ y
same_head x y xs ys e = cc

pub same_tail : (x y : ℕ) (xs ys : List ℕ) → x ∷ xs ≡ y ∷ ys → xs ≡ ys
same_tail x y xs ys e = cc

-- ---- choices

pub when_true : {A : Type 0} (P : A → Type 0) (b : Bool) (x y : A) → b ≡ true → P x → P (cond b x y)
when_true P true x y e h = h
when_true P false x y e h = absurd (cc)

pub when_false : {A : Type 0} (P : A → Type 0) (b : Bool) (x y : A) → b ≡ false → P y → P (cond b x y)
when_false P true x y e h = absurd (cc)
when_false P false x y e h = h

-- ---- kinds of bytes

pub true_false : (b : Bool) → b ≡ true → b ≡ false → ⊥
true_false b e f = let wrong : true ≡ false = sym e ∙ f in absurd (cc)

pub begins_cons : (p : ℕ → Bool) (x : ℕ) (xs : List ℕ) → begins p (x ∷ xs) ≡ p x
begins_cons p x xs = ap (λ t. t && p x) (lt-ltb 0 (suc (length xs)) (omega arith))

pub all_joined : (p : ℕ → Bool) (xs ys : List ℕ) → list_all p xs ≡ true → list_all p ys ≡ true → list_all p (xs ++ ys) ≡ true
all_joined p [] ys e f = f
all_joined p (x ∷ xs) ys e f = let both = and_parts (p x) (list_all p xs) e in and_from (p x) (list_all p (xs ++ ys)) both.0 (all_joined p xs ys both.1 f)

pub all_front : (p : ℕ → Bool) (xs ys : List ℕ) → list_all p (xs ++ ys) ≡ true → list_all p xs ≡ true
all_front p [] ys e = refl
all_front p (x ∷ xs) ys e = let both = and_parts (p x) (list_all p (xs ++ ys)) e in and_from (p x) (list_all p xs) both.0 (all_front p xs ys both.1)

pub all_behind : (p : ℕ → Bool) (xs ys : List ℕ) → list_all p (xs ++ ys) ≡ true → list_all p ys ≡ true
all_behind p [] ys e = e
all_behind p (x ∷ xs) ys e = let both = and_parts (p x) (list_all p (xs ++ ys)) e in all_behind p xs ys both.1

pub all_as : (p q : ℕ → Bool) → ((x : ℕ) → p x ≡ true → q x ≡ true) → (xs : List ℕ) → list_all p xs ≡ true → list_all q xs ≡ true
all_as p q h [] e = refl
all_as p q h (x ∷ xs) e = let both = and_parts (p x) (list_all p xs) e in and_from (q x) (list_all q xs) (h x both.0) (all_as p q h xs both.1)

-- all but the line's end
abbrev pub is_line : ℕ → Bool
is_line b = not (b == 10)

-- the first byte, if there is one, is of another kind
abbrev pub Apart : (ℕ → Bool) → List ℕ → Type 0
Apart p [] = Unit {0}
Apart p (x ∷ xs) = p x ≡ false

-- ---- runs

pub run_cons : (b : Bool) (n : ℕ) → b ≡ true → cond b (1 + n) 0 ≡ suc n
run_cons true n e = omega arith
run_cons false n e = absurd (cc)

pub run_cut : (p : ℕ → Bool) (front rest : List ℕ) → list_all p front ≡ true → Apart p rest → prefix_len p (front ++ rest) ≡ length front
run_cut p [] [] all apart = refl
run_cut p [] (x ∷ xs) all apart = cond-false (p x) (1 + prefix_len p xs) 0 apart
run_cut p (x ∷ xs) rest all apart =
    let both = and_parts (p x) (list_all p xs) all in
    run_cons (p x) (prefix_len p (xs ++ rest)) both.0 ∙ ap suc (run_cut p xs rest both.1 apart)

pub run_least : (p : ℕ → Bool) (front rest : List ℕ) → list_all p front ≡ true → length front ≤ prefix_len p (front ++ rest)
run_least p [] rest all = omega arith
run_least p (x ∷ xs) rest all =
    let both = and_parts (p x) (list_all p xs) all in
    let more = run_least p xs rest both.1 in
    subst (λ n. suc (length xs) ≤ n) (sym (run_cons (p x) (prefix_len p (xs ++ rest)) both.0)) (omega (arith, more))

pub record Parted (p : ℕ → Bool) (xs : List ℕ) : Type 0 where
  pub front : List ℕ
  pub rest : List ℕ
  pub joined : xs ≡ front ++ rest
  pub all : list_all p front ≡ true
  pub apart : Apart p rest
  pub many : prefix_len p xs ≡ length front

parted_more : (p : ℕ → Bool) (x : ℕ) (xs : List ℕ) → Parted p xs → (p x ≡ true) ⊎ (p x ≡ false) → Parted p (x ∷ xs)
parted_more p x xs part (inl e) = record {
  front = x ∷ part.front;
  rest = part.rest;
  joined = ap (λ r. x ∷ r) part.joined;
  all = and_from (p x) (list_all p part.front) e part.all;
  apart = part.apart;
  many = run_cons (p x) (prefix_len p xs) e ∙ ap suc part.many;
}
parted_more p x xs part (inr e) = record { front = []; rest = x ∷ xs; joined = refl; all = refl; apart = e; many = cond-false (p x) (1 + prefix_len p xs) 0 e }

pub parted : (p : ℕ → Bool) (xs : List ℕ) → Parted p xs
parted p [] = record { front = []; rest = []; joined = refl; all = refl; apart = tt; many = refl }
parted p (x ∷ xs) = parted_more p x xs (parted p xs) (cases_Bool (p x))

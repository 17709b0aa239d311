-- Lists of spots that grow, each spot once.
use Rattle.std.proofs.Common.{◌≡◌, ◌⊎◌, inl, inr, ℕ, zero, suc, ◌+◌, ◌<◌, List, [], ◌∷◌, ◌++◌, take, add-one, refl, ap, sym, ◌∙◌, arith, subst, Bool, true, false, cond, slice_get, Option, Some, None, nat_eq}
use Rattle.std.specs.Prelude.{◌||◌, ◌&&◌}
use Rattle.std.proofs.lemmas.Bool.{eqb-true, eq-eqb}
use Rattle.idl_names.specs.declared.documents.Spot.{Spot}
use Rattle.idl_names.specs.Meaning.{spot_at}
use Rattle.idl_names.specs.Sets.{same_spot, is_among, with_spot, with_all, Has}

same_by : (s x : Spot) (a b : Bool) → nat_eq s.file x.file ≡ a → nat_eq s.definition x.definition ≡ b → (a && b) ≡ true → s ≡ x
same_by s x true true e f h =
    let file : s.file ≡ x.file = eqb-true s.file x.file e in
    let definition : s.definition ≡ x.definition = eqb-true s.definition x.definition f in
    let whole : spot_at s.file s.definition ≡ spot_at x.file x.definition = cc in
    whole
same_by s x true false e f h = absurd (let no : ⊥ = cc in no)
same_by s x false b e f h = absurd (let no : ⊥ = cc in no)

same_itself : (s : Spot) → same_spot s s ≡ true
same_itself s = by (nat_eq s.file s.file) (nat_eq s.definition s.definition) (eq-eqb s.file s.file refl) (eq-eqb s.definition s.definition refl)
  where
    by : (a b : Bool) → a ≡ true → b ≡ true → (a && b) ≡ true
    by true b e f = f
    by false b e f = e

among_by : (s x : Spot) (xs : List Spot) (t : Bool) → same_spot s x ≡ t → (is_among s xs ≡ true → Has xs s) → (t || is_among s xs) ≡ true → Has (x ∷ xs) s
among_by s x xs true f deeper g = inl (same_by s x (nat_eq s.file x.file) (nat_eq s.definition x.definition) refl refl f)
among_by s x xs false f deeper g = inr (deeper g)

pub among_has : (s : Spot) (xs : List Spot) → is_among s xs ≡ true → Has xs s
among_has s [] e = let no : ⊥ = cc in no
among_has s (x ∷ xs) e = among_by s x xs (same_spot s x) refl (among_has s xs) e

first_has : (t u : Bool) → t ≡ true → (t || u) ≡ true
first_has true u f = refl
first_has false u f = let no : ⊥ = cc in absurd no

later_has : (t u : Bool) → u ≡ true → (t || u) ≡ true
later_has true u f = refl
later_has false u f = f

pub has_among : (s : Spot) (xs : List Spot) → Has xs s → is_among s xs ≡ true
has_among s [] h = absurd h
has_among s (x ∷ xs) (inl e) = first_has (same_spot s x) (is_among s xs) (ap (same_spot s) (sym e) ∙ same_itself s)
has_among s (x ∷ xs) (inr h) = later_has (same_spot s x) (is_among s xs) (has_among s xs h)

pub has_left : (xs ys : List Spot) (t : Spot) → Has xs t → Has (xs ++ ys) t
has_left [] ys t h = absurd h
has_left (x ∷ xs) ys t (inl e) = inl e
has_left (x ∷ xs) ys t (inr h) = inr (has_left xs ys t h)

has_last : (xs : List Spot) (t : Spot) → Has (xs ++ t ∷ []) t
has_last [] t = inl refl
has_last (x ∷ xs) t = inr (has_last xs t)

has_split : (xs : List Spot) (s t : Spot) → Has (xs ++ s ∷ []) t → Has xs t ⊎ (t ≡ s)
has_split [] s t (inl e) = inr e
has_split [] s t (inr h) = absurd h
has_split (x ∷ xs) s t (inl e) = inl (inl e)
has_split (x ∷ xs) s t (inr h) = deeper (has_split xs s t h)
  where
    deeper : Has xs t ⊎ (t ≡ s) → Has (x ∷ xs) t ⊎ (t ≡ s)
    deeper (inl g) = inl (inr g)
    deeper (inr e) = inr e

kept_one : (xs : List Spot) (s t : Spot) → Has xs t → Has (with_spot xs s) t
unfolding with_spot
kept_one xs s t h = by (is_among s xs)
  where
    by : (b : Bool) → Has (cond b xs (xs ++ s ∷ [])) t
    by true = h
    by false = has_left xs (s ∷ []) t h

new_one : (xs : List Spot) (s : Spot) → Has (with_spot xs s) s
unfolding with_spot
new_one xs s = by (is_among s xs) refl
  where
    by : (b : Bool) → is_among s xs ≡ b → Has (cond b xs (xs ++ s ∷ [])) s
    by true e = among_has s xs e
    by false e = has_last xs s

from_one : (xs : List Spot) (s t : Spot) → Has (with_spot xs s) t → Has xs t ⊎ (t ≡ s)
unfolding with_spot
from_one xs s t h = by (is_among s xs) h
  where
    by : (b : Bool) → Has (cond b xs (xs ++ s ∷ [])) t → Has xs t ⊎ (t ≡ s)
    by true g = inl g
    by false g = has_split xs s t g

pub kept : (xs ss : List Spot) (t : Spot) → Has xs t → Has (with_all xs ss) t
kept xs [] t h = h
kept xs (s ∷ ss) t h = kept (with_spot xs s) ss t (kept_one xs s t h)

pub added : (xs ss : List Spot) (t : Spot) → Has ss t → Has (with_all xs ss) t
added xs [] t h = absurd h
added xs (s ∷ ss) t (inl e) = kept (with_spot xs s) ss t (subst (Has (with_spot xs s)) (sym e) (new_one xs s))
added xs (s ∷ ss) t (inr h) = added (with_spot xs s) ss t h

pub from_all : (xs ss : List Spot) (t : Spot) → Has (with_all xs ss) t → Has xs t ⊎ Has ss t
from_all xs [] t h = inl h
from_all xs (s ∷ ss) t h = by (from_all (with_spot xs s) ss t h)
  where
    one : Has xs t ⊎ (t ≡ s) → Has xs t ⊎ Has (s ∷ ss) t
    one (inl g) = inl g
    one (inr e) = inr (inl e)

    by : Has (with_spot xs s) t ⊎ Has ss t → Has xs t ⊎ Has (s ∷ ss) t
    by (inl g) = one (from_one xs s t g)
    by (inr g) = inr (inr g)

pub with_append : (xs ss ts : List Spot) → with_all xs (ss ++ ts) ≡ with_all (with_all xs ss) ts
with_append xs [] ts = refl
with_append xs (s ∷ ss) ts = with_append (with_spot xs s) ss ts

get_left : (xs ys : List Spot) (k : ℕ) (s : Spot) → slice_get xs k ≡ Some s → slice_get (xs ++ ys) k ≡ Some s
get_left [] ys k s e = absurd (let no : ⊥ = cc in no)
get_left (x ∷ xs) ys zero s e = e
get_left (x ∷ xs) ys (suc k) s e = get_left xs ys k s e

get_one : (xs : List Spot) (n : Spot) (k : ℕ) (s : Spot) → slice_get xs k ≡ Some s → slice_get (with_spot xs n) k ≡ Some s
unfolding with_spot
get_one xs n k s e = by (is_among n xs)
  where
    by : (b : Bool) → slice_get (cond b xs (xs ++ n ∷ [])) k ≡ Some s
    by true = e
    by false = get_left xs (n ∷ []) k s e

pub get_kept : (xs ss : List Spot) (k : ℕ) (s : Spot) → slice_get xs k ≡ Some s → slice_get (with_all xs ss) k ≡ Some s
get_kept xs [] k s e = e
get_kept xs (n ∷ ss) k s e = get_kept (with_spot xs n) ss k s (get_one xs n k s e)

-- a place that has a spot stands before one that has none
pub below_end : (xs : List Spot) (k i : ℕ) (s : Spot) → slice_get xs k ≡ Some s → slice_get xs i ≡ None → k < i
below_end [] k i s e f = absurd (let no : ⊥ = cc in no)
below_end (x ∷ xs) k zero s e f = absurd (let no : ⊥ = cc in no)
below_end (x ∷ xs) zero (suc i) s e f = omega arith
below_end (x ∷ xs) (suc k) (suc i) s e f = let less = below_end xs k i s e f in omega arith

-- where a spot stands
pub place_of_spot : (xs : List Spot) (t : Spot) → Has xs t → (k : ℕ) × (slice_get xs k ≡ Some t)
place_of_spot [] t h = absurd h
place_of_spot (x ∷ xs) t (inl e) = (0, ap (λ (s : Spot). let o : Option Spot = Some s in o) (sym e))
place_of_spot (x ∷ xs) t (inr h) = let p = place_of_spot xs t h in (suc p.0, p.1)

pub get_has : (xs : List Spot) (k : ℕ) (s : Spot) → slice_get xs k ≡ Some s → Has xs s
get_has [] k s e = let no : ⊥ = cc in absurd no
get_has (x ∷ xs) zero s e = inl (let same : s ≡ x = cc in same)
get_has (x ∷ xs) (suc k) s e = inr (get_has xs k s e)

-- a place before one that has a spot keeps its spot
pub get_back : (xs ss : List Spot) (k i : ℕ) (t : Spot) → slice_get xs i ≡ Some t → k < i → slice_get (with_all xs ss) k ≡ slice_get xs k
get_back xs ss k i t e h = by (slice_get xs k) refl
  where
    by : (o : Option Spot) → slice_get xs k ≡ o → slice_get (with_all xs ss) k ≡ o
    by None f = let less = below_end xs i k t e f in absurd (omega arith)
    by (Some s) f = get_kept xs ss k s f

-- one more of those that are put in
with_next : (old xs : List Spot) (i : ℕ) (spot : Spot) → slice_get xs i ≡ Some spot → with_all old (take (suc i) xs) ≡ with_spot (with_all old (take i xs)) spot
with_next old [] i spot e = absurd (let no : ⊥ = cc in no)
with_next old (x ∷ xs) zero spot e = ap (with_spot old) (let same : x ≡ spot = cc in same)
with_next old (x ∷ xs) (suc i) spot e = with_next (with_spot old x) xs i spot e

pub with_more : (old xs : List Spot) (i : ℕ) (spot : Spot) → slice_get xs i ≡ Some spot → with_all old (take (i + 1) xs) ≡ with_spot (with_all old (take i xs)) spot
with_more old xs i spot e = ap (λ (n : ℕ). with_all old (take n xs)) (add-one i) ∙ with_next old xs i spot e

all_taken : (xs : List Spot) (i : ℕ) → slice_get xs i ≡ None → take i xs ≡ xs
all_taken [] zero e = refl
all_taken [] (suc i) e = refl
all_taken (x ∷ xs) zero e = absurd (let no : ⊥ = cc in no)
all_taken (x ∷ xs) (suc i) e = ap (λ (ys : List Spot). x ∷ ys) (all_taken xs i e)

pub with_end : (old xs : List Spot) (i : ℕ) → slice_get xs i ≡ None → with_all old (take i xs) ≡ with_all old xs
with_end old xs i e = ap (with_all old) (all_taken xs i e)

-- The first of several things with a name.
use Rattle.std.proofs.Common.{◌≡◌, ℕ, suc, ◌+◌, ◌<◌, ◌≤◌, rules, List, [], ◌∷◌, ◌++◌, length, take, get_or, refl, ap, sym, ◌∙◌, arith, Bool, true, false, cond, not, position, Option, Some, None, option_map, nat_eq, nat_lt}
use Rattle.std.specs.Cmp.Lexicographic.{pointwise, same_text}
use Rattle.std.specs.List.{position_or_len}
use Rattle.std.specs.Option.{option_or}
use Rattle.std.proofs.lemmas.Bool.Decides.{nat_tests}
use Rattle.std.proofs.lemmas.List.{take_more, take_all}
use Rattle.idl_names.specs.Meaning.{is_named}
use Rattle.idl_names.specs.Places.{place_of, noted, noted_by, TellsFirst}

below_suc : (n m : ℕ) (t : Bool) → nat_lt n m ≡ t → nat_lt (1 + n) (suc m) ≡ t
below_suc n m true e = grind (arith, nat_tests)
below_suc n m false e = grind (arith, nat_tests)

zero_below : (m : ℕ) → nat_lt 0 (suc m) ≡ true
zero_below m = grind (arith, nat_tests)

behind : (t : Bool) (n m : ℕ) → cond (nat_lt (cond (not t) (1 + n) 0) (suc m)) (Some (cond (not t) (1 + n) 0)) None ≡ cond t (Some 0) (option_map suc (cond (nat_lt n m) (Some n) None))
behind true n m = rw (zero_below m) refl
behind false n m = by (nat_lt n m) refl
  where
    by : (u : Bool) → nat_lt n m ≡ u → cond (nat_lt (1 + n) (suc m)) (Some (1 + n)) None ≡ option_map suc (cond u (Some n) None)
    by true e = rw (below_suc n m true e) (ap (λ (k : ℕ). let o : Option ℕ = Some k in o) (omega arith))
    by false e = rw (below_suc n m false e) refl

module _ {X : Type 0} (p : X → Bool) where
  pub position-cons : (x : X) (xs : List X) → position p (x ∷ xs) ≡ cond (p x) (Some 0) (option_map suc (position p xs))
  position-cons x xs = behind (p x) (position_or_len p xs) (length xs)

  moved : (t u : Bool) (o : Option ℕ) (n : ℕ) → cond t (Some 0) (option_map suc (option_or o (cond u (Some n) None))) ≡ option_or (cond t (Some 0) (option_map suc o)) (cond u (Some (suc n)) None)
  moved true u o n = refl
  moved false u (Some k) n = refl
  moved false true None n = refl
  moved false false None n = refl

  pub position_push : (xs : List X) (x : X) → position p (xs ++ x ∷ []) ≡ option_or (position p xs) (cond (p x) (Some (length xs)) None)
  position_push [] x = position-cons x [] ∙ first (p x)
    where
      first : (t : Bool) → cond {A = Option ℕ} t (Some 0) None ≡ option_or None (cond {A = Option ℕ} t (Some 0) None)
      first t = refl
  position_push (y ∷ ys) x =
      position-cons y (ys ++ x ∷ []) ∙ ap (λ (o : Option ℕ). cond (p y) (Some 0) (option_map suc o)) (position_push ys x)
      ∙ moved (p y) (p x) (position p ys) (length ys)
      ∙ ap (λ (o : Option ℕ). option_or o (cond (p x) (Some (suc (length ys))) None)) (sym (position-cons y ys))

-- one entry more at the end
place_push : (word name : List ℕ) (place : ℕ) (es : List (List ℕ × ℕ)) → place_of word (es ++ (name, place) ∷ []) ≡ option_or (place_of word es) (cond (pointwise nat_eq word name) (Some place) None)
place_push word name place [] = refl
place_push word name place (e ∷ es) = ap (λ (o : Option ℕ). cond (pointwise nat_eq word e.0) (Some e.1) o) (place_push word name place es) ∙ by (pointwise nat_eq word e.0)
  where
    by : (t : Bool) → cond t (Some e.1) (option_or (place_of word es) (cond (pointwise nat_eq word name) (Some place) None)) ≡ option_or (cond t (Some e.1) (place_of word es)) (cond (pointwise nat_eq word name) (Some place) None)
    by true = refl
    by false = refl

-- a name that is there already adds nothing
there : (word name : List ℕ) (place earlier : ℕ) (es : List (List ℕ × ℕ)) (t : Bool) → pointwise nat_eq word name ≡ t → place_of name es ≡ Some earlier →
    place_of word es ≡ option_or (place_of word es) (cond t (Some place) None)
there word name place earlier es true e f =
    let same : place_of word es ≡ Some earlier = ap (λ (w : List ℕ). place_of w es) (same_text word name (sym e)) ∙ f in
    rw same refl
there word name place earlier es false e f = by (place_of word es)
  where
    by : (o : Option ℕ) → o ≡ option_or o None
    by None = refl
    by (Some k) = refl

pub place_noted : (word : List ℕ) (es : List (List ℕ × ℕ)) (name : Option (List ℕ)) (place : ℕ) → place_of word (noted es name place) ≡ option_or (place_of word es) (cond (is_named word name) (Some place) None)
place_noted word es None place = by (place_of word es)
  where
    by : (o : Option ℕ) → o ≡ option_or o None
    by None = refl
    by (Some k) = refl
place_noted word es (Some name) place = by (place_of name es) refl
  where
    by : (o : Option ℕ) → place_of name es ≡ o → place_of word (noted_by o es name place) ≡ option_or (place_of word es) (cond (pointwise nat_eq word name) (Some place) None)
    by None e = place_push word name place es
    by (Some earlier) e = there word name place earlier es (pointwise nat_eq word name) refl e

-- a loop that notes the names of things in order
module _ {X : Type 0} (name : X → Option (List ℕ)) (xs : List X) where
  pub tells_none : (es : List (List ℕ × ℕ)) → es ≡ [] → TellsFirst name (take 0 xs) es
  tells_none es e word = ap (place_of word) e

  pub tells_more : (old new : List (List ℕ × ℕ)) (x : X) (key : Option (List ℕ)) (i : ℕ) → i < length xs → x ≡ get_or xs i x → key ≡ name x → TellsFirst name (take i xs) old →
      new ≡ noted old key i → TellsFirst name (take (i + 1) xs) new
  tells_more old new x key i h r k t e word =
      let p : X → Bool = λ y. is_named word (name y) in
      let count : length (take i xs) ≡ i = search rules in
      let grown : take (i + 1) xs ≡ take i xs ++ x ∷ [] = take_more xs i x h ∙ ap (λ (y : X). take i xs ++ y ∷ []) (sym r) in
      ap (place_of word) e ∙ place_noted word old key i
      ∙ ap (λ (o : Option ℕ). option_or o (cond (is_named word key) (Some i) None)) (t word)
      ∙ ap (λ (o : Option (List ℕ)). option_or (position p (take i xs)) (cond (is_named word o) (Some i) None)) k
      ∙ ap (λ (n : ℕ). option_or (position p (take i xs)) (cond (is_named word (name x)) (Some n) None)) (sym count)
      ∙ sym (position_push p (take i xs) x)
      ∙ ap (position p) (sym grown)

  pub tells_all : (es : List (List ℕ × ℕ)) (i : ℕ) → length xs ≤ i → TellsFirst name (take i xs) es → TellsFirst name xs es
  tells_all es i h t word = t word ∙ ap (position (λ y. is_named word (name y))) (take_all i xs h)

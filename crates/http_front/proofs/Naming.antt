-- Fields by their names, and the options of lists.
use Rattle.std.proofs.Common.{◌≡◌, ℕ, ◌+◌, ◌≤◌, ◌<◌, List, [], ◌∷◌, length, take, drop, Bool, true, false, ◌||◌, ◌&&◌, cond, if◌then◌else◌, Some, None, ap, sym, ◌∙◌, subst, refl, arith, nat_lt, not, nat_le, ◌*◌, ltb-true, ltb-false, leb-true}
use Rattle.std.specs.List.{list_any, position, position_or_len, slice_split, onto_first}
use Rattle.std.proofs.lemmas.List.Splits.{slice_split_first, slice_split-cons_no}
use Rattle.std.proofs.lemmas.Option.{cond_some}
use Rattle.std.specs.Str.Parse.{digits_value_after}
use Rattle.std.specs.Char.{digit_value}
use Rattle.http_front.specs.Heads.{same_word, values}
use Rattle.http_front.specs.Reading.{AreValues}
use Rattle.http_front.specs.declared.fields.Values.{Values}
use Rattle.http_front.specs.declared.fields.Values.TheVariants as some

pub values_named : (name : List ℕ) (p : List ℕ × List ℕ) (ps : List (List ℕ × List ℕ)) → same_word p.0 name ≡ true → values name (p ∷ ps) ≡ p.1 ∷ values name ps
values_named name p ps is = ap (λ (t : Bool). if t then p.1 ∷ values name ps else values name ps) is

pub values_other : (name : List ℕ) (p : List ℕ × List ℕ) (ps : List (List ℕ × List ℕ)) → same_word p.0 name ≡ false → values name (p ∷ ps) ≡ values name ps
values_other name p ps is = ap (λ (t : Bool). if t then p.1 ∷ values name ps else values name ps) is

-- what was found, before what is to be found
abbrev pub AndFound : Values → List (List ℕ) → List (List ℕ) → Type 0
AndFound some.Absent rest all = rest ≡ all
AndFound (some.One value) rest all = value.now ∷ rest ≡ all
AndFound some.Several rest all = ⊥

pub found_all : (found : Values) (all : List (List ℕ)) → AndFound found [] all → AreValues all found
found_all some.Absent all is = sym is
found_all (some.One value) all is = sym is
found_all some.Several all is = absurd is

pub found_as : (found : Values) (rest rest' all : List (List ℕ)) → rest ≡ rest' → AndFound found rest all → AndFound found rest' all
found_as found rest rest' all is = subst (λ (r : List (List ℕ)). AndFound found r all) is

-- ---- the parts of a list

position_most : (p : ℕ → Bool) (xs : List ℕ) → position_or_len p xs ≤ length xs
position_most p [] = omega arith
position_most p (x ∷ xs) = by (p x) (position_most p xs)
  where
    by : (t : Bool) → position_or_len p xs ≤ length xs → cond (not t) (1 + position_or_len p xs) 0 ≤ length (x ∷ xs)
    by true le = omega arith
    by false le = omega (arith, le)

split_none : (p : ℕ → Bool) (xs : List ℕ) → position_or_len p xs ≡ length xs → slice_split p xs ≡ xs ∷ []
split_none p [] is = refl
split_none p (x ∷ xs) is = by (p x) refl (split_none p xs)
  where
    by : (t : Bool) → p x ≡ t → (position_or_len p xs ≡ length xs → slice_split p xs ≡ xs ∷ []) → slice_split p (x ∷ xs) ≡ (x ∷ xs) ∷ []
    by true e rest =
        let none : 0 ≡ length (x ∷ xs) = ap (λ (t : Bool). cond (not t) (1 + position_or_len p xs) 0) (sym e) ∙ is in
        absurd (omega (arith, none))
    by false e rest =
        let more : 1 + position_or_len p xs ≡ length (x ∷ xs) = ap (λ (t : Bool). cond (not t) (1 + position_or_len p xs) 0) (sym e) ∙ is in
        slice_split-cons_no p x xs e ∙ ap (onto_first x) (rest (omega (arith, more)))

-- the first part and those behind it
pub part_at : (P : List ℕ → Bool) (p : ℕ → Bool) (xs : List ℕ) (at : ℕ) → Some at ≡ position p xs → list_any P (slice_split p xs) ≡ (P (take at xs) || list_any P (slice_split p (drop (at + 1) xs)))
part_at P p xs at is =
    let x = cond_some (nat_lt (position_or_len p xs) (length xs)) (position_or_len p xs) at (sym is) in
    ap (list_any P) (slice_split_first p xs 0 (ltb-true (position_or_len p xs) (length xs) x.0))
    ∙ ap (λ (n : ℕ). P (take n xs) || list_any P (slice_split p (drop (n + 1) xs))) x.1

-- or the only one
pub part_alone : (P : List ℕ → Bool) (p : ℕ → Bool) (xs : List ℕ) → None ≡ position p xs → list_any P (slice_split p xs) ≡ P xs
part_alone P p xs is =
    let over = no_cond (nat_lt (position_or_len p xs) (length xs)) (position_or_len p xs) is in
    ap (list_any P) (split_none p xs (both (ltb-false (position_or_len p xs) (length xs) over) (position_most p xs))) ∙ or_false (P xs)
  where
    no_cond : (t : Bool) (n : ℕ) → None ≡ cond t (Some n) None → t ≡ false
    no_cond true n e = grind arith
    no_cond false n e = refl

    both : {m n : ℕ} → n ≤ m → m ≤ n → m ≡ n
    both a b = omega (arith, a, b)

    or_false : (t : Bool) → (t || false) ≡ t
    or_false true = refl
    or_false false = refl

-- ---- digits

value_least : (n : ℕ) (ds : List ℕ) → n ≤ digits_value_after 10 n ds
value_least n [] = omega arith
value_least n (d ∷ ds) = omega (arith, value_least (n * 10 + digit_value d) ds)

-- past the limit no further digit leads back below it
pub past_limit : (t : Bool) (limit n value : ℕ) (ds : List ℕ) → digits_value_after 10 n ds ≡ value → limit < n → None ≡ (if t && nat_le value limit then Some value else None)
past_limit t limit n value ds is over = by t (nat_le value limit) refl
  where
    by : (t u : Bool) → nat_le value limit ≡ u → None ≡ (if t && u then Some value else None)
    by true true e = absurd (omega (arith, leb-true value limit e, over, is, value_least n ds))
    by true false e = refl
    by false u e = refl

-- a part that has it, and one that hasn't
pub part_has : (P : List ℕ → Bool) (p : ℕ → Bool) (xs : List ℕ) (at : ℕ) (all : Bool) → Some at ≡ position p xs → true ≡ P (take at xs) → list_any P (slice_split p xs) ≡ all → true ≡ all
part_has P p xs at all is has left = ap (λ (t : Bool). t || list_any P (slice_split p (drop (at + 1) xs))) has ∙ (sym (part_at P p xs at is) ∙ left)

pub part_lacks : (P : List ℕ → Bool) (p : ℕ → Bool) (xs rest : List ℕ) (at : ℕ) (all : Bool) → Some at ≡ position p xs → false ≡ P (take at xs) → rest ≡ drop (at + 1) xs → list_any P (slice_split p xs) ≡ all → list_any P (slice_split p rest) ≡ all
part_lacks P p xs rest at all is lacks behind left =
    ap (λ (ys : List ℕ). list_any P (slice_split p ys)) behind
    ∙ (ap (λ (t : Bool). t || list_any P (slice_split p (drop (at + 1) xs))) lacks ∙ (sym (part_at P p xs at is) ∙ left))

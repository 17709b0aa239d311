-- The ids that stood in a struct.
use Rattle.std.proofs.Common.{◌≡◌, ℕ, ℤ, suc, ◌≤◌, List, [], ◌∷◌, ◌++◌, Bool, true, false, ◌||◌, Option, Some, None, length, refl, sym, ap, ◌∙◌, arith}
use Rattle.std.specs.Prelude.{Contains, int_lt, is_some, if◌then◌else◌}
use Rattle.std.specs.List.{list_any, IsDistinct, AllByRecursion}
use Rattle.std.specs.Ordering.{int_eq}
use Rattle.std.proofs.lemmas.Cmp.{int_eq_equiv}
use Rattle.std.proofs.lemmas.Bool.Decides.{Decides-int_eq}
use Rattle.std.proofs.lemmas.List.Folds.{list_any-append}
use Rattle.std.proofs.lemmas.Map.Views.{Contains-from_any, list_any-from_Contains}
use Rattle.std.proofs.lemmas.Map.Made.{length-le_from_is_member}
use Rattle.type_tables.specs.declared.declared.FieldInfo.{FieldInfo}
use Rattle.type_tables.specs.Fields.{field_in, later, place_of, same_id}
use Rattle.type_tables.proofs.Places.{same_is}
use Rattle.type_tables.proofs.Ranks.{lt_chain, lt_irrefl}
use Rattle.conform_check.specs.Breaches.{stood}
use Rattle.conform_check.specs.Fitting.{AreFields, AreUpTo}

int_same : (x y : ℤ) → int_eq x y ≡ true → x ≡ y
int_same x y e = (Decides-int_eq x y).0 e

same_int : (x : ℤ) → int_eq x x ≡ true
same_int x = int_eq_equiv.refl x

-- ---- the greatest id

below_apart : (greatest id other : ℤ) → int_lt greatest other ≡ false → int_lt greatest id ≡ true → int_eq other id ≡ false
below_apart greatest id other under over = by (int_eq other id) refl
  where
    by : (b : Bool) → int_eq other id ≡ b → int_eq other id ≡ false
    by true e = absurd (cc (int_same other id e, under, over))
    by false e = e

pub over_greatest : (greatest id : ℤ) (ids : List ℤ) → AreUpTo greatest ids → int_lt greatest id ≡ true → stood id ids ≡ false
over_greatest greatest id [] up over = refl
over_greatest greatest id (x ∷ xs) up over = rw (below_apart greatest id x up.0 over) (over_greatest greatest id xs up.1 over)

one_more : (greatest id : ℤ) (ids : List ℤ) → AreUpTo greatest ids → int_lt greatest id ≡ false → AreUpTo greatest (ids ++ id ∷ [])
one_more greatest id [] up under = (under, tt)
one_more greatest id (x ∷ xs) up under = (up.0, one_more greatest id xs up.1 under)

above_both : (greatest id other : ℤ) → int_lt greatest other ≡ false → int_lt greatest id ≡ true → int_lt id other ≡ false
above_both greatest id other under over = by (int_lt id other) refl
  where
    by : (b : Bool) → int_lt id other ≡ b → int_lt id other ≡ false
    by true e = absurd (cc (lt_chain greatest id other over e, under))
    by false e = e

raised : (greatest id : ℤ) (ids : List ℤ) → AreUpTo greatest ids → int_lt greatest id ≡ true → AreUpTo id ids
raised greatest id [] up over = tt
raised greatest id (x ∷ xs) up over = (above_both greatest id x up.0 over, raised greatest id xs up.1 over)

-- the greatest of the ids with one more
pub greatest_more : (greatest id : ℤ) (ids : List ℤ) → AreUpTo greatest ids → AreUpTo (if int_lt greatest id then id else greatest) (ids ++ id ∷ [])
greatest_more greatest id ids up = by (int_lt greatest id) refl
  where
    by : (b : Bool) → int_lt greatest id ≡ b → AreUpTo (if int_lt greatest id then id else greatest) (ids ++ id ∷ [])
    by true e = rw e (one_more id id ids (raised greatest id ids up e) (lt_irrefl id))
    by false e = rw e (one_more greatest id ids up e)

-- ---- each id once

any_apart : (id : ℤ) (ids : List ℤ) → stood id ids ≡ false → AllByRecursion (λ y. int_eq id y ≡ false) ids
any_apart id [] none = tt
any_apart id (x ∷ xs) none = by (int_eq x id) refl (any_apart id xs)
  where
    by : (b : Bool) → int_eq x id ≡ b → (stood id xs ≡ false → AllByRecursion (λ y. int_eq id y ≡ false) xs) → AllByRecursion (λ y. int_eq id y ≡ false) (x ∷ xs)
    by true e rest = absurd (cc (rw e at none))
    by false e rest = (int_eq_equiv.symm id x ∙ e, rest (rw e at none))

all_and : (x id : ℤ) (xs : List ℤ) → AllByRecursion (λ y. int_eq x y ≡ false) xs → int_eq x id ≡ false → AllByRecursion (λ y. int_eq x y ≡ false) (xs ++ id ∷ [])
all_and x id [] all one = (one, tt)
all_and x id (y ∷ ys) all one = (all.0, all_and x id ys all.1 one)

pub distinct_more : (id : ℤ) (ids : List ℤ) → IsDistinct int_eq ids → stood id ids ≡ false → IsDistinct int_eq (ids ++ id ∷ [])
unfolding IsDistinct
distinct_more id [] once new = (tt, tt)
distinct_more id (x ∷ xs) once new = by (int_eq x id) refl (distinct_more id xs once.1)
  where
    by : (b : Bool) → int_eq x id ≡ b → (stood id xs ≡ false → IsDistinct int_eq (xs ++ id ∷ [])) → AllByRecursion (λ y. int_eq x y ≡ false) (xs ++ id ∷ []) × IsDistinct int_eq (xs ++ id ∷ [])
    by true e rest = absurd (cc (rw e at new))
    by false e rest = (all_and x id xs once.0 e, rest (rw e at new))

-- ---- no more ids than fields

abbrev ids_of : List FieldInfo → List ℤ
ids_of [] = []
ids_of (f ∷ fs) = f.id ∷ ids_of fs

ids_length : (fs : List FieldInfo) → length (ids_of fs) ≡ length fs
ids_length [] = refl
ids_length (f ∷ fs) = ap suc (ids_length fs)

or_second : (a b : Bool) → b ≡ true → (a || b) ≡ true
or_second true b e = refl
or_second false b e = e

-- an id that has a place is one of the fields'
member_of : (id : ℤ) (fs : List FieldInfo) → is_some (place_of id fs) ≡ true → list_any (int_eq id) (ids_of fs) ≡ true
member_of id [] has = absurd (cc)
member_of id (f ∷ fs) has = by (same_id f.id id) refl (member_of id fs)
  where
    later_some : (o : Option ℕ) → is_some (later o) ≡ true → is_some o ≡ true
    later_some None e = absurd (cc)
    later_some (Some n) e = refl

    own : (x : ℤ) → x ≡ id → int_eq id x ≡ true
    own x e = ap (int_eq id) e ∙ same_int id

    by : (b : Bool) → same_id f.id id ≡ b → (is_some (place_of id fs) ≡ true → list_any (int_eq id) (ids_of fs) ≡ true) → list_any (int_eq id) (ids_of (f ∷ fs)) ≡ true
    by true e rest = rw (own f.id (same_is f.id id e)) refl
    by false e rest = or_second (int_eq id f.id) _ (rest (later_some (place_of id fs) (rw e at has)))

place_some : (id : ℤ) (fs : List FieldInfo) → is_some (field_in id fs) ≡ true → is_some (place_of id fs) ≡ true
place_some id fs has = by (place_of id fs) refl
  where
    by : (o : Option ℕ) → place_of id fs ≡ o → is_some (place_of id fs) ≡ true
    by None e = absurd (cc (rw e at has))
    by (Some n) e = rw e refl

turned : (id : ℤ) (ids : List ℤ) → stood id ids ≡ list_any (int_eq id) ids
turned id [] = refl
turned id (x ∷ xs) = rw (int_eq_equiv.symm x id, turned id xs) refl

pub few_ids : (fs : List FieldInfo) (ids : List ℤ) → AreFields fs ids → length ids ≤ length fs
few_ids fs ids are =
    let few = length-le_from_is_member int_eq_equiv ids (ids_of fs) are.once (λ q in_ids. member_of q fs (place_some q fs (are.declared q (turned q ids ∙ in_ids)))) in
    omega (arith, few, ids_length fs)

-- one field more that is declared and new
pub fields_more : (fs : List FieldInfo) (ids : List ℤ) (id : ℤ) → AreFields fs ids → is_some (field_in id fs) ≡ true → stood id ids ≡ false → AreFields fs (ids ++ id ∷ [])
fields_more fs ids id are has new = record { once = distinct_more id ids are.once new; declared = declared }
  where
    declared : (q : ℤ) → stood q (ids ++ id ∷ []) ≡ true → is_some (field_in q fs) ≡ true
    declared q in_ids = by (stood q ids) refl
      where
        last : (b : Bool) → int_eq id q ≡ b → stood q ids ≡ false → is_some (field_in q fs) ≡ true
        last true e none = ap (λ z. is_some (field_in z fs)) (sym (int_same id q e)) ∙ has
        last false e none = absurd (cc (rw (list_any-append (λ other. int_eq other q) ids (id ∷ []), none, e) at in_ids))

        by : (b : Bool) → stood q ids ≡ b → is_some (field_in q fs) ≡ true
        by true e = are.declared q e
        by false e = last (int_eq id q) refl e

-- ---- a list that holds an id

pub stands_is : (id : ℤ) (ids : List ℤ) → stood id ids ≡ true → Contains ids id
stands_is id ids e = Contains-from_any int_same id ids (sym (turned id ids) ∙ e)

pub is_standing : (id : ℤ) (ids : List ℤ) → Contains ids id → stood id ids ≡ true
is_standing id ids has = turned id ids ∙ list_any-from_Contains int_eq_equiv id ids has

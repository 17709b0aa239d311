-- Sets of names and ids that grow, as tests on lists.
use Rattle.std.proofs.Common.{◌≡◌, ℕ, ℤ, List, [], ◌∷◌, ◌++◌, refl, ap, sym, ◌∙◌, Bool, not, nat_eq, int_eq, map, Option, arith}
use Rattle.std.specs.Cmp.Lexicographic.{pointwise}
use Rattle.std.specs.List.{list_any}
use Rattle.std.specs.Prelude.{◌||◌, ◌&&◌}
use Rattle.std.proofs.lemmas.Bool.Decides.{nat_tests}
use Rattle.idl_document.specs.declared.document.Name.{Name}
use Rattle.idl_rules.specs.declared.ids.FieldId.{FieldId}
use Rattle.idl_rules.specs.declared.row.IdlRow.{IdlRow}
use Rattle.idl_rules.specs.declared.row.IdlRow.TheVariants as rows
use Rattle.idl_rules.specs.Doubles.{is_among, repeated, when, IsSame}
use Rattle.idl_rules.specs.Ids.{is_id_among, refused_ids, IsSameIds}
use Rattle.idl_rules.specs.Leasts.{least_on}
use Rattle.idl_rules.specs.Order.{Refusal, lesser, least_of}
use Rattle.idl_rules.proofs.Steps.{noted}

-- names that are seen through references
pub seen_through : {R : Type 0} (seen : R → List ℕ) (name : List ℕ) (keys : List R) → list_any (λ k. pointwise nat_eq name (seen k)) keys ≡ is_among name (map seen keys)
seen_through seen name [] = refl
seen_through seen name (k ∷ ks) = ap (λ b. pointwise nat_eq name (seen k) || b) (seen_through seen name ks)

same_with : (xs ys : List (List ℕ)) (n : List ℕ) → IsSame xs ys → IsSame (n ∷ xs) (n ∷ ys)
same_with xs ys n same name = ap (λ b. pointwise nat_eq name n || b) (same name)

-- what is repeated depends on the names alone
pub repeated_same : (row : IdlRow) (xs ys : List (List ℕ)) (ns : List Name) → IsSame xs ys → repeated row xs ns ≡ repeated row ys ns
repeated_same row xs ys [] same = refl
repeated_same row xs ys (n ∷ ns) same =
    ap (λ (b : Bool). when b n.at row ++ repeated row (n.text ∷ xs) ns) (same n.text)
    ∙ ap (λ (rest : List Refusal). when (is_among n.text ys) n.at row ++ rest) (repeated_same row (n.text ∷ xs) (n.text ∷ ys) ns (same_with xs ys n.text same))

same_with_id : (xs ys : List ℤ) (z : ℤ) → IsSameIds xs ys → IsSameIds (z ∷ xs) (z ∷ ys)
same_with_id xs ys z same id = ap (λ b. int_eq id z || b) (same id)

pub ids_same : (xs ys : List ℤ) (ids : List FieldId) → IsSameIds xs ys → refused_ids xs ids ≡ refused_ids ys ids
ids_same xs ys [] same = refl
ids_same xs ys (x ∷ ids) same =
    ap (λ (b : Bool). when b x.at rows.DuplicateFieldId ++ when (not x.fits) x.at rows.IdOutOfRange ++ refused_ids (x.id ∷ xs) ids) (same x.id)
    ∙ ap (λ (rest : List Refusal). when (is_id_among x.id ys) x.at rows.DuplicateFieldId ++ when (not x.fits) x.at rows.IdOutOfRange ++ rest) (ids_same (x.id ∷ xs) (x.id ∷ ys) ids (same_with_id xs ys x.id same))

-- one name of a list is noted where it stood before, and kept
pub named_step : (row : IdlRow) (seen more : List (List ℕ)) (n m : Name) (text : List ℕ) (again : Bool) (rest : List Name) (old new whole : Option Refusal) → m ≡ n → text ≡ m.text →
    again ≡ is_among text seen → IsSame more (text ∷ seen) → new ≡ lesser old (least_of (when again m.at row)) →
    lesser old (least_of (repeated row seen (n ∷ rest))) ≡ whole → lesser new (least_of (repeated row more rest)) ≡ whole
named_step row seen more n m text again rest old new whole e f a same told before =
    noted old new whole (when again m.at row) (repeated row more rest) (repeated row seen (n ∷ rest))
    (sym (
    ap (λ (l : List Refusal). when again m.at row ++ l) (repeated_same row more (text ∷ seen) rest same)
    ∙ ap (λ (b : Bool). when b m.at row ++ repeated row (text ∷ seen) rest) a
    ∙ ap (λ (t : List ℕ). when (is_among t seen) m.at row ++ repeated row (t ∷ seen) rest) f
    ∙ ap (λ (k : Name). when (is_among k.text seen) k.at row ++ repeated row (k.text ∷ seen) rest) e))
    told before

-- one id of a list of fields is noted where it stood before, and where it is out of range, and kept
pub id_step : (seen more : List ℤ) (x : FieldId) (again : Bool) (rest : List FieldId) (old mid new whole : Option Refusal) →
    again ≡ is_id_among x.id seen → IsSameIds more (x.id ∷ seen) → mid ≡ lesser old (least_of (when again x.at rows.DuplicateFieldId)) →
    new ≡ lesser mid (least_of (when (not x.fits) x.at rows.IdOutOfRange)) → lesser old (least_of (refused_ids seen (x ∷ rest))) ≡ whole → lesser new (least_of (refused_ids more rest)) ≡ whole
id_step seen more x again rest old mid new whole a same first second before =
    let double = when again x.at rows.DuplicateFieldId in
    let outside = when (not x.fits) x.at rows.IdOutOfRange in
    noted old new whole (double ++ outside) (refused_ids more rest) (refused_ids seen (x ∷ rest))
    (sym (
    ap (λ (l : List Refusal). double ++ outside ++ l) (ids_same more (x.id ∷ seen) rest same)
    ∙ ap (λ (b : Bool). when b x.at rows.DuplicateFieldId ++ outside ++ refused_ids (x.id ∷ seen) rest) a))
    (second ∙ ap (λ (o : Option Refusal). lesser o (least_of outside)) first ∙ least_on old double outside) before

nat_same : (m n : ℕ) → nat_eq m n ≡ nat_eq n m
nat_same m n = grind (arith, nat_tests)

pub text_same : (xs ys : List ℕ) → pointwise nat_eq xs ys ≡ pointwise nat_eq ys xs
text_same [] [] = refl
text_same [] (y ∷ ys) = refl
text_same (x ∷ xs) [] = refl
text_same (x ∷ xs) (y ∷ ys) = ap (λ (b : Bool). b && pointwise nat_eq xs ys) (nat_same x y) ∙ ap (λ (b : Bool). nat_eq y x && b) (text_same xs ys)

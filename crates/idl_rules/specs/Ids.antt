-- The ids of fields. One that is not given is counted down from -1 in its own list.
use Rattle.std.specs.Prelude.{◌≡◌, ℕ, ℤ, suc, List, [], ◌∷◌, ◌++◌, Option, Some, None, Bool, not, ◌&&◌, pos, negsuc, int_lt, nat_lt}
use Rattle.std.specs.Ordering.{int_eq}
use Rattle.std.specs.List.{list_any}
use Rattle.idl_document.specs.Trees.{FieldTree}
use Rattle.idl_rules.specs.declared.ids.FieldId.{FieldId}
use Rattle.idl_rules.specs.declared.row.IdlRow.TheVariants as rows
use Rattle.idl_rules.specs.Doubles.{when}
use Rattle.idl_rules.specs.Order.{Refusal}

-- a given id is from 1 to 32767
abbrev pub is_given_id : ℤ → Bool
is_given_id z = int_lt (pos 0) z && int_lt z (pos 32768)

abbrev pub id_by : Option (ℕ × ℤ) → ℕ → ℕ → FieldId
id_by (Some given) at before = record { at = given.0; id = given.1; fits = is_given_id given.1 }
id_by None at before = record { at = at; id = negsuc before; fits = nat_lt before 32768 }

-- the id of a field with so many fields without an id before it; where none is given it is told at the field's name
abbrev pub id_of : ℕ → FieldTree → FieldId
id_of before f = id_by f.id f.name.at before

abbrev pub counted : ℕ → Option (ℕ × ℤ) → ℕ
counted before (Some given) = before
counted before None = suc before

abbrev pub ids_from : ℕ → List FieldTree → List FieldId
ids_from before [] = []
ids_from before (f ∷ fs) = id_of before f ∷ ids_from (counted before f.id) fs

abbrev pub field_ids : List FieldTree → List FieldId
field_ids fields = ids_from 0 fields

abbrev pub is_id_among : ℤ → List ℤ → Bool
is_id_among id ids = list_any (int_eq id) ids

-- each id that stands before it in the list, or among these, and each that is out of range
abbrev pub refused_ids : List ℤ → List FieldId → List Refusal
refused_ids earlier [] = []
refused_ids earlier (x ∷ xs) =
    when (is_id_among x.id earlier) x.at rows.DuplicateFieldId ++ when (not x.fits) x.at rows.IdOutOfRange ++ refused_ids (x.id ∷ earlier) xs

abbrev pub id_refusals : List FieldTree → List Refusal
id_refusals fields = refused_ids [] (field_ids fields)

-- two lists with the same ids in them
abbrev pub IsSameIds : List ℤ → List ℤ → Type 0
IsSameIds xs ys = (id : ℤ) → is_id_among id xs ≡ is_id_among id ys

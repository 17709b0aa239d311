-- The fields of a struct, in the order of their declaration, and the places of their ids.
use Rattle.std.specs.Prelude.{◌≡◌, ℕ, ℤ, ◌+◌, List, [], ◌∷◌, Option, Some, None, Bool, true, false, if◌then◌else◌, slice_get}
use Rattle.std.specs.Prelude.{int_lt}
use Rattle.type_tables.specs.declared.declared.FieldInfo.{FieldInfo}
use Rattle.type_tables.specs.declared.fields.Place.{Place}

-- a place n further on
abbrev pub later : Option ℕ → Option ℕ
later None = None
later (Some n) = Some (1 + n)

-- neither is below the other
abbrev pub same_id : ℤ → ℤ → Bool
same_id a b = if int_lt a b then false else if int_lt b a then false else true

-- the place of the field with this id
abbrev pub place_of : ℤ → List FieldInfo → Option ℕ
place_of id [] = None
place_of id (f ∷ fs) = if same_id f.id id then Some 0 else later (place_of id fs)

-- the field at a place
abbrev pub at_place : {X : Type 0} → List X → Option ℕ → Option X
at_place xs None = None
at_place xs (Some n) = slice_get xs n

-- the place that stands beside an id
abbrev pub place_in : ℤ → List Place → Option ℕ
place_in id [] = None
place_in id (p ∷ ps) = if same_id p.id id then Some p.at else place_in id ps

-- each id is above this one
abbrev pub Above : ℤ → List Place → Type 0
Above id [] = Unit {0}
Above id (p ∷ ps) = (int_lt id p.id ≡ true) × Above id ps

-- ids rise
abbrev pub Rising : List Place → Type 0
Rising [] = Unit {0}
Rising (p ∷ ps) = Above p.id ps × Rising ps

-- how many ids are below this one
abbrev pub rank : ℤ → List Place → ℕ
rank id [] = 0
rank id (p ∷ ps) = if int_lt p.id id then 1 + rank id ps else 0

-- the place beside the id at a rank, where it is this id
abbrev pub at_rank : ℤ → Option Place → Option ℕ
at_rank id None = None
at_rank id (Some p) = if same_id p.id id then Some p.at else None

-- the places are those of the fields
pub record IsIndex (fields : List FieldInfo) (places : List Place) : Type 0 where
  pub rising : Rising places
  pub exact : (id : ℤ) → place_in id places ≡ place_of id fields

-- the field with this id
abbrev pub field_in : ℤ → List FieldInfo → Option FieldInfo
field_in id fields = at_place fields (place_of id fields)

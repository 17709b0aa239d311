-- What is open while a body is checked, as it lies in memory, and how it fits what is declared.
use Rattle.std.specs.Prelude.{◌≡◌, ⊤, ℕ, ℤ, zero, suc, ◌≤◌, List, [], ◌∷◌, Option, Some, None, true, false, slice_get, is_some, length, int_lt, All}
use Rattle.protocol_traits.specs.declared.nest.TheConstants.{DEPTH}
use Rattle.std.specs.List.{IsDistinct}
use Rattle.std.specs.Ordering.{int_eq}
use Rattle.type_tables.specs.declared.declared.FieldInfo.{FieldInfo}
use Rattle.type_tables.specs.Declarations.{Declarations}
use Rattle.type_tables.specs.Fields.{field_in}
use Rattle.type_tables.specs.Structs.{fields_of}
use Rattle.type_walk.specs.declared.levels.Level.{Level}
use Rattle.type_walk.specs.declared.levels.Level.TheVariants as levels
use Rattle.conform_check.specs.Inside.{Inside, in_fields}
use Rattle.conform_check.specs.Breaches.{stood}

-- a level as it lies in memory, and for how many ids it has room
pub record Shelved : Type 0 where
  pub inside : Inside
  pub room : ℕ

abbrev pub inside_at : Option Shelved → Inside
inside_at None = in_fields
inside_at (Some shelf) = shelf.inside

-- the first levels, the last of them first
abbrev pub first_levels : List Shelved → ℕ → List Inside
first_levels shelves zero = []
first_levels shelves (suc depth) = inside_at (slice_get shelves depth) ∷ first_levels shelves depth

-- there is a shelf for each level that a message may have, and each has room for so many ids
pub record AreReady (shelves : List Shelved) (width : ℕ) : Type 0 where
  pub levels : length shelves ≡ DEPTH
  pub rooms : All (λ shelf. width ≤ shelf.room) shelves

-- the open levels, and for how many ids each has room
pub record Opened : Type 0 where
  pub levels : List Inside
  pub width : ℕ

-- no id is greater than this one
abbrev pub AreUpTo : ℤ → List ℤ → Type 0
AreUpTo greatest [] = ⊤
AreUpTo greatest (id ∷ ids) = (int_lt greatest id ≡ false) × AreUpTo greatest ids

-- each of these ids is that of a field, and none stands twice
pub record AreFields (fields : List FieldInfo) (seen : List ℤ) : Type 0 where
  pub once : IsDistinct int_eq seen
  pub declared : (id : ℤ) → stood id seen ≡ true → is_some (field_in id fields) ≡ true

abbrev pub IsFitting : Declarations → Level → List ℤ → Type 0
IsFitting d (levels.Fields s) seen = AreFields (fields_of d.structs s.0) seen
IsFitting d level seen = ⊤

-- as many levels are open as are known, and in each declared struct stood only fields that it declares, each once
abbrev pub AreFitting : Declarations → List Level → List Inside → Type 0
AreFitting d [] [] = ⊤
AreFitting d (level ∷ known) (here ∷ up) = IsFitting d level here.seen × AreFitting d known up
AreFitting d known open_levels = ⊥

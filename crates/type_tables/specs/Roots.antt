-- The names that services have in the root file.
use Rattle.std.specs.Prelude.{ℕ, List, [], ◌∷◌, ◌++◌, Option, Some, None, Bool, not, ◌==◌, if◌then◌else◌}
use Rattle.std.specs.List.{list_any}
use Rattle.type_tables.specs.declared.declared.ServiceId.{ServiceId}
use Rattle.type_tables.specs.Names.{value_of}

-- a name without a dot is one of the root file
abbrev pub dotless : List ℕ → Bool
dotless name = not (list_any (λ b. b == 46) name)

abbrev pub rooted : List (List ℕ × ServiceId) → List ServiceId
rooted [] = []
rooted (e ∷ es) = if dotless e.0 then e.1 ∷ rooted es else rooted es

-- the thing of a list with exactly one
abbrev pub only : {X : Type 0} → List X → Option X
only [] = None
only (x ∷ []) = Some x
only (x ∷ y ∷ xs) = None

abbrev pub number_in : Option ServiceId → Option ℕ
number_in None = None
number_in (Some s) = Some s.0

-- the place of the service that has this name
abbrev pub named_place : Option (List ℕ) → List (List ℕ × ServiceId) → Option ℕ
named_place None names = None
named_place (Some name) names = number_in (value_of name names)

-- one name more
abbrev pub with_name : List (List ℕ × ServiceId) → Option (List ℕ) → ServiceId → List (List ℕ × ServiceId)
with_name names None s = names
with_name names (Some name) s = names ++ (name, s) ∷ []

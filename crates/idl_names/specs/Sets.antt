-- Spots, each once.
use Rattle.std.specs.Prelude.{◌≡◌, ◌⊎◌, List, [], ◌∷◌, ◌++◌, Bool, ◌&&◌, if◌then◌else◌, nat_eq, Option, Some, None}
use Rattle.std.specs.List.{list_any}
use Rattle.idl_names.specs.declared.documents.Spot.{Spot}

abbrev pub same_spot : Spot → Spot → Bool
same_spot a b = nat_eq a.file b.file && nat_eq a.definition b.definition

abbrev pub is_among : Spot → List Spot → Bool
is_among spot spots = list_any (same_spot spot) spots

-- one more, unless it is there
unfoldable pub with_spot : List Spot → Spot → List Spot
with_spot spots spot = if is_among spot spots then spots else spots ++ spot ∷ []

-- several more
abbrev pub with_all : List Spot → List Spot → List Spot
with_all spots [] = spots
with_all spots (s ∷ ss) = with_all (with_spot spots s) ss

abbrev pub listed_spot : Option Spot → List Spot
listed_spot None = []
listed_spot (Some spot) = spot ∷ []

-- whether a spot is in a list
abbrev pub Has : List Spot → Spot → Type 0
Has [] spot = ⊥
Has (s ∷ ss) spot = (spot ≡ s) ⊎ Has ss spot

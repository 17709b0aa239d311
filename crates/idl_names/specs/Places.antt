-- Names, each with the place of the first thing that has it.
use Rattle.std.specs.Prelude.{◌≡◌, ℕ, List, [], ◌∷◌, ◌++◌, Option, Some, None, position, if◌then◌else◌, nat_eq}
use Rattle.std.specs.Global.{Vec}
use Rattle.std.specs.Cmp.Lexicographic.{pointwise}
use Rattle.idl_names.specs.Meaning.{is_named}

-- the names as lists
abbrev pub named : List (Vec ℕ × ℕ) → List (List ℕ × ℕ)
named [] = []
named (e ∷ es) = (e.0.items, e.1) ∷ named es

abbrev pub place_of : List ℕ → List (List ℕ × ℕ) → Option ℕ
place_of word [] = None
place_of word (e ∷ es) = if pointwise nat_eq word e.0 then Some e.1 else place_of word es

abbrev pub noted_by : Option ℕ → List (List ℕ × ℕ) → List ℕ → ℕ → List (List ℕ × ℕ)
noted_by (Some earlier) es name place = es
noted_by None es name place = es ++ (name, place) ∷ []

-- a name keeps the place that it has
abbrev pub noted : List (List ℕ × ℕ) → Option (List ℕ) → ℕ → List (List ℕ × ℕ)
noted es None place = es
noted es (Some name) place = noted_by (place_of name es) es name place

-- each name has the place of the first thing with it
abbrev pub TellsFirst : {X : Type 0} → (X → Option (List ℕ)) → List X → List (List ℕ × ℕ) → Type 0
TellsFirst name things es = (word : List ℕ) → place_of word es ≡ position (λ x. is_named word (name x)) things

-- Names that stand twice in one list.
use Rattle.std.specs.Prelude.{◌≡◌, ℕ, List, [], ◌∷◌, ◌++◌, Bool, if◌then◌else◌, nat_eq}
use Rattle.std.specs.Cmp.Lexicographic.{pointwise}
use Rattle.std.specs.List.{list_any}
use Rattle.idl_document.specs.declared.document.Name.{Name}
use Rattle.idl_rules.specs.declared.row.IdlRow.{IdlRow}
use Rattle.idl_rules.specs.Order.{Refusal}

-- a refusal at this offset, where there is reason for it
abbrev pub when : Bool → ℕ → IdlRow → List Refusal
when refused at row = if refused then (at, row) ∷ [] else []

abbrev pub is_among : List ℕ → List (List ℕ) → Bool
is_among name names = list_any (pointwise nat_eq name) names

-- each name that stands before it in the list, or among these
abbrev pub repeated : IdlRow → List (List ℕ) → List Name → List Refusal
repeated row earlier [] = []
repeated row earlier (n ∷ ns) = when (is_among n.text earlier) n.at row ++ repeated row (n.text ∷ earlier) ns

-- the later of two names that are the same
abbrev pub double_names : IdlRow → List Name → List Refusal
double_names row names = repeated row [] names

-- two lists with the same names in them
abbrev pub IsSame : List (List ℕ) → List (List ℕ) → Type 0
IsSame xs ys = (name : List ℕ) → is_among name xs ≡ is_among name ys

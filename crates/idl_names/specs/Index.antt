-- The names of each file.
use mathlib.Core.HLevel.{×_prop, Unit-prop, ⊥_prop}
use Rattle.std.specs.Prelude.{ℕ, List, [], ◌∷◌, Option, slice_get, option_and_then}
use Rattle.std.proofs.Props.{props}
use Rattle.idl_rules.specs.declared.scopes.Scope.{Scope}
use Rattle.idl_rules.specs.declared.scopes.Scope.TheVariants as scopes
use Rattle.idl_names.specs.declared.names.FileNames.{FileNames}
use Rattle.idl_names.specs.Files.{FileTree}
use Rattle.idl_names.specs.Meaning.{name_in}
use Rattle.idl_names.specs.Paths.{base_name}
use Rattle.idl_names.specs.Places.{TellsFirst, place_of}

abbrev pub no_names : FileNames
no_names = record { types = []; constants = []; services = []; bases = [] }

-- the names that one file declares, and those under which it includes others
pub record IsIndex (tree : FileTree) (names : FileNames) : Type 0 where
  pub types : TellsFirst (name_in scopes.Types) tree.document.definitions names.types
  pub constants : TellsFirst (name_in scopes.Constants) tree.document.definitions names.constants
  pub services : TellsFirst (name_in scopes.Services) tree.document.definitions names.services
  pub bases : TellsFirst (λ path. base_name path.text) tree.document.includes names.bases

abbrev pub AreIndexed : List FileTree → List FileNames → Type 0
AreIndexed [] [] = Unit {0}
AreIndexed [] (n ∷ ns) = ⊥
AreIndexed (t ∷ ts) [] = ⊥
AreIndexed (t ∷ ts) (n ∷ ns) = IsIndex t n × AreIndexed ts ns

IsIndex-prop : (t : FileTree) (n : FileNames) → IsProp (IsIndex t n)
IsIndex-prop t n = hlevel props

pub AreIndexed-prop : (ts : List FileTree) (ns : List FileNames) → IsProp (AreIndexed ts ns)
AreIndexed-prop [] [] = Unit-prop
AreIndexed-prop [] (n ∷ ns) = ⊥_prop
AreIndexed-prop (t ∷ ts) [] = ⊥_prop
AreIndexed-prop (t ∷ ts) (n ∷ ns) = ×_prop (IsIndex-prop t n) (AreIndexed-prop ts ns)

abbrev pub places_in : Scope → FileNames → List (List ℕ × ℕ)
places_in scopes.Types names = names.types
places_in scopes.Constants names = names.constants
places_in scopes.Services names = names.services

-- the place of a definition, by the names of the file at this place
abbrev pub place_in : List FileNames → ℕ → Scope → List ℕ → Option ℕ
place_in index file scope word = option_and_then (λ names. place_of word (places_in scope names)) (slice_get index file)

-- the place of an include, likewise
abbrev pub include_in : List FileNames → ℕ → List ℕ → Option ℕ
include_in index file prefix = option_and_then (λ names. place_of prefix names.bases) (slice_get index file)

-- the file that the include at this place leads to
abbrev pub include_at : List FileTree → ℕ → ℕ → Option ℕ
include_at files file include = option_and_then (λ tree. slice_get tree.includes include) (slice_get files file)

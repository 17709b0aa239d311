-- What a name means in a file.
use Rattle.std.specs.Prelude.{ℕ, ◌+◌, ◌<◌, ◌^◌, List, length, take, drop, slice_get, position, Bool, false, Option, Some, None, option_map, option_and_then, nat_eq}
use Rattle.std.specs.List.{All}
use Rattle.std.specs.Cmp.Lexicographic.{pointwise}
use Rattle.idl_document.specs.declared.document.Name.{Name}
use Rattle.idl_document.specs.Trees.{DefinitionTree, const_of, typedef_of, enum_of, struct_of, service_of}
use Rattle.idl_rules.specs.declared.scopes.Scope.{Scope}
use Rattle.idl_rules.specs.declared.scopes.Scope.TheVariants as scopes
use Rattle.idl_names.specs.declared.documents.Spot.{Spot}
use Rattle.idl_names.specs.Files.{FileTree}
use Rattle.idl_names.specs.Paths.{base_name, last_place}

-- the name that a definition puts into this scope
abbrev pub name_in : Scope → DefinitionTree → Option (List ℕ)
name_in scopes.Constants (const_of name ty value) = Some name.text
name_in scopes.Types (typedef_of name ty) = Some name.text
name_in scopes.Types (enum_of name members) = Some name.text
name_in scopes.Types (struct_of kin name fields) = Some name.text
name_in scopes.Services (service_of name base functions) = Some name.text
name_in scope definition = None

-- whether this word is the name
abbrev pub is_named : List ℕ → Option (List ℕ) → Bool
is_named word None = false
is_named word (Some name) = pointwise nat_eq word name

-- whether a definition declares this word in this scope
abbrev pub declares : Scope → List ℕ → DefinitionTree → Bool
declares scope word definition = is_named word (name_in scope definition)

abbrev pub spot_at : ℕ → ℕ → Spot
spot_at file place = record { file = file; definition = place }

-- the first definition of the file at this place that declares a name
unfoldable pub declared_in : List FileTree → ℕ → Scope → List ℕ → Option Spot
declared_in files file scope word =
    option_and_then (λ tree. option_map (spot_at file) (position (declares scope word) tree.document.definitions)) (slice_get files file)

abbrev pub has_base : List ℕ → Name → Bool
has_base prefix path = is_named prefix (base_name path.text)

-- the place of the file that the first include with this base name leads to
unfoldable pub included : List FileTree → ℕ → List ℕ → Option ℕ
included files file prefix =
    option_and_then (λ tree. option_and_then (slice_get tree.includes) (position (has_base prefix) tree.document.includes)) (slice_get files file)

abbrev pub meaning_by : List FileTree → ℕ → Scope → List ℕ → Option ℕ → Option Spot
meaning_by files file scope word None = declared_in files file scope word
meaning_by files file scope word (Some dot) =
    option_and_then (λ other. declared_in files other scope (drop (dot + 1) word)) (included files file (take dot word))

-- a name without a dot is of the file itself; else it is cut at its last dot, and is of the first include with the base name before that
unfoldable pub meaning : List FileTree → ℕ → Scope → List ℕ → Option Spot
meaning files file scope word = meaning_by files file scope word (last_place 46 word)

-- the places of definitions have 32 bits
abbrev pub HasFewDefinitions : List FileTree → Type 0
HasFewDefinitions files = All (λ f. length f.document.definitions < 2 ^ 32) files

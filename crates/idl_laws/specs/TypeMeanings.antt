-- What the types of an IDL's text mean, as trees: base types, containers, and what the names of definitions stand for.
use Rattle.std.specs.Prelude.{◌≡◌, ℕ, List, Some}
use Rattle.idl_document.specs.declared.document.BaseWord.{BaseWord}
use Rattle.idl_document.specs.declared.document.Kin.{Kin}
use Rattle.idl_document.specs.declared.document.Member.{Member}
use Rattle.idl_document.specs.declared.document.Name.{Name}
use Rattle.idl_document.specs.Trees.{DefinitionTree, typedef_of, enum_of, struct_of, FieldTree, TypeTree, base_at, named_at, map_at, set_at, list_at}
use Rattle.idl_rules.specs.declared.scopes.Scope.TheVariants as scopes
use Rattle.idl_names.specs.declared.documents.Spot.{Spot}
use Rattle.idl_names.specs.Files.{FileTree}
use Rattle.idl_names.specs.Meaning.{meaning}
use Rattle.idl_names.specs.Targets.{definition_at}

-- a type without typedefs: a base type, an enum or a struct (union, exception) by where it is declared, or a container of what its parts mean
pub data TypeMeaning : Type 0 where
  base_type : BaseWord → TypeMeaning
  enum_at : Spot → TypeMeaning
  struct_at : Spot → TypeMeaning
  map_of : TypeMeaning → TypeMeaning → TypeMeaning
  set_of : TypeMeaning → TypeMeaning
  list_of : TypeMeaning → TypeMeaning

-- a name of a type in the file at this place is that of the definition at a spot
pub record IsNameOf (files : List FileTree) (file : ℕ) (word : List ℕ) (spot : Spot) (definition : DefinitionTree) : Type 0 where
  pub means : meaning files file scopes.Types word ≡ Some spot
  pub declared : definition_at files spot ≡ Some definition

-- What a type means that is written in the file at this place. A typedef means what its type means in its own file; one that leads to itself means
-- nothing.
pub data TypeOf (files : List FileTree) : ℕ → TypeTree → TypeMeaning → Type 0 where
  a_base : (file at : ℕ) (word : BaseWord) → TypeOf files file (base_at at word) (base_type word)
  a_map : (file at : ℕ) (key value : TypeTree) (k v : TypeMeaning) → TypeOf files file key k → TypeOf files file value v → TypeOf files file (map_at at key value) (map_of k v)
  a_set : (file at : ℕ) (element : TypeTree) (e : TypeMeaning) → TypeOf files file element e → TypeOf files file (set_at at element) (set_of e)
  a_list : (file at : ℕ) (element : TypeTree) (e : TypeMeaning) → TypeOf files file element e → TypeOf files file (list_at at element) (list_of e)
  an_enum : (file at : ℕ) (word : List ℕ) (spot : Spot) (name : Name) (members : List Member) → IsNameOf files file word spot (enum_of name members) →
      TypeOf files file (named_at at word) (enum_at spot)
  a_struct : (file at : ℕ) (word : List ℕ) (spot : Spot) (kin : Kin) (name : Name) (fields : List FieldTree) → IsNameOf files file word spot (struct_of kin name fields) →
      TypeOf files file (named_at at word) (struct_at spot)
  a_typedef : (file at : ℕ) (word : List ℕ) (spot : Spot) (name : Name) (ty : TypeTree) (m : TypeMeaning) → IsNameOf files file word spot (typedef_of name ty) →
      TypeOf files spot.file ty m → TypeOf files file (named_at at word) m

-- a type of these files means one thing at most
abbrev pub MeansOneThing : List FileTree → Type 0
MeansOneThing files = (file : ℕ) (tree : TypeTree) (a b : TypeMeaning) → TypeOf files file tree a → TypeOf files file tree b → a ≡ b

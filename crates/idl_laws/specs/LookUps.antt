-- What the look-ups of a schema answer, by what the files declare.
use Rattle.std.specs.Prelude.{◌≡◌, ℕ, ℤ, List, [], ◌∷◌, take, slice_get, Option, Some, None, ◌++◌, ◌⊎◌}
use Rattle.idl_document.specs.declared.document.Name.{Name}
use Rattle.idl_document.specs.Trees.{service_of, FieldTree, FunctionTree}
use Rattle.idl_rules.specs.declared.scopes.Scope.TheVariants as scopes
use Rattle.idl_rules.specs.Ids.{counted, id_of}
use Rattle.idl_names.specs.declared.documents.Spot.{Spot}
use Rattle.idl_names.specs.Files.{FileTree}
use Rattle.idl_names.specs.Meaning.{included, meaning}
use Rattle.idl_names.specs.Paths.{last_place}
use Rattle.idl_names.specs.Targets.{definition_at}
use Rattle.type_tables.specs.declared.declared.FieldInfo.{FieldInfo}
use Rattle.type_tables.specs.declared.declared.MethodInfo.{MethodInfo}
use Rattle.type_tables.specs.declared.declared.ServiceId.{ServiceId}
use Rattle.type_tables.specs.declared.declared.Ty.{Ty}
use Rattle.type_tables.specs.Declarations.{Declarations}
use Rattle.type_tables.specs.Fields.{field_in}
use Rattle.type_tables.specs.Names.{value_of}
use Rattle.type_tables.specs.Roots.{only, rooted}
use Rattle.type_tables.specs.Services.{method_in, number}
use Rattle.idl_laws.specs.Counts.{service_number}
use Rattle.idl_laws.specs.Declared.{AreFields, IsField, IsMethod}

-- how many fields without an id there are: these, and so many before them
abbrev pub without_id : ℕ → List FieldTree → ℕ
without_id before [] = before
without_id before (f ∷ fs) = without_id (counted before f.id) fs

-- the id of a field that stands behind these
abbrev pub id_behind : ℕ → List FieldTree → FieldTree → ℤ
id_behind before earlier f = (id_of (without_id before earlier) f).id

module _ (files : List FileTree) (parts : List Ty) (file : ℕ) where
  -- a field of the list that has this id
  pub record IsFieldWith (before : ℕ) (declared : List FieldTree) (id : ℤ) (field : FieldInfo) : Type 0 where
    pub place : ℕ
    pub tree : FieldTree
    pub stands : slice_get declared place ≡ Some tree
    pub is : IsField files parts file (without_id before (take place declared)) tree field
    pub has : field.id ≡ id

  abbrev pub HasNoId : ℕ → List FieldTree → ℤ → Type 0
  HasNoId before declared id = (place : ℕ) (tree : FieldTree) → slice_get declared place ≡ Some tree → id_behind before (take place declared) tree ≡ id → ⊥

  -- one that is declared with the id, or none where none is
  abbrev pub AnswersId : ℕ → List FieldTree → ℤ → Option FieldInfo → Type 0
  AnswersId before declared id None = HasNoId before declared id
  AnswersId before declared id (Some field) = IsFieldWith before declared id field

-- in each list of fields that is as the files declare it
abbrev pub AnswersIds : List FileTree → Type 0
AnswersIds files =
    (types : List Ty) (file : ℕ) (declared : List FieldTree) (fields : List FieldInfo) (id : ℤ) → AreFields files types file 0 declared fields →
    AnswersId files types file 0 declared id (field_in id fields)

module _ (files : List FileTree) (d : Declarations) where
  -- a method that a service declares itself
  pub record IsOwnMethod (file : ℕ) (functions : List FunctionTree) (word : List ℕ) (method : MethodInfo) : Type 0 where
    pub place : ℕ
    pub tree : FunctionTree
    pub stands : slice_get functions place ≡ Some tree
    pub is : IsMethod files d file tree word method

  abbrev pub HasNoMethod : List FunctionTree → List ℕ → Type 0
  HasNoMethod functions word = (place : ℕ) (tree : FunctionTree) → slice_get functions place ≡ Some tree → tree.name.text ≡ word → ⊥

  -- the own one of this name, else the one of the service that is extended
  pub data IsMethodOf : Spot → List ℕ → MethodInfo → Type 0 where
    own : (spot : Spot) (name : Name) (base : Option Name) (functions : List FunctionTree) (word : List ℕ) (method : MethodInfo) → definition_at files spot ≡ Some (service_of name base functions) →
        IsOwnMethod spot.file functions word method → IsMethodOf spot word method
    inherited : (spot other : Spot) (name extended : Name) (functions : List FunctionTree) (word : List ℕ) (method : MethodInfo) →
        definition_at files spot ≡ Some (service_of name (Some extended) functions) → HasNoMethod functions word →
        meaning files spot.file scopes.Services extended.text ≡ Some other → IsMethodOf other word method → IsMethodOf spot word method

  -- each method that is found in a service that the files declare
  abbrev pub AnswersMethods : Type 0
  AnswersMethods =
      (spot : Spot) (name : Name) (base : Option Name) (functions : List FunctionTree) (word : List ℕ) (method : MethodInfo) → definition_at files spot ≡ Some (service_of name base functions) →
      method_in d.services (number (service_number files spot)) word ≡ Some method → IsMethodOf spot word method

  -- none is missed that a service declares or inherits
  abbrev pub FindsMethods : Type 0
  FindsMethods = (spot : Spot) (word : List ℕ) → method_in d.services (number (service_number files spot)) word ≡ None → (method : MethodInfo) → IsMethodOf spot word method → ⊥

-- the names that services are declared with have no dot, which the grammar sees to
abbrev pub AreDotless : List FileTree → Type 0
AreDotless files = (spot : Spot) (name : Name) (base : Option Name) (functions : List FunctionTree) → definition_at files spot ≡ Some (service_of name base functions) → last_place 46 name.text ≡ None

module _ (files : List FileTree) where
  -- the service that this name means in the root file
  pub record IsRootService (word : List ℕ) (id : ServiceId) : Type 0 where
    pub spot : Spot
    pub name : Name
    pub base : Option Name
    pub functions : List FunctionTree
    pub declared : definition_at files spot ≡ Some (service_of name base functions)
    pub means : meaning files 0 scopes.Services word ≡ Some spot
    pub is : id ≡ number (service_number files spot)

  -- each service that is found under a name
  abbrev pub AnswersServices : Declarations → Type 0
  AnswersServices d = (word : List ℕ) (id : ServiceId) → value_of word d.names ≡ Some id → IsRootService word id

  -- what a service of the file at this place is called in the root file: its name there, or behind the base name of an include that leads to the file
  pub data IsRootName (file : ℕ) (name : List ℕ) : List ℕ → Type 0 where
    own : file ≡ 0 → IsRootName file name name
    prefixed : (base : List ℕ) → included files 0 base ≡ Some file → IsRootName file name ((base ++ 46 ∷ []) ++ name)

  -- the root file, or one that it includes
  abbrev pub IsNearRoot : ℕ → Type 0
  IsNearRoot file = (file ≡ 0) ⊎ ((base : List ℕ) × (included files 0 base ≡ Some file))

  -- each service of the root file, and of those that it includes, is found under such a name
  abbrev pub FindsServices : Declarations → Type 0
  FindsServices d =
      (spot : Spot) (name : Name) (base : Option Name) (functions : List FunctionTree) → definition_at files spot ≡ Some (service_of name base functions) → IsNearRoot spot.file →
      (word : List ℕ) × IsRootName spot.file name.text word × ((id : ServiceId) × (value_of word d.names ≡ Some id))

  -- the one service that the root file declares
  pub record IsOnlyService (id : ServiceId) : Type 0 where
    pub spot : Spot
    pub name : Name
    pub base : Option Name
    pub functions : List FunctionTree
    pub root : spot.file ≡ 0
    pub declared : definition_at files spot ≡ Some (service_of name base functions)
    pub is : id ≡ number (service_number files spot)
    pub alone : (other : Spot) (n : Name) (b : Option Name) (fs : List FunctionTree) → other.file ≡ 0 → definition_at files other ≡ Some (service_of n b fs) → other ≡ spot

  -- the service that is used where none is named
  abbrev pub AnswersOnly : Declarations → Type 0
  AnswersOnly d = (id : ServiceId) → (only (rooted d.names) ≡ Some id → IsOnlyService id) × (IsOnlyService id → only (rooted d.names) ≡ Some id)

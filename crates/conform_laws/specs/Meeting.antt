-- When a value meets a declared type, by cases on the value, after Apache Thrift's IDL: its kind is the type's; a number of an enum is one of
-- the members; a `string` is UTF-8; the parts of a container have the declared kinds and meet the declared types; a struct has fields that it
-- declares, each once, with values that meet their types, and every field that is `required`; and a union has exactly one field.
use Rattle.std.specs.Prelude.{◌≡◌, ⊤, ℕ, ℤ, List, [], ◌∷◌, ◌++◌, length, Contains, Option, Some, None, IsUtf8}
use Rattle.thrift_value.specs.declared.kind.Kind.{Kind}
use Rattle.thrift_value.specs.declared.kind.Kind.TheVariants as kinds
use Rattle.thrift_value.specs.Trees.{Tree, Members, Trees, Pairs, truth, whole_8, whole_16, whole_32, whole_64, double, characters, loose_number, loose_text, structure, mapping_of_none, mapping, collection, sequence, unique_id, no_members, one_member, no_trees, one_tree, no_pairs, one_pair}
use Rattle.type_tables.specs.declared.declared.FieldInfo.{FieldInfo}
use Rattle.type_tables.specs.declared.declared.Form.TheVariants as forms
use Rattle.type_tables.specs.declared.declared.Need.TheVariants as needs
use Rattle.type_tables.specs.declared.declared.StructId.{StructId}
use Rattle.type_tables.specs.declared.declared.TyId.{TyId}
use Rattle.type_tables.specs.declared.declared.Ty.{Ty}
use Rattle.type_tables.specs.declared.declared.Ty.TheVariants as types
use Rattle.type_tables.specs.Declarations.{Declarations}
use Rattle.type_tables.specs.Fields.{field_in}
use Rattle.type_tables.specs.Kinds.{kind_of}
use Rattle.type_tables.specs.Structs.{fields_of, form_at, members_of}
use Rattle.type_walk.specs.Positions.{type_at}

-- values of this type have this kind
abbrev pub HasKind : Ty → Kind → Type 0
HasKind ty kind = kind_of ty ≡ Some kind

abbrev pub IsMember : Declarations → Ty → ℤ → Type 0
IsMember d (types.Enum e) n = Contains (members_of d.enums e.0) n
IsMember d ty n = ⊤

abbrev pub IsText : Ty → List ℕ → Type 0
IsText types.Text bytes = IsUtf8 bytes
IsText ty bytes = ⊤

-- the ids of the fields of a struct, in order
abbrev pub ids_of : Members → List ℤ
ids_of no_members = []
ids_of (one_member id t ms) = id ∷ ids_of ms

-- each of these ids stands for the first time, behind those before
abbrev pub AreNew : List ℤ → List ℤ → Type 0
AreNew before [] = ⊤
AreNew before (id ∷ ids) = (Contains before id → ⊥) × AreNew (before ++ id ∷ []) ids

-- the required ones of these fields are there
abbrev pub HaveRequired : List FieldInfo → List ℤ → Type 0
HaveRequired [] ids = ⊤
HaveRequired (f ∷ fs) ids = (f.need ≡ needs.Required → Contains ids f.id) × HaveRequired fs ids

-- what a struct asks of the ids of its fields, beside that they are declared
pub record AreComplete (d : Declarations) (s : StructId) (ids : List ℤ) : Type 0 where
  pub once : AreNew [] ids
  pub required : HaveRequired (fields_of d.structs s.0) ids
  pub one : form_at d.structs s.0 ≡ Some forms.Union → length ids ≡ 1

abbrev mutual
  pub Meets : Declarations → Ty → Tree → Type 0
  Meets d ty (truth b) = HasKind ty kinds.Bool
  Meets d ty (whole_8 n) = HasKind ty kinds.I8
  Meets d ty (whole_16 n) = HasKind ty kinds.I16
  Meets d ty (whole_32 n) = HasKind ty kinds.I32 × IsMember d ty n
  Meets d ty (whole_64 n) = HasKind ty kinds.I64
  Meets d ty (double bytes) = HasKind ty kinds.Double
  Meets d ty (characters bytes) = HasKind ty kinds.Str × IsText ty bytes
  Meets d ty (loose_number bytes) = HasKind ty kinds.Double
  Meets d ty (loose_text bytes) = HasKind ty kinds.Str × IsText ty bytes
  Meets d ty (structure ms) = (s : StructId) × (ty ≡ types.Struct s) × MeetFields d s ms × AreComplete d s (ids_of ms)
  Meets d ty mapping_of_none = HasKind ty kinds.Map
  Meets d ty (mapping key_kind value_kind ps) = (key : TyId) × (value : TyId) × (ty ≡ types.Map key value) × HasKind (type_at d key) key_kind × HasKind (type_at d value) value_kind × MeetPairs d (type_at d key) (type_at d value) ps
  Meets d ty (collection kind ts) = (element : TyId) × (ty ≡ types.Set element) × HasKind (type_at d element) kind × MeetAll d (type_at d element) ts
  Meets d ty (sequence kind ts) = (element : TyId) × (ty ≡ types.List element) × HasKind (type_at d element) kind × MeetAll d (type_at d element) ts
  Meets d ty (unique_id bytes) = HasKind ty kinds.Uuid

  pub MeetFields : Declarations → StructId → Members → Type 0
  MeetFields d s no_members = ⊤
  MeetFields d s (one_member id t ms) = ((f : FieldInfo) × (field_in id (fields_of d.structs s.0) ≡ Some f) × Meets d f.ty t) × MeetFields d s ms

  pub MeetAll : Declarations → Ty → Trees → Type 0
  MeetAll d ty no_trees = ⊤
  MeetAll d ty (one_tree t ts) = Meets d ty t × MeetAll d ty ts

  pub MeetPairs : Declarations → Ty → Ty → Pairs → Type 0
  MeetPairs d key value no_pairs = ⊤
  MeetPairs d key value (one_pair k v ps) = Meets d key k × Meets d value v × MeetPairs d key value ps

-- the fields of a struct meet what it declares
abbrev pub MeetsStruct : Declarations → StructId → Members → Type 0
MeetsStruct d s ms = MeetFields d s ms × AreComplete d s (ids_of ms)

-- a body meets what is declared where its struct is known and it meets that
abbrev pub MeetsBody : Declarations → Option StructId → Members → Type 0
MeetsBody d None ms = ⊥
MeetsBody d (Some s) ms = MeetsStruct d s ms

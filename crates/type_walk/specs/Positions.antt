-- The declared types of the positions in a body, by Apache Thrift's IDL: a field has the type that its struct declares
-- for its id, an element, a key or a value the type that its container declares, and a position below one that nothing
-- declares is unknown.
use Rattle.std.specs.Prelude.{ℤ, List, [], ◌∷◌, Bool, false, Option, Some, None, if◌then◌else◌, slice_get}
use Rattle.thrift_value.specs.declared.kind.Kind.{Kind}
use Rattle.thrift_value.specs.declared.kind.Kind.TheVariants as kinds
use Rattle.thrift_value.specs.Items.{Item, field, stop, struct_begin, map_begin, set_begin, list_begin, end}
use Rattle.thrift_value.specs.Kinds.{same_kind}
use Rattle.protocol_traits.specs.declared.proto.Hint.{Hint}
use Rattle.protocol_traits.specs.declared.proto.Hint.TheVariants as hints
use Rattle.protocol_traits.specs.declared.proto.Mark.{Mark}
use Rattle.type_tables.specs.declared.declared.FieldInfo.{FieldInfo}
use Rattle.type_tables.specs.declared.declared.StructId.{StructId}
use Rattle.type_tables.specs.declared.declared.TyId.{TyId}
use Rattle.type_tables.specs.declared.declared.Ty.{Ty}
use Rattle.type_tables.specs.declared.declared.Ty.TheVariants as types
use Rattle.type_tables.specs.Declarations.{Declarations}
use Rattle.type_tables.specs.Fields.{field_in}
use Rattle.type_tables.specs.Kinds.{kind_of}
use Rattle.type_tables.specs.Structs.{fields_of}
use Rattle.type_walk.specs.declared.levels.Level.{Level}
use Rattle.type_walk.specs.declared.levels.Level.TheVariants as levels
use Rattle.type_walk.specs.Stack.{first_of, rest_of}

-- what is declared, the structs and containers that are open with the innermost first, and the declared type of the
-- value that stands next
pub record Position : Type 0 where
  pub schema : Declarations
  pub levels : List Level
  pub next : Ty

-- the type, if its values have a kind and it is this one
abbrev pub kept : Option Kind → Kind → Ty → Ty
kept None kind ty = types.Unknown
kept (Some own) kind ty = if same_kind own kind then ty else types.Unknown

-- a declared type where a value of this kind stands: another kind than the declared one says that nothing is known
abbrev pub under : Ty → Kind → Ty
under ty kind = kept (kind_of ty) kind ty

abbrev pub known_type : Option Ty → Ty
known_type None = types.Unknown
known_type (Some ty) = ty

-- the type with this number
abbrev pub type_at : Declarations → TyId → Ty
type_at d t = known_type (slice_get d.types t.0)

abbrev pub declared_type : Option FieldInfo → Ty
declared_type None = types.Unknown
declared_type (Some f) = f.ty

-- the type of the field with this id, where a value of this kind is announced
abbrev pub field_type : Declarations → Option Level → ℤ → Kind → Ty
field_type d (Some (levels.Fields s)) id kind = under (declared_type (field_in id (fields_of d.structs s.0))) kind
field_type d level id kind = types.Unknown

-- whether there is a kind and it is this one
abbrev pub has_kind : Option Kind → Kind → Bool
has_kind None kind = false
has_kind (Some own) kind = same_kind own kind

abbrev pub of_kind : Kind → Option FieldInfo → Option FieldInfo
of_kind kind None = None
of_kind kind (Some f) = if has_kind (kind_of f.ty) kind then Some f else None

-- the field with this id that the innermost level declares, if its values have the kind that is announced
abbrev pub declared_in : Declarations → Option Level → ℤ → Kind → Option FieldInfo
declared_in d (Some (levels.Fields s)) id kind = of_kind kind (field_in id (fields_of d.structs s.0))
declared_in d level id kind = None

-- what a struct, a map, a set and a list of a declared type are inside
abbrev pub in_struct : Ty → Level
in_struct (types.Struct s) = levels.Fields s
in_struct ty = levels.Unknown

abbrev pub in_map : Declarations → Ty → Kind → Kind → Level
in_map d (types.Map key value) key_kind value_kind = levels.Keys (under (type_at d key) key_kind) (under (type_at d value) value_kind)
in_map d ty key_kind value_kind = levels.Unknown

abbrev pub in_set : Declarations → Ty → Kind → Level
in_set d (types.Set element) kind = levels.Elements (under (type_at d element) kind)
in_set d ty kind = levels.Unknown

abbrev pub in_list : Declarations → Ty → Kind → Level
in_list d (types.List element) kind = levels.Elements (under (type_at d element) kind)
in_list d ty kind = levels.Unknown

-- the type of the value that an innermost level calls for; in a struct a field comes first
abbrev pub called_for : Option Level → Ty
called_for (Some (levels.Elements element)) = element
called_for (Some (levels.Keys key value)) = key
called_for (Some (levels.Values key value)) = value
called_for level = types.Unknown

-- a value has been read: after a key comes its value, after that the next key
abbrev pub passed : List Level → List Level
passed [] = []
passed (levels.Keys key value ∷ up) = levels.Values key value ∷ up
passed (levels.Values key value ∷ up) = levels.Keys key value ∷ up
passed (level ∷ up) = level ∷ up

-- the position at which these levels are open and no field is announced
abbrev pub standing : Declarations → List Level → Position
standing d up = record { schema = d; levels = up; next = called_for (first_of up) }

-- a struct or container has begun where a value was called for
abbrev pub entered : Position → Level → Position
entered p level = standing p.schema (level ∷ passed p.levels)

abbrev pub struct_level : Option StructId → Level
struct_level None = levels.Unknown
struct_level (Some s) = levels.Fields s

-- at the beginning of a body, of this struct or of none that is known
abbrev pub start : Declarations → Option StructId → Position
start d body = standing d (struct_level body ∷ [])

-- behind an item
abbrev pub after : Position → Item → Position
after p (field id kind) = record { schema = p.schema; levels = p.levels; next = field_type p.schema (first_of p.levels) id kind }
after p stop = standing p.schema (rest_of p.levels)
after p end = standing p.schema (rest_of p.levels)
after p struct_begin = entered p (in_struct p.next)
after p (map_begin key value size) = entered p (in_map p.schema p.next key value)
after p (set_begin kind size) = entered p (in_set p.schema p.next kind)
after p (list_begin kind size) = entered p (in_list p.schema p.next kind)
after p item = standing p.schema (passed p.levels)

-- a string is a text or bytes by its declared type alone
abbrev pub hint_at : Ty → Hint
hint_at types.Text = hints.Text
hint_at types.Blob = hints.Blob
hint_at ty = hints.Unknown

abbrev pub hint_of : Position → Hint
hint_of p = hint_at p.next

-- the kind that stands for a part of an empty map
abbrev pub filler : Option Kind → Kind
filler None = kinds.I8
filler (Some kind) = kind

-- what is known at a position of this type: an empty map has the kinds of the declared map, and i8 where none is declared
abbrev pub mark_at : Declarations → Ty → Mark
mark_at d (types.Map key value) = record { hint = hints.Unknown; key = filler (kind_of (type_at d key)); value = filler (kind_of (type_at d value)) }
mark_at d ty = record { hint = hint_at ty; key = kinds.I8; value = kinds.I8 }

abbrev pub mark_of : Position → Item → Mark
mark_of p item = mark_at p.schema p.next

abbrev pub struct_in : Option Level → Option StructId
struct_in (Some (levels.Fields s)) = Some s
struct_in level = None

-- the declared struct of the struct in which the next item stands
abbrev pub inside_of : Position → Option StructId
inside_of p = struct_in (first_of p.levels)

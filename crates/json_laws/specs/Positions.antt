-- What an IDL declares of the positions of a body, as the grammar asks for it: a position has a declared type. A field has the type
-- that its struct declares for its id, an element, a key or a value the type that its container declares, each only where its values
-- are of the kind that the message announces; nothing is declared below a position of which nothing is.
use Rattle.std.specs.Prelude.{ℤ, Option, Some, None}
use Rattle.type_tables.specs.declared.declared.StructId.{StructId}
use Rattle.type_tables.specs.declared.declared.Ty.{Ty}
use Rattle.type_tables.specs.declared.declared.Ty.TheVariants as types
use Rattle.type_tables.specs.Declarations.{Declarations}
use Rattle.type_tables.specs.Fields.{field_in}
use Rattle.type_tables.specs.Structs.{fields_of}
use Rattle.type_walk.specs.Positions.{under, type_at, declared_type, hint_at}
use Rattle.json_protocol.specs.Grammar.{Declared}

abbrev pub field_of : Declarations → Ty → ℤ → Ty
field_of d (types.Struct s) id = declared_type (field_in id (fields_of d.structs s.0))
field_of d ty id = types.Unknown

abbrev pub element_of : Declarations → Ty → Ty
element_of d (types.List element) = type_at d element
element_of d (types.Set element) = type_at d element
element_of d ty = types.Unknown

abbrev pub key_of : Declarations → Ty → Ty
key_of d (types.Map key value) = type_at d key
key_of d ty = types.Unknown

abbrev pub value_of : Declarations → Ty → Ty
value_of d (types.Map key value) = type_at d value
value_of d ty = types.Unknown

abbrev pub declared_of : Declarations → Declared
declared_of d = record {
  Position = Ty;
  hint = hint_at;
  field = λ ty id kind. under (field_of d ty id) kind;
  element = λ ty kind. under (element_of d ty) kind;
  key = λ ty kind. under (key_of d ty) kind;
  value = λ ty kind. under (value_of d ty) kind;
}

-- the type of a body: of this struct, or of none that is known
abbrev pub body_of : Option StructId → Ty
body_of None = types.Unknown
body_of (Some s) = types.Struct s

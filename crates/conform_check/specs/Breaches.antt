-- What stands against an item where it stands, by what an IDL declares: Apache Thrift's IDL names for each struct the ids and types of
-- its fields and which of them are required, a union has exactly one field, an enum's value is one of its members, and a `string` is UTF-8.
use Rattle.std.specs.Prelude.{ℕ, ℤ, List, [], ◌∷◌, length, Bool, true, false, ◌&&◌, not, ◌==◌, Option, Some, None, if◌then◌else◌}
use Rattle.std.specs.List.{list_any}
use Rattle.std.specs.Ordering.{int_eq}
use Rattle.std.specs.Str.{is_utf8}
use Rattle.thrift_value.specs.declared.kind.Kind.{Kind}
use Rattle.thrift_value.specs.Items.{Item, field, stop, i32_value, text, unknown_text, map_begin, set_begin, list_begin}
use Rattle.type_tables.specs.declared.declared.FieldInfo.{FieldInfo}
use Rattle.type_tables.specs.declared.declared.Form.{Form}
use Rattle.type_tables.specs.declared.declared.Form.TheVariants as forms
use Rattle.type_tables.specs.declared.declared.Need.{Need}
use Rattle.type_tables.specs.declared.declared.Need.TheVariants as needs
use Rattle.type_tables.specs.declared.declared.StructId.{StructId}
use Rattle.type_tables.specs.declared.declared.Ty.{Ty}
use Rattle.type_tables.specs.declared.declared.Ty.TheVariants as types
use Rattle.type_tables.specs.Declarations.{Declarations}
use Rattle.type_tables.specs.Fields.{field_in}
use Rattle.type_tables.specs.Kinds.{kind_of}
use Rattle.type_tables.specs.Structs.{fields_of, form_at, members_of}
use Rattle.type_walk.specs.Positions.{Position, has_kind, inside_of, type_at}
use Rattle.conform_check.specs.declared.step.Step.{Step}
use Rattle.conform_check.specs.declared.step.Step.TheVariants as steps
use Rattle.conform_check.specs.declared.breach.Breach.{Breach}
use Rattle.conform_check.specs.declared.breach.Breach.TheVariants as breaches
use Rattle.conform_check.specs.declared.breach.Found.{Found}
use Rattle.conform_check.specs.Inside.{Inside}

-- what stands against an item, or nothing
abbrev pub Standing : Type 0
Standing = Option Found

-- a breach at this step, where it is one
abbrev pub at : Step → Option Breach → Option Found
at step None = None
at step (Some breach) = Some (record { breach = breach; last = Some step })

-- a breach of the innermost struct itself
abbrev pub of_struct : Breach → Option Found
of_struct breach = Some (record { breach = breach; last = None })

abbrev pub breach_unless : Bool → Breach → Option Breach
breach_unless true breach = None
breach_unless false breach = Some breach

-- whether a field with this id stood among these
abbrev pub stood : ℤ → List ℤ → Bool
stood id seen = list_any (λ other. int_eq other id) seen

-- ---- a field

-- the field that the innermost struct declares for an id
abbrev pub declared_for : Declarations → Option StructId → ℤ → Option FieldInfo
declared_for d None id = None
declared_for d (Some s) id = field_in id (fields_of d.structs s.0)

-- its id is declared, then its value has the kind of the declared type, then no field with its id stood before
abbrev pub field_breach : Option FieldInfo → Kind → Bool → Option Breach
field_breach None kind before = Some breaches.UnknownField
field_breach (Some f) kind before = if has_kind (kind_of f.ty) kind then breach_unless (not before) breaches.Repeated else Some breaches.WrongKind

-- ---- the end of a struct

abbrev pub is_required : Need → Bool
is_required needs.Required = true
is_required needs.Optional = false
is_required needs.Default = false

-- a required field that didn't stand
abbrev pub is_missing : FieldInfo → List ℤ → Bool
is_missing f seen = is_required f.need && not (stood f.id seen)

-- the first of these fields that is missing
abbrev pub missing : List FieldInfo → List ℤ → Option ℤ
missing [] seen = None
missing (f ∷ fs) seen = if is_missing f seen then Some f.id else missing fs seen

-- a union has exactly one field
abbrev pub is_complete : Option Form → List ℤ → Bool
is_complete (Some forms.Union) seen = length seen == 1
is_complete form seen = true

-- at the end of a struct of this form, where this field is missing or none
abbrev pub end_breach : Option ℤ → Bool → Option Found
end_breach (Some id) complete = at (steps.Field id) (Some breaches.Missing)
end_breach None true = None
end_breach None false = of_struct breaches.Union

abbrev pub stop_breach : Declarations → Option StructId → List ℤ → Option Found
stop_breach d None seen = None
stop_breach d (Some s) seen = end_breach (missing (fields_of d.structs s.0) seen) (is_complete (form_at d.structs s.0) seen)

-- ---- containers and leaves

-- the parts of a container have the kinds of the declared parts
abbrev pub map_agrees : Declarations → Ty → Kind → Kind → Bool
map_agrees d (types.Map key value) key_kind value_kind = has_kind (kind_of (type_at d key)) key_kind && has_kind (kind_of (type_at d value)) value_kind
map_agrees d ty key_kind value_kind = false

abbrev pub set_agrees : Declarations → Ty → Kind → Bool
set_agrees d (types.Set element) kind = has_kind (kind_of (type_at d element)) kind
set_agrees d ty kind = false

abbrev pub list_agrees : Declarations → Ty → Kind → Bool
list_agrees d (types.List element) kind = has_kind (kind_of (type_at d element)) kind
list_agrees d ty kind = false

-- a number at the place of an enum is one of its members'
abbrev pub number_agrees : Declarations → Ty → ℤ → Bool
number_agrees d (types.Enum e) n = list_any (λ member. int_eq member n) (members_of d.enums e.0)
number_agrees d ty n = true

-- a string at the place of a `string` is UTF-8
abbrev pub text_agrees : Ty → List ℕ → Bool
text_agrees types.Text bytes = is_utf8 bytes
text_agrees ty bytes = true

-- ---- an item

-- what stands against an item in the innermost open struct or container
abbrev pub found_at : Position → Inside → Item → Option Found
found_at p here (field id kind) = at (steps.Field id) (field_breach (declared_for p.schema (inside_of p) id) kind (stood id here.seen))
found_at p here stop = stop_breach p.schema (inside_of p) here.seen
found_at p here (i32_value n) = at here.step (breach_unless (number_agrees p.schema p.next n) breaches.NotMember)
found_at p here (text bytes) = at here.step (breach_unless (text_agrees p.next bytes) breaches.NotText)
found_at p here (unknown_text bytes) = at here.step (breach_unless (text_agrees p.next bytes) breaches.NotText)
found_at p here (map_begin key value size) = at here.step (breach_unless (map_agrees p.schema p.next key value) breaches.WrongKind)
found_at p here (set_begin kind size) = at here.step (breach_unless (set_agrees p.schema p.next kind) breaches.WrongKind)
found_at p here (list_begin kind size) = at here.step (breach_unless (list_agrees p.schema p.next kind) breaches.WrongKind)
found_at p here item = None

abbrev pub found_in : Position → List Inside → Item → Option Found
found_in p [] item = None
found_in p (here ∷ up) item = found_at p here item

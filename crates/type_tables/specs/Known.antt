-- What a finished schema keeps: each number in it is one of its own.
use Rattle.std.specs.Prelude.{◌≡◌, ◌<◌, ℕ, List, [], ◌∷◌, length, take, Option, Some, None, All, codes, pos}
use Rattle.type_tables.specs.declared.declared.FieldInfo.{FieldInfo}
use Rattle.type_tables.specs.declared.declared.Form.TheVariants as forms
use Rattle.type_tables.specs.declared.declared.MethodInfo.{MethodInfo}
use Rattle.type_tables.specs.declared.declared.Need.TheVariants as needs
use Rattle.type_tables.specs.declared.declared.ServiceId.{ServiceId}
use Rattle.type_tables.specs.declared.declared.Ty.{Ty}
use Rattle.type_tables.specs.declared.declared.Ty.TheVariants as types
use Rattle.type_tables.specs.declared.tables.StructDecl.{StructDecl}
use Rattle.type_tables.specs.Declarations.{Declarations}

-- TApplicationException of Apache Thrift: what went wrong, and its kind
abbrev pub failure_fields : List FieldInfo
failure_fields =
    record { id = pos 1; name = codes "message"; ty = types.Text; need = needs.Default }
    ∷ record { id = pos 2; name = codes "type"; ty = types.I32; need = needs.Default } ∷ []

abbrev pub failure_struct : StructDecl
failure_struct = record { form = forms.Exception; fields = failure_fields }

-- a schema with that struct alone
abbrev pub built_in : Declarations
built_in = record { types = []; enums = []; structs = failure_struct ∷ []; services = []; names = []; files = 0 }

-- the numbers in a type are this schema's
abbrev pub IsKnown : Declarations → Ty → Type 0
IsKnown d (types.Enum e) = e.0 < length d.enums
IsKnown d (types.Struct s) = s.0 < length d.structs
IsKnown d (types.Map key value) = (key.0 < length d.types) × (value.0 < length d.types)
IsKnown d (types.Set element) = element.0 < length d.types
IsKnown d (types.List element) = element.0 < length d.types
IsKnown d ty = Unit {0}

abbrev pub IsKnownMethod : Declarations → MethodInfo → Type 0
IsKnownMethod d m = (m.args.0 < length d.structs) × (m.result.0 < length d.structs)

abbrev pub KnowsMethods : Declarations → List (List ℕ × MethodInfo) → Type 0
KnowsMethods d methods = All (λ m. IsKnownMethod d m.1) methods

abbrev pub IsKnownBase : Declarations → Option ServiceId → Type 0
IsKnownBase d None = Unit {0}
IsKnownBase d (Some base) = base.0 < length d.services

-- every number that was handed in is one of this schema's
pub record IsClosed (d : Declarations) : Type 0 where
  pub types : All (IsKnown d) d.types
  pub fields : All (λ s. All (λ f. IsKnown d f.ty) s.fields) d.structs
  pub methods : All (λ s. KnowsMethods d s.methods) d.services
  pub bases : All (λ s. IsKnownBase d s.base) d.services

-- struct 0 is the built-in one, and each name is that of a service
pub record IsBuilt (d : Declarations) : Type 0 where
  pub failure : take 1 d.structs ≡ failure_struct ∷ []
  pub names : All (λ e. e.1.0 < length d.services) d.names

pub record IsFinished (d : Declarations) : Type 0 where
  pub built : IsBuilt d
  pub closed : IsClosed d

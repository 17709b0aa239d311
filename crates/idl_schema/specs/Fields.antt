-- The fields of a struct, of the arguments of a method or of what it throws.
use Rattle.std.specs.Prelude.{ℕ, ◌+◌, List, [], ◌∷◌, ◌++◌, length, Option, Some, None, codes, pos}
use Rattle.idl_document.specs.declared.document.Asked.{Asked}
use Rattle.idl_document.specs.declared.document.Asked.TheVariants as asks
use Rattle.idl_document.specs.declared.document.Kin.{Kin}
use Rattle.idl_document.specs.declared.document.Kin.TheVariants as kins
use Rattle.idl_document.specs.Trees.{FieldTree, TypeTree}
use Rattle.idl_rules.specs.Ids.{id_of, counted}
use Rattle.type_tables.specs.declared.declared.FieldInfo.{FieldInfo}
use Rattle.type_tables.specs.declared.declared.Form.{Form}
use Rattle.type_tables.specs.declared.declared.Form.TheVariants as forms
use Rattle.type_tables.specs.declared.declared.Need.{Need}
use Rattle.type_tables.specs.declared.declared.Need.TheVariants as needs
use Rattle.type_tables.specs.declared.declared.Ty.{Ty}
use Rattle.type_tables.specs.Declarations.{Declarations}
use Rattle.idl_schema.specs.Adding.{with_types}
use Rattle.idl_schema.specs.Numbers.{parts}
use Rattle.idl_schema.specs.Types.{part_types}

abbrev pub need_of : Asked → Need
need_of asks.Required = needs.Required
need_of asks.Optional = needs.Optional
need_of asks.Default = needs.Default

abbrev pub form_of : Kin → Form
form_of kins.Struct = forms.Struct
form_of kins.Union = forms.Union
form_of kins.Exception = forms.Exception

-- the field of this type with so many fields without an id before it
abbrev pub field_of : ℕ → FieldTree → Ty → FieldInfo
field_of before f ty = record { id = (id_of before f).id; name = f.name.text; ty = ty; need = need_of f.asked }

-- where the first part of its type has the number `base`
abbrev pub field_info : (ℕ → TypeTree → Ty) → ℕ → ℕ → FieldTree → FieldInfo
field_info ty before base f = field_of before f (ty base f.ty)

abbrev pub fields_from : (ℕ → TypeTree → Ty) → ℕ → ℕ → List FieldTree → List FieldInfo
fields_from ty before base [] = []
fields_from ty before base (f ∷ fs) = field_info ty before base f ∷ fields_from ty (counted before f.id) (base + parts f.ty) fs

-- the parts of their types
abbrev pub fields_types : (ℕ → TypeTree → Ty) → ℕ → List FieldTree → List Ty
fields_types ty base [] = []
fields_types ty base (f ∷ fs) = part_types ty base f.ty ++ fields_types ty (base + parts f.ty) fs

abbrev pub with_fields_types : (ℕ → TypeTree → Ty) → Declarations → List FieldTree → Declarations
with_fields_types ty d fields = with_types d (fields_types ty (length d.types) fields)

-- a result is field 0, where there is one
abbrev pub success : (ℕ → TypeTree → Ty) → ℕ → Option TypeTree → List FieldInfo
success ty base None = []
success ty base (Some tree) = record { id = pos 0; name = codes "success"; ty = ty base tree; need = needs.Optional } ∷ []

abbrev pub returns_types : (ℕ → TypeTree → Ty) → ℕ → Option TypeTree → List Ty
returns_types ty base None = []
returns_types ty base (Some tree) = part_types ty base tree

abbrev pub with_returns_types : (ℕ → TypeTree → Ty) → Declarations → Option TypeTree → Declarations
with_returns_types ty d returns = with_types d (returns_types ty (length d.types) returns)

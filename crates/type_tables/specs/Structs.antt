-- Structs and enums by their numbers.
use Rattle.std.specs.Prelude.{ℕ, ℤ, zero, suc, List, [], ◌∷◌, length, drop, count_by, Option, Some, None, Bool, true, false, if◌then◌else◌, nat_lt, slice_get}
use Rattle.type_tables.specs.declared.declared.FieldInfo.{FieldInfo}
use Rattle.type_tables.specs.declared.declared.Form.{Form}
use Rattle.type_tables.specs.declared.declared.Form.TheVariants as forms
use Rattle.type_tables.specs.declared.tables.StructDecl.{StructDecl}

abbrev pub own_fields : Option StructDecl → List FieldInfo
own_fields None = []
own_fields (Some t) = t.fields

-- the fields of the struct with this number
abbrev pub fields_of : List StructDecl → ℕ → List FieldInfo
fields_of structs s = own_fields (slice_get structs s)

abbrev pub own_form : Option StructDecl → Option Form
own_form None = None
own_form (Some t) = Some t.form

-- the form of the struct with this number
abbrev pub form_at : List StructDecl → ℕ → Option Form
form_at structs s = own_form (slice_get structs s)

-- the structs, with these fields of one
abbrev pub structs_with : List StructDecl → ℕ → List FieldInfo → List StructDecl
structs_with [] s fields = []
structs_with (t ∷ ts) zero fields = record { form = t.form; fields = fields } ∷ ts
structs_with (t ∷ ts) (suc s) fields = t ∷ structs_with ts s fields

abbrev pub own_members : Option (List ℤ) → List ℤ
own_members None = []
own_members (Some members) = members

-- the numbers of an enum's members
abbrev pub members_of : List (List ℤ) → ℕ → List ℤ
members_of enums e = own_members (slice_get enums e)

abbrev pub is_declared_form : Form → Bool
is_declared_form forms.Struct = true
is_declared_form forms.Union = true
is_declared_form forms.Exception = true
is_declared_form forms.Args = false
is_declared_form forms.Result = false

-- how many structs, unions and exceptions are declared: the built-in one doesn't count
abbrev pub declared_structs : List StructDecl → ℕ
declared_structs structs = count_by (λ t. is_declared_form t.form) (drop 1 structs)

abbrev pub greater : ℕ → ℕ → ℕ
greater m n = if nat_lt m n then n else m

-- the greatest number of fields of one struct
abbrev pub widest_from : ℕ → List StructDecl → ℕ
widest_from most [] = most
widest_from most (t ∷ ts) = widest_from (greater most (length t.fields)) ts

abbrev pub widest : List StructDecl → ℕ
widest structs = widest_from 0 structs

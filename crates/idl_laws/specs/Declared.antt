-- What the tables of a schema have of what the files of an IDL declare.
use Rattle.std.specs.Prelude.{◌≡◌, ℕ, List, [], ◌∷◌, Option, Some, None, is_some, map, slice_get, codes, pos}
use Rattle.idl_document.specs.declared.document.Kin.{Kin}
use Rattle.idl_document.specs.declared.document.Member.{Member}
use Rattle.idl_document.specs.declared.document.Name.{Name}
use Rattle.idl_document.specs.Trees.{DefinitionTree, const_of, typedef_of, enum_of, struct_of, service_of, FieldTree, FunctionTree, TypeTree}
use Rattle.idl_rules.specs.declared.scopes.Scope.TheVariants as scopes
use Rattle.idl_rules.specs.Ids.{counted, id_of}
use Rattle.idl_rules.specs.Values.{member_values}
use Rattle.idl_names.specs.declared.documents.Spot.{Spot}
use Rattle.idl_names.specs.Files.{FileTree}
use Rattle.idl_names.specs.Meaning.{meaning}
use Rattle.idl_names.specs.Targets.{definition_at}
use Rattle.type_tables.specs.declared.declared.FieldInfo.{FieldInfo}
use Rattle.type_tables.specs.declared.declared.Form.{Form}
use Rattle.type_tables.specs.declared.declared.Form.TheVariants as forms
use Rattle.type_tables.specs.declared.declared.MethodInfo.{MethodInfo}
use Rattle.type_tables.specs.declared.declared.Need.TheVariants as needs
use Rattle.type_tables.specs.declared.declared.ServiceId.{ServiceId}
use Rattle.type_tables.specs.declared.declared.Ty.{Ty}
use Rattle.type_tables.specs.declared.services.ServiceDecl.{ServiceDecl}
use Rattle.type_tables.specs.declared.tables.StructDecl.{StructDecl}
use Rattle.type_tables.specs.Declarations.{Declarations}
use Rattle.type_tables.specs.Services.{number}
use Rattle.idl_schema.specs.Fields.{form_of, need_of}
use Rattle.idl_laws.specs.Counts.{enum_number, service_number, struct_number}
use Rattle.idl_laws.specs.Denoted.{IsTypeOf}

module _ (files : List FileTree) (parts : List Ty) (file : ℕ) where
  -- a field that the file at this place declares behind so many without an id
  pub record IsField (before : ℕ) (declared : FieldTree) (field : FieldInfo) : Type 0 where
    pub id : field.id ≡ (id_of before declared).id
    pub name : field.name ≡ declared.name.text
    pub ty : IsTypeOf files parts file declared.ty field.ty
    pub need : field.need ≡ need_of declared.asked

  -- in the order of the text
  abbrev pub AreFields : ℕ → List FieldTree → List FieldInfo → Type 0
  AreFields before [] [] = Unit {0}
  AreFields before [] (i ∷ is) = ⊥
  AreFields before (f ∷ fs) [] = ⊥
  AreFields before (f ∷ fs) (i ∷ is) = IsField before f i × AreFields (counted before f.id) fs is

  -- what a method returns travels as field 0
  pub record IsSuccess (returned : TypeTree) (field : FieldInfo) : Type 0 where
    pub id : field.id ≡ pos 0
    pub name : field.name ≡ codes "success"
    pub ty : IsTypeOf files parts file returned field.ty
    pub need : field.need ≡ needs.Optional

  -- before what it throws; `void` has none
  abbrev pub AreResults : Option TypeTree → List FieldTree → List FieldInfo → Type 0
  AreResults None throws fields = AreFields 0 throws fields
  AreResults (Some returned) throws [] = ⊥
  AreResults (Some returned) throws (i ∷ is) = IsSuccess returned i × AreFields 0 throws is

-- the struct with this number is of this form, and its fields are so
abbrev pub HasStruct : List StructDecl → ℕ → Form → (List FieldInfo → Type 0) → Type 0
HasStruct structs at form P = (s : StructDecl) × (slice_get structs at ≡ Some s) × (s.form ≡ form) × P s.fields

module _ (files : List FileTree) (d : Declarations) where
  -- a method of a service that the file at this place declares
  pub record IsMethod (file : ℕ) (declared : FunctionTree) (name : List ℕ) (method : MethodInfo) : Type 0 where
    pub named : name ≡ declared.name.text
    pub args : HasStruct d.structs method.args.0 forms.Args (AreFields files d.types file 0 declared.args)
    pub result : HasStruct d.structs method.result.0 forms.Result (AreResults files d.types file declared.returns declared.throws)
    pub oneway : method.oneway ≡ is_some declared.oneway

  -- in the order of the text
  abbrev pub AreMethods : ℕ → List FunctionTree → List (List ℕ × MethodInfo) → Type 0
  AreMethods file [] [] = Unit {0}
  AreMethods file [] (m ∷ ms) = ⊥
  AreMethods file (f ∷ fs) [] = ⊥
  AreMethods file (f ∷ fs) (m ∷ ms) = IsMethod file f m.0 m.1 × AreMethods file fs ms

  -- the service that is extended, by its number
  abbrev pub IsBase : ℕ → Option Name → Option ServiceId → Type 0
  IsBase file None base = base ≡ None
  IsBase file (Some name) base = (spot : Spot) × (meaning files file scopes.Services name.text ≡ Some spot) × (base ≡ Some (number (service_number files spot)))

  pub record HasService (spot : Spot) (base : Option Name) (functions : List FunctionTree) : Type 0 where
    pub service : ServiceDecl
    pub stands : slice_get d.services (service_number files spot) ≡ Some service
    pub extends : IsBase spot.file base service.base
    pub methods : AreMethods spot.file functions service.methods

  -- a struct, union or exception
  abbrev pub HasDeclared : Spot → Kin → List FieldTree → Type 0
  HasDeclared spot kin fields = HasStruct d.structs (struct_number files spot) (form_of kin) (AreFields files d.types spot.file 0 fields)

  -- an enum, by the numbers of its members
  abbrev pub HasEnum : Spot → List Member → Type 0
  HasEnum spot members = slice_get d.enums (enum_number files spot) ≡ Some (map (λ v. v.1) (member_values members))

  -- what a definition adds to the tables; constants add nothing, and of a typedef's type only the parts stand there
  abbrev pub HasDefinition : Spot → DefinitionTree → Type 0
  HasDefinition spot (const_of name ty value) = Unit {0}
  HasDefinition spot (typedef_of name ty) = Unit {0}
  HasDefinition spot (enum_of name members) = HasEnum spot members
  HasDefinition spot (struct_of kin name fields) = HasDeclared spot kin fields
  HasDefinition spot (service_of name base functions) = HasService spot base functions

  -- all that the files declare
  abbrev pub HasAll : Type 0
  HasAll = (spot : Spot) (definition : DefinitionTree) → definition_at files spot ≡ Some definition → HasDefinition spot definition

  -- each type in the table of parts is that of a type expression of some file
  abbrev pub ArePartsMeant : Type 0
  ArePartsMeant = (place : ℕ) (ty : Ty) → slice_get d.types place ≡ Some ty → (file : ℕ) × (tree : TypeTree) × IsTypeOf files d.types file tree ty

-- The keys of a struct's value: literals that name its fields.
use Rattle.std.specs.Prelude.{ℕ, zero, suc, List, [], ◌∷◌, Option, Some, None, Result, Ok, Err, if◌then◌else◌, nat_eq}
use Rattle.std.specs.Cmp.Lexicographic.{pointwise}
use Rattle.idl_document.specs.Trees.{DefinitionTree, const_of, struct_of, FieldTree, TypeTree}
use Rattle.idl_document.specs.Item.{ValueItem, literal, named}
use Rattle.idl_rules.specs.declared.scopes.Scope.TheVariants as scopes
use Rattle.idl_names.specs.declared.documents.Spot.{Spot}
use Rattle.idl_names.specs.Files.{FileTree}
use Rattle.idl_names.specs.Meaning.{meaning}
use Rattle.idl_names.specs.Targets.{definition_count}
use Rattle.idl_consts.specs.declared.keys.Written.{Written}
use Rattle.idl_consts.specs.declared.keys.Written.TheVariants as written
use Rattle.idl_consts.specs.declared.row.ConstRow.{ConstRow}
use Rattle.idl_consts.specs.declared.row.ConstRow.TheVariants as rows
use Rattle.idl_consts.specs.Fitting.{any_member, is_truth}
use Rattle.idl_consts.specs.Meant.{Meant, definition_of, type_of}

abbrev pub fields_in : Option DefinitionTree → List FieldTree
fields_in (Some (struct_of kin name fields)) = fields
fields_in definition = []

-- the type of the first field of this name
abbrev pub field_named : List FieldTree → List ℕ → Option TypeTree
field_named [] word = None
field_named (f ∷ fs) word = if pointwise nat_eq (f.name).text word then Some f.ty else field_named fs word

abbrev pub typed_field : List FileTree → ℕ → ConstRow → Option TypeTree → Result Meant ConstRow
typed_field d file row (Some ty) = Ok (type_of d file ty)
typed_field d file row None = Err row

-- what a field of the struct at a spot is, or the row where there is none of this name
unfoldable pub field_type : List FileTree → Spot → ConstRow → List ℕ → Result Meant ConstRow
field_type d s row word = typed_field d s.file row (field_named (fields_in (definition_of d s)) word)

abbrev pub constant_items : Option DefinitionTree → List ValueItem
constant_items (Some (const_of name ty items)) = items
constant_items definition = []

-- the literals that names stand for, by the file in which they are written
abbrev pub NamedLiterals : Type 0
NamedLiterals = ℕ → List ℕ → Option (List ℕ)

-- a literal, or that of a name that is written in a file
abbrev pub literal_by : NamedLiterals → ℕ → List ValueItem → Option (List ℕ)
literal_by again file (literal at text ∷ []) = Some text
literal_by again file (named at word ∷ []) = again file word
literal_by again file items = None

abbrev pub spot_literal : List FileTree → NamedLiterals → Option Spot → Option (List ℕ)
spot_literal d again None = None
spot_literal d again (Some spot) = literal_by again spot.file (constant_items (definition_of d spot))

-- the literal that a name stands for, where no more than so many names are followed
abbrev pub named_literal : List FileTree → ℕ → ℕ → List ℕ → Option (List ℕ)
named_literal d zero file word = None
named_literal d (suc left) file word = if is_truth word then None else spot_literal d (named_literal d left) (meaning d file scopes.Constants word)

-- the literal that the constant at a spot stands for
abbrev pub literal_at : List FileTree → ℕ → Spot → Option (List ℕ)
literal_at d left spot = spot_literal d (named_literal d left) (Some spot)

abbrev pub key_by_text : List FileTree → Spot → Option (List ℕ) → Result Meant ConstRow
key_by_text d s (Some text) = field_type d s rows.WrongForm text
key_by_text d s None = Err rows.WrongForm

abbrev pub key_by_member : {X : Type 0} → Option X → Result Meant ConstRow
key_by_member (Some found) = Err rows.WrongForm
key_by_member None = Err rows.UnknownConstant

abbrev pub key_by_constant : List FileTree → Spot → Option Spot → Result Meant ConstRow → Result Meant ConstRow
key_by_constant d s (Some spot) other = key_by_text d s (literal_at d (definition_count d) spot)
key_by_constant d s None other = other

-- a name stands for its constant's literal
unfoldable pub key_by_name : List FileTree → ℕ → Spot → List ℕ → Result Meant ConstRow
key_by_name d file s word =
    if is_truth word then Err rows.WrongForm
    else key_by_constant d s (meaning d file scopes.Constants word) (key_by_member (any_member d file word))

-- the type of the field that a key names, or why it names none
abbrev pub key_answer : List FileTree → ℕ → Spot → ValueItem → Result Meant ConstRow
key_answer d file s (literal at text) = field_type d s rows.UnknownField text
key_answer d file s (named at word) = key_by_name d file s word
key_answer d file s item = Err rows.WrongForm

-- the literal of what a constant is written as
abbrev pub written_literal : NamedLiterals → ℕ → Written → Option (List ℕ)
written_literal again file (written.Literal text) = Some text.now
written_literal again file (written.Name word) = again file word.now
written_literal again file written.Other = None

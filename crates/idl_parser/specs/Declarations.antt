-- Enums and the other declarations, in a list of tokens.
use Rattle.std.specs.Prelude.{ℕ, ℤ, ◌+◌, if◌then◌else◌, List, drop, Option, Some, None, Ok}
use Rattle.idl_document.specs.declared.document.Kin.{Kin}
use Rattle.idl_document.specs.declared.document.Kin.TheVariants as kins
use Rattle.idl_document.specs.declared.document.Member.{Member}
use Rattle.idl_document.specs.declared.document.Name.{Name}
use Rattle.idl_document.specs.Item.{ValueItem}
use Rattle.idl_document.specs.Items.{items_of_value}
use Rattle.idl_document.specs.Trees.{DefinitionTree, const_of, typedef_of, enum_of, struct_of, service_of, FieldTree, FunctionTree, function_trees}
use Rattle.idl_parser.specs.declared.definitions.NamedValue.{NamedValue}
use Rattle.idl_parser.specs.declared.definitions.ServiceBody.{ServiceBody}
use Rattle.idl_parser.specs.declared.tokens.Lexeme.{Lexeme}
use Rattle.idl_parser.specs.declared.tokens.Lexeme.TheVariants as lexemes
use Rattle.idl_parser.specs.declared.words.Keyword.TheVariants as keywords
use Rattle.idl_parser.specs.Fields.{body_end_at, fields_in, name_at, noted_name_at, path_at, tail_at}
use Rattle.idl_parser.specs.Functions.{functions_in}
use Rattle.idl_parser.specs.Lexemes.{Scan, lexeme_of, offset_of, syntax_at, onward, mark_at, stands, sep_len}
use Rattle.idl_parser.specs.Marks.{curly_close, curly_open, equals_mark, most_levels}
use Rattle.idl_parser.specs.Notes.{notes_at, not_closed}
use Rattle.idl_parser.specs.Run.{run, listed}
use Rattle.idl_parser.specs.Seen.{Seen}
use Rattle.idl_parser.specs.Types.{type_at}
use Rattle.idl_parser.specs.Values.{value_at}

abbrev pub int_by : Lexeme → ℕ → List Seen → Scan ℤ
int_by (lexemes.Int z) edge tokens = Ok (z, 1)
int_by lexeme edge tokens = syntax_at edge tokens

-- one whole number
unfoldable pub int_at : ℕ → List Seen → Scan ℤ
int_at edge tokens = int_by (lexeme_of tokens) edge tokens

unfoldable pub number_at : ℕ → List Seen → Scan (Option ℤ)
number_at edge tokens = if stands equals_mark tokens then (onward 1 (int_at edge (drop 1 tokens)) λ z n. Ok (Some z, n)) else Ok (None, 0)

unfoldable pub member_at : ℕ → List Seen → Scan Member
member_at edge tokens =
    onward 0 (name_at edge tokens) λ name n.
    onward n (number_at edge (drop n tokens)) λ value n.
    onward n (tail_at edge (drop n tokens)) λ u n.
    Ok (record { name = name; value = value }, n)

abbrev pub one_member : ℕ → List Seen → Scan (List Member)
one_member edge tokens = listed (member_at edge tokens)

-- members in curly brackets, and notes
unfoldable pub members_in : ℕ → List Seen → Scan (List Member)
members_in edge tokens =
    onward 0 (mark_at curly_open edge tokens) λ u n.
    onward n (run (not_closed curly_close) (one_member edge) edge (drop n tokens) 0) λ members n.
    onward n (body_end_at edge (drop n tokens)) λ u n.
    Ok (members, n)

abbrev pub extends_by : Lexeme → ℕ → List Seen → Scan (Option Name)
extends_by (lexemes.Keyword keywords.Extends) edge tokens = onward 1 (path_at edge (drop 1 tokens)) λ base n. Ok (Some base, n)
extends_by lexeme edge tokens = Ok (None, 0)

-- `extends` and a name, where that word stands
unfoldable pub extends_at : ℕ → List Seen → Scan (Option Name)
extends_at edge tokens = extends_by (lexeme_of tokens) edge tokens

-- what stands behind a constant's type
pub record NamedValueTree : Type 0 where
  pub name : Name
  pub value : List ValueItem

abbrev pub named_value_tree : NamedValue → NamedValueTree
named_value_tree c = record { name = c.name; value = items_of_value c.value }

-- `=` and a value
unfoldable pub equal_value_at : ℕ → List Seen → Scan (List ValueItem)
equal_value_at edge tokens =
    onward 0 (mark_at equals_mark edge tokens) λ u n.
    onward n (value_at most_levels edge (drop n tokens)) λ value n.
    Ok (value, n)

unfoldable pub named_value_at : ℕ → List Seen → Scan NamedValueTree
named_value_at edge tokens =
    onward 0 (name_at edge tokens) λ name n.
    onward n (equal_value_at edge (drop n tokens)) λ value n.
    Ok (record { name = name; value = value }, n)

unfoldable pub const_at : ℕ → List Seen → Scan DefinitionTree
const_at edge tokens =
    onward 1 (type_at most_levels edge (drop 1 tokens)) λ ty n.
    onward n (named_value_at edge (drop n tokens)) λ named n.
    Ok (const_of named.name ty named.value, n)

unfoldable pub typedef_at : ℕ → List Seen → Scan DefinitionTree
typedef_at edge tokens =
    onward 1 (type_at most_levels edge (drop 1 tokens)) λ ty n.
    onward n (noted_name_at edge (drop n tokens)) λ name n.
    Ok (typedef_of name ty, n)

unfoldable pub enum_at : ℕ → List Seen → Scan DefinitionTree
enum_at edge tokens =
    onward 1 (name_at edge (drop 1 tokens)) λ name n.
    onward n (members_in edge (drop n tokens)) λ members n.
    Ok (enum_of name members, n)

-- fields in curly brackets, and notes
unfoldable pub struct_body_at : ℕ → List Seen → Scan (List FieldTree)
struct_body_at edge tokens =
    onward 0 (fields_in curly_open curly_close edge tokens) λ fields n.
    onward n (notes_at edge (drop n tokens)) λ u n.
    Ok (fields, n)

unfoldable pub struct_at : Kin → ℕ → List Seen → Scan DefinitionTree
struct_at kin edge tokens =
    onward 1 (name_at edge (drop 1 tokens)) λ name n.
    onward n (struct_body_at edge (drop n tokens)) λ fields n.
    Ok (struct_of kin name fields, n)

-- what stands behind a service's name
pub record ServiceBodyTree : Type 0 where
  pub base : Option Name
  pub functions : List FunctionTree

abbrev pub service_body_tree : ServiceBody → ServiceBodyTree
service_body_tree s = record { base = s.base; functions = function_trees s.functions }

unfoldable pub service_body_at : ℕ → List Seen → Scan ServiceBodyTree
service_body_at edge tokens =
    onward 0 (extends_at edge tokens) λ base n.
    onward n (functions_in edge (drop n tokens)) λ functions n.
    Ok (record { base = base; functions = functions }, n)

unfoldable pub service_at : ℕ → List Seen → Scan DefinitionTree
service_at edge tokens =
    onward 1 (name_at edge (drop 1 tokens)) λ name n.
    onward n (service_body_at edge (drop n tokens)) λ body n.
    Ok (service_of name body.base body.functions, n)

abbrev pub definition_by : Lexeme → ℕ → List Seen → Scan DefinitionTree
definition_by (lexemes.Keyword keywords.Const) edge tokens = const_at edge tokens
definition_by (lexemes.Keyword keywords.Typedef) edge tokens = typedef_at edge tokens
definition_by (lexemes.Keyword keywords.Enum) edge tokens = enum_at edge tokens
definition_by (lexemes.Keyword keywords.Struct) edge tokens = struct_at kins.Struct edge tokens
definition_by (lexemes.Keyword keywords.Union) edge tokens = struct_at kins.Union edge tokens
definition_by (lexemes.Keyword keywords.Exception) edge tokens = struct_at kins.Exception edge tokens
definition_by (lexemes.Keyword keywords.Service) edge tokens = service_at edge tokens
definition_by lexeme edge tokens = syntax_at edge tokens

unfoldable pub declared_at : ℕ → List Seen → Scan DefinitionTree
declared_at edge tokens = definition_by (lexeme_of tokens) edge tokens

unfoldable pub definition_at : ℕ → List Seen → Scan DefinitionTree
definition_at edge tokens =
    onward 0 (declared_at edge tokens) λ definition n.
    Ok (definition, n + sep_len (drop n tokens))

abbrev pub one_definition : ℕ → List Seen → Scan (List DefinitionTree)
one_definition edge tokens = listed (definition_at edge tokens)

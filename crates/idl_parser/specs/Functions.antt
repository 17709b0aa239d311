-- The methods of services, in a list of tokens.
use Rattle.std.specs.Prelude.{ℕ, List, [], drop, Option, Some, None, Ok}
use Rattle.idl_document.specs.declared.document.Name.{Name}
use Rattle.idl_document.specs.Trees.{FieldTree, field_trees, FunctionTree, TypeTree}
use Rattle.idl_parser.specs.declared.functions.FieldLists.{FieldLists}
use Rattle.idl_parser.specs.declared.functions.Signature.{Signature}
use Rattle.idl_parser.specs.declared.tokens.Lexeme.{Lexeme}
use Rattle.idl_parser.specs.declared.tokens.Lexeme.TheVariants as lexemes
use Rattle.idl_parser.specs.declared.words.Keyword.TheVariants as keywords
use Rattle.idl_parser.specs.Fields.{body_end_at, fields_in, name_at, tail_at}
use Rattle.idl_parser.specs.Lexemes.{Scan, lexeme_of, offset_of, onward, mark_at}
use Rattle.idl_parser.specs.Marks.{curly_close, curly_open, most_levels, round_close, round_open}
use Rattle.idl_parser.specs.Notes.{not_closed}
use Rattle.idl_parser.specs.Run.{run, listed}
use Rattle.idl_parser.specs.Seen.{Seen}
use Rattle.idl_parser.specs.Types.{type_at}

abbrev pub oneway_by : Lexeme → ℕ → List Seen → Scan (Option ℕ)
oneway_by (lexemes.Keyword keywords.Oneway) edge tokens = Ok (Some (offset_of edge tokens), 1)
oneway_by lexeme edge tokens = Ok (None, 0)

-- the word `oneway` with its offset, where it stands
unfoldable pub oneway_at : ℕ → List Seen → Scan (Option ℕ)
oneway_at edge tokens = oneway_by (lexeme_of tokens) edge tokens

abbrev pub returns_by : Lexeme → ℕ → List Seen → Scan (Option TypeTree)
returns_by (lexemes.Keyword keywords.Void) edge tokens = Ok (None, 1)
returns_by lexeme edge tokens = onward 0 (type_at most_levels edge tokens) λ ty n. Ok (Some ty, n)

-- a type, or `void`
unfoldable pub returns_at : ℕ → List Seen → Scan (Option TypeTree)
returns_at edge tokens = returns_by (lexeme_of tokens) edge tokens

abbrev pub throws_by : Lexeme → ℕ → List Seen → Scan (List FieldTree)
throws_by (lexemes.Keyword keywords.Throws) edge tokens = onward 1 (fields_in round_open round_close edge (drop 1 tokens)) λ fields n. Ok (fields, n)
throws_by lexeme edge tokens = Ok ([], 0)

-- `throws` and fields in round brackets, where that word stands
unfoldable pub throws_at : ℕ → List Seen → Scan (List FieldTree)
throws_at edge tokens = throws_by (lexeme_of tokens) edge tokens

-- what a method throws, with the notes and the separator that end it
unfoldable pub last_throws_at : ℕ → List Seen → Scan (List FieldTree)
last_throws_at edge tokens =
    onward 0 (throws_at edge tokens) λ throws n.
    onward n (tail_at edge (drop n tokens)) λ u n.
    Ok (throws, n)

-- what stands behind a method's name
pub record FieldListsTree : Type 0 where
  pub args : List FieldTree
  pub throws : List FieldTree

abbrev pub field_lists_tree : FieldLists → FieldListsTree
field_lists_tree l = record { args = field_trees l.args; throws = field_trees l.throws }

unfoldable pub field_lists_at : ℕ → List Seen → Scan FieldListsTree
field_lists_at edge tokens =
    onward 0 (fields_in round_open round_close edge tokens) λ args n.
    onward n (last_throws_at edge (drop n tokens)) λ throws n.
    Ok (record { args = args; throws = throws }, n)

-- what stands behind the type that a method returns
pub record SignatureTree : Type 0 where
  pub name : Name
  pub lists : FieldListsTree

abbrev pub signature_tree : Signature → SignatureTree
signature_tree s = record { name = s.name; lists = field_lists_tree s.lists }

unfoldable pub signature_at : ℕ → List Seen → Scan SignatureTree
signature_at edge tokens =
    onward 0 (name_at edge tokens) λ name n.
    onward n (field_lists_at edge (drop n tokens)) λ lists n.
    Ok (record { name = name; lists = lists }, n)

unfoldable pub function_at : ℕ → List Seen → Scan FunctionTree
function_at edge tokens =
    onward 0 (oneway_at edge tokens) λ oneway n.
    onward n (returns_at edge (drop n tokens)) λ returns n.
    onward n (signature_at edge (drop n tokens)) λ s n.
    Ok (record { oneway = oneway; returns = returns; name = s.name; args = s.lists.args; throws = s.lists.throws }, n)

abbrev pub one_function : ℕ → List Seen → Scan (List FunctionTree)
one_function edge tokens = listed (function_at edge tokens)

-- methods in curly brackets, and notes
unfoldable pub functions_in : ℕ → List Seen → Scan (List FunctionTree)
functions_in edge tokens =
    onward 0 (mark_at curly_open edge tokens) λ u n.
    onward n (run (not_closed curly_close) (one_function edge) edge (drop n tokens) 0) λ functions n.
    onward n (body_end_at edge (drop n tokens)) λ u n.
    Ok (functions, n)

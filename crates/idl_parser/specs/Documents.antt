-- The document of a text, or its first fault.
use Rattle.std.specs.Prelude.{◌≡◌, ℕ, ◌+◌, List, [], ◌∷◌, length, drop, if◌then◌else◌, Bool, true, false, Option, Some, None, Result, Ok, Err}
use Rattle.idl_lexer.specs.Tokens.{Read, tokens_of}
use Rattle.idl_document.specs.declared.document.Document.{Document}
use Rattle.idl_document.specs.declared.document.Name.{Name}
use Rattle.idl_parser.specs.declared.fault.Fault.TheVariants as faults
use Rattle.idl_parser.specs.declared.fault.ParseError.{ParseError}
use Rattle.idl_parser.specs.declared.fault.ParseError.TheVariants as errors
use Rattle.idl_parser.specs.declared.fault.Stop.{Stop}
use Rattle.idl_parser.specs.declared.fault.Stop.TheVariants as stops
use Rattle.idl_parser.specs.declared.tokens.Lexeme.{Lexeme}
use Rattle.idl_parser.specs.declared.tokens.Lexeme.TheVariants as lexemes
use Rattle.idl_parser.specs.declared.words.Keyword.TheVariants as keywords
use Rattle.idl_parser.specs.Cpp.{literal_at, id_at}
use Rattle.idl_parser.specs.Declarations.{one_definition}
use Rattle.idl_document.specs.Trees.{DocumentTree, document_tree}
use Rattle.idl_parser.specs.Lexemes.{Scan, lexeme_of, offset_of, word_of, syntax_at, onward, is_left, stands, sep_len}
use Rattle.idl_parser.specs.Marks.{star_mark}
use Rattle.idl_parser.specs.Notes.{notes_at}
use Rattle.idl_parser.specs.Run.{run}
use Rattle.idl_parser.specs.Seeing.{seen_all}
use Rattle.idl_parser.specs.Seen.{Seen}

abbrev pub include_by : Lexeme → ℕ → List Seen → Scan (List Name)
include_by lexemes.Literal edge tokens = Ok (record { at = offset_of edge tokens; text = word_of tokens } ∷ [], 1)
include_by lexeme edge tokens = syntax_at edge tokens

-- the path of an include, at its literal
unfoldable pub include_at : ℕ → List Seen → Scan (List Name)
include_at edge tokens = include_by (lexeme_of tokens) edge tokens

-- a star, or a name
unfoldable pub scope_at : ℕ → List Seen → Scan (Unit {0})
scope_at edge tokens = if stands star_mark tokens then Ok (tt, 1) else id_at edge tokens

-- behind the word `namespace`
unfoldable pub namespace_at : ℕ → List Seen → Scan (Unit {0})
namespace_at edge tokens =
    onward 1 (scope_at edge (drop 1 tokens)) λ u n.
    onward n (id_at edge (drop n tokens)) λ u n.
    onward n (notes_at edge (drop n tokens)) λ u n.
    Ok (tt, n)

abbrev pub header_by : Lexeme → ℕ → List Seen → Scan (List Name)
header_by (lexemes.Keyword keywords.Include) edge tokens = onward 1 (include_at edge (drop 1 tokens)) λ path n. Ok (path, n)
header_by (lexemes.Keyword keywords.CppInclude) edge tokens = onward 1 (literal_at edge (drop 1 tokens)) λ u n. Ok ([], n)
header_by (lexemes.Keyword keywords.Namespace) edge tokens = onward 0 (namespace_at edge tokens) λ u n. Ok ([], n)
header_by lexeme edge tokens = syntax_at edge tokens

unfoldable pub told_at : ℕ → List Seen → Scan (List Name)
told_at edge tokens = header_by (lexeme_of tokens) edge tokens

-- a header, with the path where it is an include
unfoldable pub header_at : ℕ → List Seen → Scan (List Name)
header_at edge tokens =
    onward 0 (told_at edge tokens) λ path n.
    Ok (path, n + sep_len (drop n tokens))

abbrev pub is_header_by : Lexeme → Bool
is_header_by (lexemes.Keyword keywords.Include) = true
is_header_by (lexemes.Keyword keywords.CppInclude) = true
is_header_by (lexemes.Keyword keywords.Namespace) = true
is_header_by lexeme = false

-- whether a header begins here
unfoldable pub is_header : List Seen → Bool
is_header tokens = is_header_by (lexeme_of tokens)

unfoldable pub document_at : ℕ → List Seen → Scan DocumentTree
document_at edge tokens =
    onward 0 (run is_header (header_at edge) edge tokens 0) λ includes n.
    onward n (run is_left (one_definition edge) edge (drop n tokens) 0) λ definitions n.
    Ok (record { includes = includes; definitions = definitions }, n)

abbrev pub Parsed : Type 0
Parsed = Result DocumentTree ParseError

abbrev pub as_parsed : Scan DocumentTree → Parsed
as_parsed (Ok x) = Ok x.0
as_parsed (Err (faults.Syntax at)) = Err (errors.Syntax at)
as_parsed (Err (faults.Nested at)) = Err (errors.Nested at)

-- what is told of why nothing was read
abbrev pub told : Stop → ParseError
told (stops.Fault (faults.Syntax at)) = errors.Syntax at
told (stops.Fault (faults.Nested at)) = errors.Nested at
told stops.OutOfMemory = errors.OutOfMemory

-- a lexical fault goes before all others
abbrev pub parsed_by : List ℕ → Read → Parsed
parsed_by text (Ok tokens) = as_parsed (document_at (length text) (seen_all text tokens))
parsed_by text (Err fault) = Err (errors.Lex fault)

-- what a text is: its document, or its first fault
unfoldable pub parsed : List ℕ → Parsed
parsed text = parsed_by text (tokens_of text)

-- what a function returned is what the text is, unless memory ran out
abbrev pub Parses : Result Document ParseError → Parsed → Type 0
Parses (Ok document) read = read ≡ Ok (document_tree document)
Parses (Err errors.OutOfMemory) read = Unit {0}
Parses (Err error) read = read ≡ Err error

-- the path of a header that has one
abbrev pub listed_path : Option Name → List Name
listed_path None = []
listed_path (Some path) = path ∷ []

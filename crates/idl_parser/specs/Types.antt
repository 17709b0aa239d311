-- Types in a list of tokens.
use Rattle.std.specs.Prelude.{ℕ, zero, suc, ◌-◌, ◌==◌, if◌then◌else◌, List, drop, Ok, Err}
use Rattle.idl_parser.specs.declared.fault.Fault.TheVariants as faults
use Rattle.idl_parser.specs.declared.tokens.Lexeme.{Lexeme}
use Rattle.idl_parser.specs.declared.tokens.Lexeme.TheVariants as lexemes
use Rattle.idl_parser.specs.declared.words.Keyword.TheVariants as keywords
use Rattle.idl_parser.specs.Lexemes.{Scan, lexeme_of, offset_of, word_of, syntax_at, onward, mark_at}
use Rattle.idl_parser.specs.Marks.{angle_close, angle_open, comma_mark}
use Rattle.idl_parser.specs.Notes.{notes_at}
use Rattle.idl_parser.specs.Cpp.{cpp_at}
use Rattle.idl_parser.specs.Seen.{Seen}
use Rattle.idl_document.specs.Trees.{TypeTree, base_at, named_at, map_at, set_at, list_at}

abbrev pub Inner : Type 0
Inner = List Seen → Scan TypeTree

-- an inner type, and the mark behind it
unfoldable pub type_until : ℕ → Inner → ℕ → List Seen → Scan TypeTree
type_until closing inner edge tokens =
    onward 0 (inner tokens) λ ty n.
    onward n (mark_at closing edge (drop n tokens)) λ u n.
    Ok (ty, n)

-- the word `map`, `set` or `list`, up to the opening mark
unfoldable pub opening_at : ℕ → List Seen → Scan (Unit {0})
opening_at edge tokens =
    onward 1 (cpp_at edge (drop 1 tokens)) λ u n.
    onward n (mark_at angle_open edge (drop n tokens)) λ u n.
    Ok (tt, n)

-- behind the word `map`, for an inner type that is read so
unfoldable pub map_of : Inner → ℕ → List Seen → Scan TypeTree
map_of inner edge tokens =
    onward 0 (opening_at edge tokens) λ u n.
    onward n (type_until comma_mark inner edge (drop n tokens)) λ key n.
    onward n (type_until angle_close inner edge (drop n tokens)) λ value n.
    Ok (map_at (offset_of edge tokens) key value, n)

-- behind the word `set` or `list`, up to the closing mark
unfoldable pub element_of : Inner → ℕ → List Seen → Scan TypeTree
element_of inner edge tokens =
    onward 0 (opening_at edge tokens) λ u n.
    onward n (type_until angle_close inner edge (drop n tokens)) λ element n.
    Ok (element, n)

-- behind the word `set`
unfoldable pub set_of : Inner → ℕ → List Seen → Scan TypeTree
set_of inner edge tokens =
    onward 0 (element_of inner edge tokens) λ element n.
    Ok (set_at (offset_of edge tokens) element, n)

-- behind the word `list`
unfoldable pub list_of : Inner → ℕ → List Seen → Scan TypeTree
list_of inner edge tokens =
    onward 0 (element_of inner edge tokens) λ element n.
    onward n (cpp_at edge (drop n tokens)) λ u n.
    Ok (list_at (offset_of edge tokens) element, n)

-- what opens a level, where one is left
abbrev pub opened : ℕ → Scan TypeTree → ℕ → List Seen → Scan TypeTree
opened levels scan edge tokens = if levels == 0 then Err (faults.Nested (offset_of edge tokens)) else scan

abbrev pub form_by : ℕ → Inner → Lexeme → ℕ → List Seen → Scan TypeTree
form_by levels inner (lexemes.Keyword (keywords.Base word)) edge tokens = Ok (base_at (offset_of edge tokens) word, 1)
form_by levels inner lexemes.Name edge tokens = Ok (named_at (offset_of edge tokens) (word_of tokens), 1)
form_by levels inner (lexemes.Keyword keywords.Map) edge tokens = opened levels (map_of inner edge tokens) edge tokens
form_by levels inner (lexemes.Keyword keywords.Set) edge tokens = opened levels (set_of inner edge tokens) edge tokens
form_by levels inner (lexemes.Keyword keywords.List) edge tokens = opened levels (list_of inner edge tokens) edge tokens
form_by levels inner lexeme edge tokens = syntax_at edge tokens

unfoldable pub form_at : ℕ → Inner → ℕ → List Seen → Scan TypeTree
form_at levels inner edge tokens = form_by levels inner (lexeme_of tokens) edge tokens

-- a type of this form, and its notes
unfoldable pub type_by : ℕ → Inner → ℕ → List Seen → Scan TypeTree
type_by levels inner edge tokens =
    onward 0 (form_at levels inner edge tokens) λ tree n.
    onward n (notes_at edge (drop n tokens)) λ u n.
    Ok (tree, n)

-- a type with so many levels left below it
unfoldable pub type_at : ℕ → ℕ → List Seen → Scan TypeTree
type_at zero edge tokens = type_by 0 (syntax_at edge) edge tokens
type_at (suc levels) edge tokens = type_by (suc levels) (type_at levels edge) edge tokens

-- the same without a case on the levels
unfoldable pub type_step : ℕ → ℕ → List Seen → Scan TypeTree
type_step levels edge tokens = type_by levels (type_at (levels - 1) edge) edge tokens

-- Constant values in a list of tokens.
use Rattle.std.specs.Prelude.{ℕ, zero, suc, ◌+◌, ◌-◌, ◌==◌, if◌then◌else◌, List, [], ◌∷◌, ◌++◌, drop, Ok, Err}
use Rattle.idl_parser.specs.declared.fault.Fault.TheVariants as faults
use Rattle.idl_parser.specs.declared.tokens.Lexeme.{Lexeme}
use Rattle.idl_parser.specs.declared.tokens.Lexeme.TheVariants as lexemes
use Rattle.idl_document.specs.Item.{ValueItem, whole, double, literal, named, list_begin, list_end, map_begin, map_end}
use Rattle.idl_parser.specs.Lexemes.{Scan, lexeme_of, offset_of, word_of, syntax_at, onward, mark_at, sep_len}
use Rattle.idl_parser.specs.Marks.{colon_mark, curly_close, curly_open, square_close, square_open}
use Rattle.idl_parser.specs.Notes.{not_closed}
use Rattle.idl_parser.specs.Run.{run}
use Rattle.idl_parser.specs.Seen.{Seen}

abbrev pub Inner : Type 0
Inner = List Seen → Scan (List ValueItem)

-- an element: a value, and a separator where one stands
unfoldable pub element_of : Inner → List Seen → Scan (List ValueItem)
element_of inner tokens = onward 0 (inner tokens) λ value n. Ok (value, n + sep_len (drop n tokens))

-- a key, and the colon behind it
unfoldable pub key_at : Inner → ℕ → List Seen → Scan (List ValueItem)
key_at inner edge tokens =
    onward 0 (inner tokens) λ key n.
    onward n (mark_at colon_mark edge (drop n tokens)) λ u n.
    Ok (key, n)

-- a key with its value, and a separator where one stands
unfoldable pub pair_of : Inner → ℕ → List Seen → Scan (List ValueItem)
pair_of inner edge tokens =
    onward 0 (key_at inner edge tokens) λ key n.
    onward n (element_of inner (drop n tokens)) λ value n.
    Ok (key ++ value, n)

-- behind the mark that opens a list
unfoldable pub list_of : Inner → ℕ → List Seen → Scan (List ValueItem)
list_of inner edge tokens =
    onward 1 (run (not_closed square_close) (element_of inner) edge (drop 1 tokens) 0) λ items n.
    onward n (mark_at square_close edge (drop n tokens)) λ u n.
    Ok (list_begin (offset_of edge tokens) ∷ (items ++ list_end ∷ []), n)

-- pairs as long as the map is not closed
abbrev pub pairs_of : Inner → ℕ → List Seen → Scan (List ValueItem)
pairs_of inner edge tokens = run (not_closed curly_close) (pair_of inner edge) edge tokens 0

-- behind the mark that opens a map
unfoldable pub map_of : Inner → ℕ → List Seen → Scan (List ValueItem)
map_of inner edge tokens =
    onward 1 (pairs_of inner edge (drop 1 tokens)) λ items n.
    onward n (mark_at curly_close edge (drop n tokens)) λ u n.
    Ok (map_begin (offset_of edge tokens) ∷ (items ++ map_end ∷ []), n)

-- what opens a level, where one is left
abbrev pub opened : ℕ → Scan (List ValueItem) → ℕ → List Seen → Scan (List ValueItem)
opened levels scan edge tokens = if levels == 0 then Err (faults.Nested (offset_of edge tokens)) else scan

abbrev pub value_by : ℕ → Inner → Lexeme → ℕ → List Seen → Scan (List ValueItem)
value_by levels inner (lexemes.Int z) edge tokens = Ok (whole (offset_of edge tokens) z ∷ [], 1)
value_by levels inner lexemes.Double edge tokens = Ok (double (offset_of edge tokens) (word_of tokens) ∷ [], 1)
value_by levels inner lexemes.Literal edge tokens = Ok (literal (offset_of edge tokens) (word_of tokens) ∷ [], 1)
value_by levels inner lexemes.Name edge tokens = Ok (named (offset_of edge tokens) (word_of tokens) ∷ [], 1)
value_by levels inner (lexemes.Mark mark) edge tokens =
    if mark == square_open then opened levels (list_of inner edge tokens) edge tokens
    else if mark == curly_open then opened levels (map_of inner edge tokens) edge tokens
    else syntax_at edge tokens
value_by levels inner lexeme edge tokens = syntax_at edge tokens

-- a value with so many levels left below it
unfoldable pub value_at : ℕ → ℕ → List Seen → Scan (List ValueItem)
value_at zero edge tokens = value_by 0 (syntax_at edge) (lexeme_of tokens) edge tokens
value_at (suc levels) edge tokens = value_by (suc levels) (value_at levels edge) (lexeme_of tokens) edge tokens

-- the same without a case on the levels
unfoldable pub value_step : ℕ → ℕ → List Seen → Scan (List ValueItem)
value_step levels edge tokens = value_by levels (value_at (levels - 1) edge) (lexeme_of tokens) edge tokens

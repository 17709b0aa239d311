-- Single tokens, and parts that have no meaning.
use Rattle.std.specs.Prelude.{ℕ, List, drop, Ok, if◌then◌else◌}
use Rattle.idl_parser.specs.declared.tokens.Lexeme.{Lexeme}
use Rattle.idl_parser.specs.declared.tokens.Lexeme.TheVariants as lexemes
use Rattle.idl_parser.specs.declared.words.Keyword.TheVariants as keywords
use Rattle.idl_parser.specs.Lexemes.{Scan, lexeme_of, syntax_at, onward, stands}
use Rattle.idl_parser.specs.Marks.{equals_mark}
use Rattle.idl_parser.specs.Seen.{Seen}

abbrev pub literal_by : Lexeme → ℕ → List Seen → Scan (Unit {0})
literal_by lexemes.Literal edge tokens = Ok (tt, 1)
literal_by lexeme edge tokens = syntax_at edge tokens

-- one literal
unfoldable pub literal_at : ℕ → List Seen → Scan (Unit {0})
literal_at edge tokens = literal_by (lexeme_of tokens) edge tokens

abbrev pub id_by : Lexeme → ℕ → List Seen → Scan (Unit {0})
id_by lexemes.Name edge tokens = Ok (tt, 1)
id_by lexeme edge tokens = syntax_at edge tokens

-- one word that is no keyword
unfoldable pub id_at : ℕ → List Seen → Scan (Unit {0})
id_at edge tokens = id_by (lexeme_of tokens) edge tokens

abbrev pub cpp_by : Lexeme → ℕ → List Seen → Scan (Unit {0})
cpp_by (lexemes.Keyword keywords.CppType) edge tokens = onward 1 (literal_at edge (drop 1 tokens)) λ u n. Ok (tt, n)
cpp_by lexeme edge tokens = Ok (tt, 0)

-- `cpp_type` and a literal, where that word stands
unfoldable pub cpp_at : ℕ → List Seen → Scan (Unit {0})
cpp_at edge tokens = cpp_by (lexeme_of tokens) edge tokens

-- `=` and a literal, where that mark stands
unfoldable pub equal_at : ℕ → List Seen → Scan (Unit {0})
equal_at edge tokens = if stands equals_mark tokens then (onward 1 (literal_at edge (drop 1 tokens)) λ u n. Ok (tt, n)) else Ok (tt, 0)

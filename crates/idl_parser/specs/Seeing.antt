-- How tokens are seen.
use Rattle.std.specs.Prelude.{ℕ, ◌+◌, ◌-◌, ◌≤◌, List, length, take, drop, map, All, Option, Some, None}
use Rattle.idl_lexer.specs.declared.token.Token.{Token}
use Rattle.idl_lexer.specs.declared.token.TokenForm.{TokenForm}
use Rattle.idl_lexer.specs.declared.token.TokenForm.TheVariants as forms
use Rattle.idl_parser.specs.declared.tokens.Lexeme.{Lexeme}
use Rattle.idl_parser.specs.declared.tokens.Lexeme.TheVariants as lexemes
use Rattle.idl_parser.specs.declared.words.Keyword.{Keyword}
use Rattle.idl_parser.specs.Seen.{Seen}
use Rattle.idl_parser.specs.Words.{keyword_of}

-- the bytes that a token stands on
abbrev pub bytes_of : List ℕ → Token → List ℕ
bytes_of text token = take token.len (drop token.from text)

abbrev pub word_lexeme : Option Keyword → Lexeme
word_lexeme None = lexemes.Name
word_lexeme (Some keyword) = lexemes.Keyword keyword

abbrev pub form_lexeme : TokenForm → List ℕ → Lexeme
form_lexeme forms.Word word = word_lexeme (keyword_of word)
form_lexeme (forms.Int value) word = lexemes.Int value
form_lexeme forms.Double word = lexemes.Double
form_lexeme forms.Literal word = lexemes.Literal
form_lexeme (forms.Mark mark) word = lexemes.Mark mark

-- a literal without its quotes
abbrev pub between : List ℕ → List ℕ
between bytes = take (length bytes - 2) (drop 1 bytes)

-- the word that a token of this form stands for
abbrev pub form_word : TokenForm → List ℕ → List ℕ
form_word forms.Literal bytes = between bytes
form_word form bytes = bytes

abbrev pub seen_of : List ℕ → Token → Seen
seen_of text token = record { at = token.from; lexeme = form_lexeme token.form (bytes_of text token); word = form_word token.form (bytes_of text token) }

abbrev pub seen_all : List ℕ → List Token → List Seen
seen_all text tokens = map (seen_of text) tokens

-- each token lies in a text of this length
abbrev pub IsInside : ℕ → List Token → Type 0
IsInside size tokens = All (λ t. t.from + t.len ≤ size) tokens

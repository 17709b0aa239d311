-- What the grammar sees of a text: its tokens, each with its offset and its word, and where the text ends.
use Rattle.std.specs.Prelude.{ℕ, List}
use Rattle.idl_parser.specs.declared.tokens.Lexeme.{Lexeme}

pub record Seen : Type 0 where
  pub at : ℕ
  pub lexeme : Lexeme
  pub word : List ℕ

pub record Input : Type 0 where
  pub list : List Seen
  pub edge : ℕ

-- The tokens of a text, or its first fault.
use Rattle.std.specs.Prelude.{◌≡◌, ℕ, zero, suc, ◌+◌, ◌-◌, ◌≤◌, ◌<◌, List, [], ◌∷◌, ◌++◌, Result, Ok, Err}
use Rattle.std.specs.Global.{Vec}
use Rattle.idl_lexer.specs.declared.token.Token.{Token}
use Rattle.idl_lexer.specs.declared.token.LexFault.{LexFault}
use Rattle.idl_lexer.specs.declared.token.LexError.{LexError}
use Rattle.idl_lexer.specs.declared.token.LexError.TheVariants as errors
use Rattle.idl_lexer.specs.declared.piece.Piece.{Piece}
use Rattle.idl_lexer.specs.declared.piece.Piece.TheVariants as pieces
use Rattle.idl_lexer.specs.Pieces.{Scan, piece_at}

-- the token that a piece is, or none
abbrev pub kept : Piece → ℕ → ℕ → List Token
kept pieces.Blank at len = []
kept (pieces.Token form) at len = record { form = form; from = at; len = len } ∷ []

abbrev pub Read : Type 0
Read = Result (List Token) LexFault

-- tokens that stand before what is read
abbrev pub joined : List Token → Read → Read
joined front (Ok tokens) = Ok (front ++ tokens)
joined front (Err fault) = Err fault

abbrev pub after_piece : ℕ → Scan → (ℕ → Read) → Read
after_piece at (Err reason) read = Err (record { offset = at; reason = reason })
after_piece at (Ok x) read = joined (kept x.0 at x.1) (read (x.1 - 1))

-- the tokens of some bytes that stand at this place, behind so many that are passed over
unfoldable pub tokens_from : List ℕ → ℕ → ℕ → Read
tokens_from [] skip at = Ok []
tokens_from (b ∷ bs) (suc skip) at = tokens_from bs skip (at + 1)
tokens_from (b ∷ bs) zero at = after_piece at (piece_at (b ∷ bs)) (λ skip. tokens_from bs skip (at + 1))

abbrev pub tokens_of : List ℕ → Read
tokens_of text = tokens_from text 0 0

-- what a function returned is what reading gives, unless memory ran out
abbrev pub Gives : Result (Vec Token) LexError → Read → Type 0
Gives (Ok tokens) read = read ≡ Ok tokens.items
Gives (Err (errors.Fault fault)) read = read ≡ Err fault
Gives (Err errors.OutOfMemory) read = Unit {0}

-- the tokens stand one behind the other, each with at least one byte, from one place on and up to another
abbrev pub Spans : ℕ → ℕ → List Token → Type 0
Spans low high [] = low ≤ high
Spans low high (t ∷ ts) = (low ≤ t.from) × (0 < t.len) × Spans (t.from + t.len) high ts

-- Tokens that stand in order in a text lie inside it.
use Rattle.std.proofs.Common.{ℕ, zero, suc, ◌+◌, ◌≤◌, List, [], ◌∷◌, arith}
use Rattle.idl_lexer.specs.declared.token.Token.{Token}
use Rattle.idl_lexer.specs.Tokens.{Spans}
use Rattle.idl_parser.specs.Seeing.{IsInside}

in_order : (low high : ℕ) (ts : List Token) → Spans low high ts → low ≤ high
in_order low high [] s = s
in_order low high (t ∷ ts) s = omega (arith, s.0, in_order (t.from + t.len) high ts s.2)

pub inside : (low high : ℕ) (ts : List Token) → Spans low high ts → IsInside high ts
inside low high [] s k d h = absurd (omega arith)
inside low high (t ∷ ts) s zero d h = in_order (t.from + t.len) high ts s.2
inside low high (t ∷ ts) s (suc k) d h = inside (t.from + t.len) high ts s.2 k d (omega arith)

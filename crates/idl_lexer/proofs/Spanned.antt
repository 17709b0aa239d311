-- One piece more keeps the order of the spans.
use Rattle.std.proofs.Common.{ℕ, ◌+◌, ◌<◌, ◌≤◌, List, [], ◌∷◌, ◌++◌, arith, subst, sym, ◌≡◌}
use Rattle.std.proofs.lemmas.List.{append-nil}
use Rattle.idl_lexer.specs.declared.token.Token.{Token}
use Rattle.idl_lexer.specs.declared.token.TokenForm.{TokenForm}
use Rattle.idl_lexer.specs.declared.piece.Piece.{Piece}
use Rattle.idl_lexer.specs.declared.piece.Piece.TheVariants as pieces
use Rattle.idl_lexer.specs.Tokens.{kept, Spans}

widened : (low mid high : ℕ) (ts : List Token) → Spans low mid ts → mid ≤ high → Spans low high ts
widened low mid high [] s h = omega arith
widened low mid high (t ∷ ts) s h = (s.0, s.1, widened (t.from + t.len) mid high ts s.2 h)

pushed : (low mid : ℕ) (ts : List Token) (form : TokenForm) (len : ℕ) → Spans low mid ts → 0 < len → Spans low (mid + len) (ts ++ record { form = form; from = mid; len = len } ∷ [])
pushed low mid [] form len s l = (s, l, omega arith)
pushed low mid (t ∷ ts) form len s l = (s.0, s.1, pushed (t.from + t.len) mid ts form len s.2 l)

pub spans_kept : (low mid : ℕ) (ts now : List Token) (piece : Piece) (len : ℕ) → Spans low mid ts → 0 < len → now ≡ ts ++ kept piece mid len → Spans low (mid + len) now
spans_kept low mid ts now piece len s l e = subst (Spans low (mid + len)) (sym e) (by piece)
  where
    by : (piece : Piece) → Spans low (mid + len) (ts ++ kept piece mid len)
    by pieces.Blank = subst (Spans low (mid + len)) (sym (append-nil ts)) (widened low mid (mid + len) ts s (omega arith))
    by (pieces.Token form) = pushed low mid ts form len s l

pub spans_whole : (mid high : ℕ) (ts : List Token) → Spans 0 mid ts → mid ≤ high → Spans 0 high ts
spans_whole mid high ts s h = widened 0 mid high ts s h

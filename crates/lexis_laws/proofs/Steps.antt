-- One piece of a text is read: a gap is passed over, a token is kept, or a fault is told.
use Rattle.std.proofs.Common.{◌≡◌, ℕ, ◌+◌, ◌<◌, List, [], ◌∷◌, ◌++◌, length, drop, Ok, Err, refl, sym, ap, ◌∙◌, subst, arith}
use Rattle.idl_lexer.specs.Pieces.{Scan, piece_at}
use Rattle.idl_lexer.specs.Tokens.{Read, kept, joined, tokens_from}
use Rattle.idl_lexer.specs.declared.token.Token.{Token}
use Rattle.idl_lexer.specs.declared.token.TokenForm.{TokenForm}
use Rattle.idl_lexer.specs.declared.token.LexReason.{LexReason}
use Rattle.idl_lexer.proofs.Reading.{stepped, fails}
use Rattle.lexis_laws.specs.Faults.{Fails}
use Rattle.lexis_laws.proofs.Fronts.{drop_front}
use Rattle.lexis_laws.proofs.Right.{Right, PieceAt, a_gap, a_token, GapAt, TokenAt}
use Rattle.lexis_laws.proofs.Piece.{piece_right}
use Rattle.lexis_laws.proofs.Single.{token_some}

abbrev pub token_of : TokenForm → ℕ → ℕ → Token
token_of form at len = record { form = form; from = at; len = len }

pub data Step : ℕ → List ℕ → Type 0 where
  over_gap : (at : ℕ) (text : List ℕ) (n : ℕ) (g : GapAt text n) → tokens_from text 0 at ≡ tokens_from g.rest 0 (at + length g.bytes) → Step at text
  over_token : (at : ℕ) (text : List ℕ) (form : TokenForm) (n : ℕ) (t : TokenAt text form n)
      → tokens_from text 0 at ≡ joined (token_of form at (length t.bytes) ∷ []) (tokens_from t.rest 0 (at + length t.bytes)) → Step at text
  at_fault : (at : ℕ) (text : List ℕ) (reason : LexReason) → Fails reason text → tokens_from text 0 at ≡ Err (record { offset = at; reason = reason }) → Step at text

-- behind a piece the rest is read
behind_piece : (text bytes rest : List ℕ) (n : ℕ) → text ≡ bytes ++ rest → n ≡ length bytes → drop n text ≡ rest
behind_piece text bytes rest n e size = ap (λ k. drop k text) size ∙ ap (drop (length bytes)) e ∙ drop_front bytes rest

pub joined_none : (read : Read) → joined [] read ≡ read
joined_none (Ok tokens) = refl
joined_none (Err fault) = refl

-- the reading goes on behind so many bytes, with what is kept of them before
abbrev GoesOn : ℕ → List ℕ → (ℕ → ℕ → List Token) → ℕ → Type 0
GoesOn at text keeps n = tokens_from text 0 at ≡ joined (keeps at n) (tokens_from (drop n text) 0 (at + n))

read_behind : (at : ℕ) (text bytes rest : List ℕ) (n : ℕ) → text ≡ bytes ++ rest → n ≡ length bytes → tokens_from (drop n text) 0 (at + n) ≡ tokens_from rest 0 (at + length bytes)
read_behind at text bytes rest n e size = ap (λ xs. tokens_from xs 0 (at + n)) (behind_piece text bytes rest n e size) ∙ ap (λ k. tokens_from rest 0 (at + k)) size

by_piece : (at : ℕ) (text : List ℕ) (keeps : ℕ → ℕ → List Token) (n : ℕ) → PieceAt text keeps n → (0 < n → GoesOn at text keeps n) → Step at text
by_piece at text keeps n (a_gap xs keep m none g) goes =
    over_gap at xs m g (goes g.some ∙ ap (λ ts. joined ts (tokens_from (drop m xs) 0 (at + m))) (none at m) ∙ joined_none (tokens_from (drop m xs) 0 (at + m)) ∙ read_behind at xs g.bytes g.rest m g.joined g.many)
by_piece at text keeps n (a_token xs keep m form one t) goes =
    let some : 0 < m = subst (λ k. 0 < k) (sym t.many) (token_some form t.bytes t.stands.token) in
    over_token at xs form m t
    (goes some ∙ ap (λ ts. joined ts (tokens_from (drop m xs) 0 (at + m))) (one at m) ∙ ap (joined (token_of form at m ∷ [])) (read_behind at xs t.bytes t.rest m t.joined t.many)
    ∙ ap (λ k. joined (token_of form at k ∷ []) (tokens_from t.rest 0 (at + length t.bytes))) t.many)

by_scan : (x : ℕ) (xs : List ℕ) (at : ℕ) (scan : Scan) → piece_at (x ∷ xs) ≡ scan → Right (x ∷ xs) scan → Step at (x ∷ xs)
by_scan x xs at (Ok p) e right = by_piece at (x ∷ xs) (kept p.0) p.1 right (λ some. stepped (x ∷ xs) at p.1 p.0 (omega arith) some e)
by_scan x xs at (Err reason) e right = at_fault at (x ∷ xs) reason right (fails (x ∷ xs) at reason (omega arith) e)

pub step : (x : ℕ) (xs : List ℕ) (at : ℕ) → Step at (x ∷ xs)
step x xs at = by_scan x xs at (piece_at (x ∷ xs)) refl (piece_right x xs)

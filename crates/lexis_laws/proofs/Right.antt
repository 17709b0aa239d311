-- What the scan of a piece has to tell of a text: a gap, the longest token, or the fault that stands there.
use Rattle.std.proofs.Common.{◌≡◌, ℕ, ℤ, ◌<◌, ◌≤◌, Bool, List, [], ◌∷◌, ◌++◌, length, Option, Some, None, Ok, Err, true, false, refl, sym, subst}
use Rattle.std.specs.List.{list_all}
use Rattle.idl_lexer.specs.Bytes.{is_blank}
use Rattle.idl_lexer.specs.Grammar.{IsToken, IsSigned, number_of, is_in_range}
use Rattle.idl_lexer.specs.Pieces.{Scan, int_or_big, int_at}
use Rattle.idl_lexer.specs.Tokens.{kept}
use Rattle.idl_lexer.specs.declared.token.Token.{Token}
use Rattle.idl_lexer.specs.declared.token.TokenForm.{TokenForm}
use Rattle.idl_lexer.specs.declared.token.TokenForm.TheVariants as forms
use Rattle.idl_lexer.specs.declared.token.LexReason.TheVariants as reasons
use Rattle.lexis_laws.specs.Cutting.{IsGap, Stands}
use Rattle.lexis_laws.specs.Faults.{Fails}
use Rattle.lexis_laws.specs.Faults as faults
use Rattle.lexis_laws.proofs.Fronts.{Apart}
use Rattle.lexis_laws.proofs.Longest.{Bound, longest_of}
use Rattle.lexis_laws.proofs.Values.{Negates, IntTold, int_told}

-- all whitespace that stands there, or one comment
pub data AreGaps : List ℕ → List ℕ → Type 0 where
  blanks : (b : ℕ) (bs rest : List ℕ) → is_blank b ≡ true → list_all is_blank bs ≡ true → Apart is_blank rest → AreGaps (b ∷ bs) rest
  a_comment : (bytes rest : List ℕ) → IsGap bytes rest → Apart is_blank bytes → AreGaps bytes rest

pub record GapAt (text : List ℕ) (n : ℕ) : Type 0 where
  pub bytes : List ℕ
  pub rest : List ℕ
  pub joined : text ≡ bytes ++ rest
  pub many : n ≡ length bytes
  pub some : 0 < n
  pub gaps : AreGaps bytes rest

pub record TokenAt (text : List ℕ) (form : TokenForm) (n : ℕ) : Type 0 where
  pub bytes : List ℕ
  pub rest : List ℕ
  pub joined : text ≡ bytes ++ rest
  pub many : n ≡ length bytes
  pub stands : Stands form bytes rest
  pub fits : is_in_range form ≡ true

-- what is kept of the piece: nothing, or this token
abbrev pub KeepsNone : (ℕ → ℕ → List Token) → Type 0
KeepsNone keeps = (at len : ℕ) → keeps at len ≡ []

abbrev pub KeepsOne : (ℕ → ℕ → List Token) → TokenForm → Type 0
KeepsOne keeps form = (at len : ℕ) → keeps at len ≡ record { form = form; from = at; len = len } ∷ []

pub data PieceAt : List ℕ → (ℕ → ℕ → List Token) → ℕ → Type 0 where
  a_gap : (text : List ℕ) (keeps : ℕ → ℕ → List Token) (n : ℕ) → KeepsNone keeps → GapAt text n → PieceAt text keeps n
  a_token : (text : List ℕ) (keeps : ℕ → ℕ → List Token) (n : ℕ) (form : TokenForm) → KeepsOne keeps form → TokenAt text form n → PieceAt text keeps n

abbrev pub Right : List ℕ → Scan → Type 0
Right text (Ok x) = PieceAt text (kept x.0) x.1
Right text (Err reason) = Fails reason text

stands_at : (form : TokenForm) (text bytes rest : List ℕ) (n : ℕ) → text ≡ bytes ++ rest → n ≡ length bytes → IsToken form bytes → Bound text n → Stands form bytes rest
stands_at form text bytes rest n e size token bound = record {
  token = token;
  longest = longest_of bytes rest (subst (λ m. Bound (bytes ++ rest) m) size (subst (λ xs. Bound xs n) e bound));
}

pub token_at : (form : TokenForm) (text bytes rest : List ℕ) (n : ℕ) → text ≡ bytes ++ rest → n ≡ length bytes → IsToken form bytes → Bound text n
    → is_in_range form ≡ true → TokenAt text form n
token_at form text bytes rest n e size token bound fits = record { bytes = bytes; rest = rest; joined = e; many = size; stands = stands_at form text bytes rest n e size token bound; fits = fits }

big_at : (z : ℤ) (text bytes rest : List ℕ) (n : ℕ) → text ≡ bytes ++ rest → n ≡ length bytes → IsToken (forms.Int z) bytes → Bound text n
    → is_in_range (forms.Int z) ≡ false → Fails reasons.BigNumber text
big_at z text bytes rest n e size token bound out =
    subst (λ xs. Fails reasons.BigNumber xs) (sym e) (faults.big_number z bytes rest (stands_at (forms.Int z) text bytes rest n e size token bound) out)

-- a whole number is told with its value, or as too big
pub int_right : (negative : Bool) (sign : List ℕ) (radix : ℕ) (digits text bytes rest : List ℕ) (n : ℕ) → 1 ≤ radix → Negates negative sign
    → text ≡ bytes ++ rest → n ≡ length bytes → ((z : ℤ) → IsSigned sign (number_of radix 0 digits) z → IsToken (forms.Int z) bytes) → Bound text n
    → Right text (int_or_big (int_at negative radix digits) n)
int_right negative sign radix digits text bytes rest n some s e size token bound = by_value (int_at negative radix digits) (int_told negative sign radix digits some s)
  where
    by_value : (o : Option ℤ) → IntTold sign (number_of radix 0 digits) o → Right text (int_or_big o n)
    by_value (Some z) told = a_token text _ n (forms.Int z) (λ at len. refl) (token_at (forms.Int z) text bytes rest n e size (token z told.0) bound told.1)
    by_value None told = big_at told.0 text bytes rest n e size (token told.0 told.1) bound told.2

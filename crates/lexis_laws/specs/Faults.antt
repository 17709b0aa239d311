-- Why a text of the IDL can't be cut further at some place, and the first place where it can't.
use Rattle.std.specs.Prelude.{◌≡◌, ℕ, ℤ, ◌⊎◌, List, [], ◌∷◌, ◌++◌, false, Result, Ok, Err}
use Rattle.std.specs.Global.{Vec}
use Rattle.idl_lexer.specs.Grammar.{IsToken, IsInComment, IsQuoted, is_in_range, Lexes}
use Rattle.idl_lexer.specs.declared.token.Token.{Token}
use Rattle.idl_lexer.specs.declared.token.TokenForm.{TokenForm}
use Rattle.idl_lexer.specs.declared.token.TokenForm.TheVariants as forms
use Rattle.idl_lexer.specs.declared.token.LexFault.{LexFault}
use Rattle.idl_lexer.specs.declared.token.LexError.{LexError}
use Rattle.idl_lexer.specs.declared.token.LexError.TheVariants as errors
use Rattle.idl_lexer.specs.declared.token.LexReason.{LexReason}
use Rattle.idl_lexer.specs.declared.token.LexReason.TheVariants as reasons
use Rattle.lexis_laws.specs.Cutting.{IsGap, Stands, Cuts}

-- a comment that is begun by /* and that no */ closes
pub data IsOpenComment : List ℕ → Type 0 where
  open_comment : (rest : List ℕ) → ((inside behind : List ℕ) → rest ≡ inside ++ behind → IsInComment inside → ⊥) → IsOpenComment (47 ∷ 42 ∷ rest)

-- a literal that is begun by a quote and that no such quote closes
pub data IsOpenLiteral : List ℕ → Type 0 where
  open_literal : (quote : ℕ) (rest : List ℕ) → (quote ≡ 34) ⊎ (quote ≡ 39) →
      ((bytes behind : List ℕ) → rest ≡ bytes ++ quote ∷ behind → IsQuoted quote bytes → ⊥) → IsOpenLiteral (quote ∷ rest)

-- no shape of the lexis fits at the front of some bytes, at least one
pub record NothingFits (bytes : List ℕ) : Type 0 where
  pub some : bytes ≡ [] → ⊥
  pub no_gap : (front rest : List ℕ) → bytes ≡ front ++ rest → IsGap front rest → ⊥
  pub no_token : (form : TokenForm) (front rest : List ℕ) → bytes ≡ front ++ rest → IsToken form front → ⊥
  pub no_comment : IsOpenComment bytes → ⊥
  pub no_literal : IsOpenLiteral bytes → ⊥

-- why the bytes from some place on are cut no further
pub data Fails : LexReason → List ℕ → Type 0 where
  bad_byte : (bytes : List ℕ) → NothingFits bytes → Fails reasons.BadByte bytes
  unclosed_comment : (bytes : List ℕ) → IsOpenComment bytes → Fails reasons.UnclosedComment bytes
  unclosed_literal : (bytes : List ℕ) → IsOpenLiteral bytes → Fails reasons.UnclosedLiteral bytes
  big_number : (z : ℤ) (bytes rest : List ℕ) → Stands (forms.Int z) bytes rest → is_in_range (forms.Int z) ≡ false → Fails reasons.BigNumber (bytes ++ rest)

-- the fault at a place
abbrev pub fault_at : ℕ → LexReason → LexFault
fault_at at reason = record { offset = at; reason = reason }

-- the text is cut up to this place, and from there on it is cut no further
pub record IsFaultOf (text : List ℕ) (fault : LexFault) : Type 0 where
  pub tokens : List Token
  pub rest : List ℕ
  pub cut : Cuts 0 text tokens fault.offset rest
  pub fails : Fails fault.reason rest

-- what is returned of a text is its one cutting, or its fault, unless memory ran out
abbrev pub IsLexed : List ℕ → Result (Vec Token) LexError → Type 0
IsLexed text (Ok tokens) = Lexes 0 text tokens.items
IsLexed text (Err (errors.Fault fault)) = IsFaultOf text fault
IsLexed text (Err errors.OutOfMemory) = Unit {0}

-- the text is cut up to this place, at which these bytes are a whole number that is out of range
pub record HasBigNumber (text : List ℕ) (at : ℕ) (bytes : List ℕ) : Type 0 where
  pub tokens : List Token
  pub rest : List ℕ
  pub number : ℤ
  pub cut : Cuts 0 text tokens at (bytes ++ rest)
  pub stands : Stands (forms.Int number) bytes rest
  pub big : is_in_range (forms.Int number) ≡ false

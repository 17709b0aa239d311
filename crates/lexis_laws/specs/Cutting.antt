-- How a text of the IDL is cut up to some place (Thrift interface description language): whitespace and comments, and tokens between them,
-- each the longest that fits.
use Rattle.std.specs.Prelude.{◌≡◌, ℕ, ◌+◌, ◌<◌, ◌≤◌, List, [], ◌∷◌, ◌++◌, length, take, drop, true}
use Rattle.idl_lexer.specs.Bytes.{is_blank}
use Rattle.idl_lexer.specs.Grammar.{IsToken, IsOneLine, IsLineEnd, IsInComment, is_in_range}
use Rattle.idl_lexer.specs.declared.token.Token.{Token}
use Rattle.idl_lexer.specs.declared.token.TokenForm.{TokenForm}

-- One byte of whitespace, or one comment, and what stands behind it. A comment from # or // goes up to its line's end, one from /* up to
-- the first */ and with it.
pub data IsGap : List ℕ → List ℕ → Type 0 where
  whitespace : (b : ℕ) (rest : List ℕ) → is_blank b ≡ true → IsGap (b ∷ []) rest
  hash : (line rest : List ℕ) → IsOneLine line → IsLineEnd rest → IsGap (35 ∷ line) rest
  slashes : (line rest : List ℕ) → IsOneLine line → IsLineEnd rest → IsGap (47 ∷ 47 ∷ line) rest
  comment : (inside rest : List ℕ) → IsInComment inside → IsGap (47 ∷ 42 ∷ inside) rest

-- no longer front of the text is a token
abbrev pub IsLongest : List ℕ → List ℕ → Type 0
IsLongest bytes rest = (other : TokenForm) (n : ℕ) → length bytes < n → n ≤ length (bytes ++ rest) → IsToken other (take n (bytes ++ rest)) → ⊥

-- a token, the longest that fits, and what stands behind it
pub record Stands (form : TokenForm) (bytes rest : List ℕ) : Type 0 where
  pub token : IsToken form bytes
  pub longest : IsLongest bytes rest

-- at the front of a text stands this token, the longest that fits
abbrev pub StandsIn : List ℕ → TokenForm → List ℕ → Type 0
StandsIn text form bytes = (rest : List ℕ) × (text ≡ bytes ++ rest) × Stands form bytes rest

-- the texts begin with the same bytes, so many
abbrev pub Agree : ℕ → List ℕ → List ℕ → Type 0
Agree n text other = take n text ≡ take n other

-- The tokens of the bytes from one place up to another, and the bytes that stand from there on.
pub data Cuts : ℕ → List ℕ → List Token → ℕ → List ℕ → Type 0 where
  here : (at : ℕ) (rest : List ℕ) → Cuts at rest [] at rest
  gap : (at place : ℕ) (bytes rest behind : List ℕ) (tokens : List Token) → IsGap bytes rest →
      Cuts (at + length bytes) rest tokens place behind → Cuts at (bytes ++ rest) tokens place behind
  token : (at place : ℕ) (form : TokenForm) (bytes rest behind : List ℕ) (tokens : List Token) → Stands form bytes rest → is_in_range form ≡ true →
      Cuts (at + length bytes) rest tokens place behind →
      Cuts at (bytes ++ rest) (record { form = form; from = at; len = length bytes } ∷ tokens) place behind

-- these are the tokens of a text up to this place
abbrev pub CutsUpTo : List ℕ → List Token → ℕ → Type 0
CutsUpTo text tokens place = Cuts 0 text tokens place (drop place text)

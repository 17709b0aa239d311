-- The tokens of the IDL, after the Apache Thrift IDL grammar: what each kind is, and how a text is cut into the longest ones.
use Rattle.std.specs.Prelude.{◌≡◌, ℕ, ℤ, pos, negsuc, ◌-ℤ◌, int_lt, ◌<◌, ◌≤◌, ◌+◌, ◌*◌, List, [], ◌∷◌, ◌++◌, length, take, Bool, true, false, not, ◌&&◌, ◌⊎◌}
use Rattle.std.specs.List.{list_all}
use Rattle.idl_lexer.specs.Bytes.{is_digit, is_letter, is_hex, is_inner, is_blank, is_mark, is_in}
use Rattle.idl_lexer.specs.declared.run.Class.TheVariants as classes
use Rattle.idl_lexer.specs.Pieces.{digit_value}
use Rattle.idl_lexer.specs.declared.token.Token.{Token}
use Rattle.idl_lexer.specs.declared.token.TokenForm.{TokenForm}
use Rattle.idl_lexer.specs.declared.token.TokenForm.TheVariants as forms

-- the number that digits mean
abbrev pub number_of : ℕ → ℕ → List ℕ → ℕ
number_of radix before [] = before
number_of radix before (b ∷ bs) = number_of radix (before * radix + digit_value b) bs

-- an optional sign, and what it makes of a number of any size
pub data IsSigned : List ℕ → ℕ → ℤ → Type 0 where
  bare : (n : ℕ) → IsSigned [] n (pos n)
  plus : (n : ℕ) → IsSigned (43 ∷ []) n (pos n)
  minus : (n : ℕ) → IsSigned (45 ∷ []) n (pos 0 -ℤ pos n)

-- a whole number has 64 bits; it is asked for once the token is the longest, so that no part of a greater number is one
abbrev pub is_in_range : TokenForm → Bool
is_in_range (forms.Int z) = not (int_lt z (negsuc 9223372036854775807)) && int_lt z (pos 9223372036854775808)
is_in_range form = true

pub data IsSign : List ℕ → Type 0 where
  no_sign : IsSign []
  plus_sign : IsSign (43 ∷ [])
  minus_sign : IsSign (45 ∷ [])

-- at least one digit
pub record IsDigits (bytes : List ℕ) : Type 0 where
  pub some : 0 < length bytes
  pub all : list_all is_digit bytes ≡ true

-- digits, or optional digits with a point and digits
pub data IsMantissa : List ℕ → Type 0 where
  whole : (digits : List ℕ) → IsDigits digits → IsMantissa digits
  pointed : (front digits : List ℕ) → list_all is_digit front ≡ true → IsDigits digits → IsMantissa (front ++ 46 ∷ digits)

-- e or E, an optional sign and digits
pub data IsExponent : List ℕ → Type 0 where
  exponent : (e : ℕ) (sign digits : List ℕ) → (e ≡ 101) ⊎ (e ≡ 69) → IsSign sign → IsDigits digits → IsExponent (e ∷ (sign ++ digits))

-- what stands between quotes: a backslash takes the next byte with it
pub data IsQuoted : ℕ → List ℕ → Type 0 where
  ends : (quote : ℕ) → IsQuoted quote []
  taken : (quote b : ℕ) (bs : List ℕ) → IsQuoted quote bs → IsQuoted quote (92 ∷ b ∷ bs)
  plain : (quote b : ℕ) (bs : List ℕ) → (b ≡ quote → ⊥) → (b ≡ 92 → ⊥) → IsQuoted quote bs → IsQuoted quote (b ∷ bs)

-- the bytes of one token of each form, a whole number of any size
pub data IsToken : TokenForm → List ℕ → Type 0 where
  word : (b : ℕ) (bs : List ℕ) → is_letter b ≡ true → list_all is_inner bs ≡ true → IsToken forms.Word (b ∷ bs)
  decimal : (sign digits : List ℕ) (z : ℤ) → IsDigits digits → IsSigned sign (number_of 10 0 digits) z → IsToken (forms.Int z) (sign ++ digits)
  hexadecimal : (sign digits : List ℕ) (z : ℤ) → 0 < length digits → list_all is_hex digits ≡ true → IsSigned sign (number_of 16 0 digits) z →
      IsToken (forms.Int z) (sign ++ 48 ∷ 120 ∷ digits)
  pointed_double : (sign front digits : List ℕ) → IsSign sign → list_all is_digit front ≡ true → IsDigits digits → IsToken forms.Double (sign ++ (front ++ 46 ∷ digits))
  raised_double : (sign mantissa exponent : List ℕ) → IsSign sign → IsMantissa mantissa → IsExponent exponent → IsToken forms.Double (sign ++ (mantissa ++ exponent))
  double_quoted : (bytes : List ℕ) → IsQuoted 34 bytes → IsToken forms.Literal (34 ∷ (bytes ++ 34 ∷ []))
  single_quoted : (bytes : List ℕ) → IsQuoted 39 bytes → IsToken forms.Literal (39 ∷ (bytes ++ 39 ∷ []))
  mark : (m : ℕ) → is_mark m ≡ true → IsToken (forms.Mark m) (m ∷ [])

-- no line feed is among these bytes
pub record IsOneLine (bytes : List ℕ) : Type 0 where
  pub all : list_all (is_in classes.Line) bytes ≡ true

-- the line ends here, or the text
pub data IsLineEnd : List ℕ → Type 0 where
  text_ends : IsLineEnd []
  line_ends : (rest : List ℕ) → IsLineEnd (10 ∷ rest)

-- up to the first star with a slash behind it, and with both
pub data IsInComment : List ℕ → Type 0 where
  closed : IsInComment (42 ∷ 47 ∷ [])
  goes_on : (b : ℕ) (bs : List ℕ) → ((rest : List ℕ) → b ∷ bs ≡ 42 ∷ 47 ∷ rest → ⊥) → IsInComment bs → IsInComment (b ∷ bs)

-- The tokens of the bytes that stand from this place on, each the longest that fits, and each whole number of 64 bits.
pub data Lexes : ℕ → List ℕ → List Token → Type 0 where
  nothing : (at : ℕ) → Lexes at [] []
  blank : (at b : ℕ) (rest : List ℕ) (tokens : List Token) → is_blank b ≡ true → Lexes (at + 1) rest tokens → Lexes at (b ∷ rest) tokens
  hash : (at : ℕ) (line rest : List ℕ) (tokens : List Token) → IsOneLine line → IsLineEnd rest →
      Lexes (at + 1 + length line) rest tokens → Lexes at (35 ∷ (line ++ rest)) tokens
  slashes : (at : ℕ) (line rest : List ℕ) (tokens : List Token) → IsOneLine line → IsLineEnd rest →
      Lexes (at + 2 + length line) rest tokens → Lexes at (47 ∷ 47 ∷ (line ++ rest)) tokens
  comment : (at : ℕ) (inside rest : List ℕ) (tokens : List Token) → IsInComment inside →
      Lexes (at + 2 + length inside) rest tokens → Lexes at (47 ∷ 42 ∷ (inside ++ rest)) tokens
  token : (at : ℕ) (form : TokenForm) (bytes rest : List ℕ) (tokens : List Token) → IsToken form bytes →
      ((other : TokenForm) (n : ℕ) → length bytes < n → n ≤ length (bytes ++ rest) → IsToken other (take n (bytes ++ rest)) → ⊥) →
      is_in_range form ≡ true → Lexes (at + length bytes) rest tokens → Lexes at (bytes ++ rest) (record { form = form; from = at; len = length bytes } ∷ tokens)

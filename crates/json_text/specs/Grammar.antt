-- The words of JSON as relations, in the terms of RFC 8259 and RFC 4648. No scan is named here: these say which bytes a
-- word is, and which value they spell.
use Rattle.std.specs.Prelude.{◌≡◌, ⊤, ℕ, ℤ, zero, suc, pos, negsuc, ◌+◌, ◌-◌, ◌*◌, ◌%◌, ◌<◌, ◌≤◌, ◌⊎◌, List, [], ◌∷◌, ◌++◌, length, replicate}
use Rattle.std.specs.Char.{IsScalar, encode_utf8}
use Rattle.base64.specs.Rfc4648.{encode_symbols}

-- ---- integers and numbers (RFC 8259, section 6)

abbrev pub IsDigit : ℕ → Type 0
IsDigit x = (48 ≤ x) × (x ≤ 57)

abbrev pub AreDigits : List ℕ → Type 0
AreDigits [] = ⊤
AreDigits (x ∷ xs) = IsDigit x × AreDigits xs

-- a digit from 1 to 9 and digits
abbrev pub IsCounting : List ℕ → Type 0
IsCounting [] = ⊥
IsCounting (x ∷ xs) = (49 ≤ x) × (x ≤ 57) × AreDigits xs

-- the number that digits stand for, behind others that stand for `so_far`
abbrev pub value_from : ℕ → List ℕ → ℕ
value_from so_far [] = so_far
value_from so_far (x ∷ xs) = value_from (so_far * 10 + (x - 48)) xs

abbrev pub value_of : List ℕ → ℕ
value_of digits = value_from 0 digits

-- the number with a minus before it
abbrev pub negated : ℕ → ℤ
negated zero = pos 0
negated (suc n) = negsuc n

-- `0`, or an optional minus, a digit from 1 to 9 and digits: an integer of TJSON, which has no fraction and no exponent
abbrev pub SpellsInt : ℤ → List ℕ → Type 0
SpellsInt z bytes =
    ((bytes ≡ 48 ∷ []) × (z ≡ pos 0))
    ⊎ ((IsCounting bytes × (z ≡ pos (value_of bytes)))
    ⊎ ((digits : List ℕ) × (bytes ≡ 45 ∷ digits) × IsCounting digits × (z ≡ negated (value_of digits))))

-- an optional minus
abbrev pub IsMinus : List ℕ → Type 0
IsMinus bytes = (bytes ≡ []) ⊎ (bytes ≡ 45 ∷ [])

-- an optional sign of an exponent
abbrev pub IsSign : List ℕ → Type 0
IsSign bytes = (bytes ≡ []) ⊎ ((bytes ≡ 43 ∷ []) ⊎ (bytes ≡ 45 ∷ []))

-- zero alone, or digits that begin with none
abbrev pub IsWhole : List ℕ → Type 0
IsWhole bytes = (bytes ≡ 48 ∷ []) ⊎ IsCounting bytes

-- nothing, or a point and digits
abbrev pub IsFraction : List ℕ → Type 0
IsFraction bytes = (bytes ≡ []) ⊎ ((digits : List ℕ) × (bytes ≡ 46 ∷ digits) × AreDigits digits × (1 ≤ length digits))

-- nothing, or `e` or `E`, an optional sign and digits
abbrev pub IsExponent : List ℕ → Type 0
IsExponent bytes =
    (bytes ≡ []) ⊎ ((mark : ℕ) × (sign : List ℕ) × (digits : List ℕ) × (bytes ≡ mark ∷ (sign ++ digits)) × ((mark ≡ 101) ⊎ (mark ≡ 69))
    × IsSign sign × AreDigits digits × (1 ≤ length digits))

abbrev pub IsNumber : List ℕ → Type 0
IsNumber bytes =
    (minus : List ℕ) × (whole : List ℕ) × (fraction : List ℕ) × (exponent : List ℕ) × (bytes ≡ minus ++ (whole ++ (fraction ++ exponent)))
    × IsMinus minus × IsWhole whole × IsFraction fraction × IsExponent exponent

-- ---- strings (RFC 8259, section 7)

-- a piece of a string: a character as it stands, a letter behind a backslash, one code unit, or a pair of surrogates
pub data Piece : Type 0 where
  plain : ℕ → Piece
  short : ℕ → ℕ → Piece
  unit : List ℕ → ℕ → Piece
  pair : List ℕ → ℕ → List ℕ → ℕ → Piece

-- a letter behind a backslash, and the character that it stands for
abbrev pub IsShort : ℕ → ℕ → Type 0
IsShort letter c =
    ((letter ≡ c) × ((letter ≡ 34) ⊎ ((letter ≡ 92) ⊎ (letter ≡ 47)))) ⊎ (((letter ≡ 98) × (c ≡ 8)) ⊎ (((letter ≡ 102) × (c ≡ 12))
    ⊎ (((letter ≡ 110) × (c ≡ 10)) ⊎ (((letter ≡ 114) × (c ≡ 13)) ⊎ ((letter ≡ 116) × (c ≡ 9))))))

-- a hexadecimal digit of either case, and its value
abbrev pub IsHex : ℕ → ℕ → Type 0
IsHex x n = ((48 ≤ x) × (x ≤ 57) × (x ≡ 48 + n)) ⊎ (((65 ≤ x) × (x ≤ 70) × (x + 10 ≡ 65 + n)) ⊎ ((97 ≤ x) × (x ≤ 102) × (x + 10 ≡ 97 + n)))

-- four hexadecimal digits, and the code unit that they spell
abbrev pub IsUnit : List ℕ → ℕ → Type 0
IsUnit digits code =
    (a : ℕ) × (b : ℕ) × (c : ℕ) × (d : ℕ) × (m : ℕ) × (n : ℕ) × (o : ℕ) × (p : ℕ) × (digits ≡ a ∷ b ∷ c ∷ d ∷ [])
    × IsHex a m × IsHex b n × IsHex c o × IsHex d p × (code ≡ m * 4096 + n * 256 + o * 16 + p)

-- a character from 20 hex up that is neither a quote nor a backslash; no half of a pair of surrogates alone
abbrev pub IsPiece : Piece → Type 0
IsPiece (plain c) = IsScalar c × (32 ≤ c) × (c ≡ 34 → ⊥) × (c ≡ 92 → ⊥)
IsPiece (short letter c) = IsShort letter c
IsPiece (unit digits code) = IsUnit digits code × ((code < 0xd800) ⊎ (0xe000 ≤ code))
IsPiece (pair first high second low) = IsUnit first high × (0xd800 ≤ high) × (high < 0xdc00) × IsUnit second low × (0xdc00 ≤ low) × (low < 0xe000)

abbrev pub piece_spelled : Piece → List ℕ
piece_spelled (plain c) = encode_utf8 c
piece_spelled (short letter c) = 92 ∷ letter ∷ []
piece_spelled (unit digits code) = 92 ∷ 117 ∷ digits
piece_spelled (pair first high second low) = 92 ∷ 117 ∷ (first ++ (92 ∷ 117 ∷ second))

-- the UTF-8 of the character that it stands for
abbrev pub piece_meant : Piece → List ℕ
piece_meant (plain c) = encode_utf8 c
piece_meant (short letter c) = encode_utf8 c
piece_meant (unit digits code) = encode_utf8 code
piece_meant (pair first high second low) = encode_utf8 (0x10000 + (high - 0xd800) * 1024 + (low - 0xdc00))

abbrev pub ArePieces : List Piece → Type 0
ArePieces [] = ⊤
ArePieces (p ∷ ps) = IsPiece p × ArePieces ps

abbrev pub all_spelled : List Piece → List ℕ
all_spelled [] = []
all_spelled (p ∷ ps) = piece_spelled p ++ all_spelled ps

abbrev pub all_meant : List Piece → List ℕ
all_meant [] = []
all_meant (p ∷ ps) = piece_meant p ++ all_meant ps

-- a quote, pieces and a quote
abbrev pub SpellsText : List ℕ → List ℕ → Type 0
SpellsText meant bytes = (ps : List Piece) × ArePieces ps × (meant ≡ all_meant ps) × (bytes ≡ 34 ∷ (all_spelled ps ++ 34 ∷ []))

-- ---- base64 (RFC 4648, section 4)

-- A to Z, a to z, 0 to 9, + and /
abbrev pub alphabet : List ℕ
alphabet =
    65 ∷ 66 ∷ 67 ∷ 68 ∷ 69 ∷ 70 ∷ 71 ∷ 72 ∷ 73 ∷ 74 ∷ 75 ∷ 76 ∷ 77 ∷ 78 ∷ 79 ∷ 80 ∷ 81 ∷ 82 ∷ 83 ∷ 84 ∷ 85 ∷ 86 ∷ 87 ∷ 88 ∷ 89 ∷ 90
    ∷ 97 ∷ 98 ∷ 99 ∷ 100 ∷ 101 ∷ 102 ∷ 103 ∷ 104 ∷ 105 ∷ 106 ∷ 107 ∷ 108 ∷ 109 ∷ 110 ∷ 111 ∷ 112 ∷ 113 ∷ 114 ∷ 115 ∷ 116 ∷ 117 ∷ 118 ∷ 119 ∷ 120 ∷ 121 ∷ 122
    ∷ 48 ∷ 49 ∷ 50 ∷ 51 ∷ 52 ∷ 53 ∷ 54 ∷ 55 ∷ 56 ∷ 57 ∷ 43 ∷ 47 ∷ []

abbrev pub AreBytes : List ℕ → Type 0
AreBytes [] = ⊤
AreBytes (x ∷ xs) = (x < 256) × AreBytes xs

-- no padding, or exactly the padding to a multiple of four
abbrev pub IsPadding : ℕ → ℕ → Type 0
IsPadding symbols padding = (padding ≡ 0) ⊎ ((padding < 4) × ((symbols + padding) % 4 ≡ 0))

-- a quote, the encoding of the bytes with its unused bits 0, its padding or none, and a quote
abbrev pub SpellsBlob : List ℕ → List ℕ → Type 0
SpellsBlob meant bytes =
    (padding : ℕ) × AreBytes meant × IsPadding (length (encode_symbols alphabet meant)) padding
    × (bytes ≡ 34 ∷ (encode_symbols alphabet meant ++ (replicate padding 61 ++ 34 ∷ [])))

-- ---- whitespace (RFC 8259, section 2)

abbrev pub IsWhite : ℕ → Type 0
IsWhite x = (x ≡ 32) ⊎ ((x ≡ 9) ⊎ ((x ≡ 13) ⊎ (x ≡ 10)))

abbrev pub AreWhite : List ℕ → Type 0
AreWhite [] = ⊤
AreWhite (x ∷ xs) = IsWhite x × AreWhite xs

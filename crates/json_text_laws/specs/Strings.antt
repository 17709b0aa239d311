-- Where a string is at fault (RFC 8259, section 7): at the opening quote or at a piece, over as many bytes as its first ones call for.
use Rattle.std.specs.Prelude.{◌≡◌, ◌↔◌, ℕ, ◌+◌, ◌⊎◌, List, ◌∷◌, ◌++◌, length, take, drop, Bool, not, ◌&&◌, ◌==◌, nat_lt, nat_le, if◌then◌else◌, slice_index}
use Rattle.std.specs.Char.{digit_value}
use Rattle.json_text.specs.declared.scanned.Scan.{Scan}
use Rattle.json_text.specs.declared.scanned.Scan.TheVariants.{Whole, Short, Bad}
use Rattle.json_text.specs.Grammar.{Piece, ArePieces, all_spelled}
use Rattle.json_text_laws.specs.Judged.{NoneGood, GoodText}

-- how many bytes a character has by its first one; one, where that byte begins none (Unicode, table 3-7)
abbrev pub character_size : ℕ → ℕ
character_size x = if nat_lt x 0xC2 then 1 else if nat_lt x 0xE0 then 2 else if nat_lt x 0xF0 then 3 else if nat_lt x 0xF5 then 4 else 1

-- four hexadecimal digits that spell a high surrogate, D800 to DBFF
abbrev pub begins_high : List ℕ → Bool
begins_high digits =
    (digit_value (slice_index digits 0) == 13) && nat_le 8 (digit_value (slice_index digits 1)) && nat_le (digit_value (slice_index digits 1)) 11
    && nat_le (digit_value (slice_index digits 2)) 15 && nat_le (digit_value (slice_index digits 3)) 15

-- how many bytes a piece has by its first ones: an escape two, one of a code unit six, and one of a high surrogate twelve
unfoldable pub piece_size : List ℕ → ℕ
piece_size bytes =
    if not (slice_index bytes 0 == 92) then character_size (slice_index bytes 0)
    else if not (slice_index bytes 1 == 117) then 2
    else if begins_high (drop 2 bytes) then 12
    else 6

-- behind an opening quote and whole pieces, so many bytes: a piece or the closing quote is called for
abbrev pub IsPieceAt : List ℕ → ℕ → Type 0
IsPieceAt bytes at = (ps : List Piece) × (rest : List ℕ) × ArePieces ps × (bytes ≡ 34 ∷ (all_spelled ps ++ rest)) × (at ≡ 1 + length (all_spelled ps))

-- no continuation of the bytes has a front that is a string
abbrev pub NoneBegins : List ℕ → Type 0
NoneBegins bytes = (more : List ℕ) → NoneGood GoodText (bytes ++ more)

-- some continuation has one
abbrev pub SomeBegins : List ℕ → Type 0
SomeBegins bytes = (more : List ℕ) × (meant : List ℕ) × (after : ℕ) × GoodText (bytes ++ more) meant after

-- an item is called for at that place, and the bytes up to its end, as far as there are any, have no continuation that is good
abbrev pub IsFault : List ℕ → ℕ → Type 0
IsFault bytes at = ((at ≡ 0) × NoneBegins (take 1 bytes)) ⊎ (IsPieceAt bytes at × NoneBegins (take (at + piece_size (drop at bytes)) bytes))

-- Whole exactly where a front is a string, with its text; else Short exactly where some continuation makes one good, and Bad
-- exactly where a fault stands, with its place
abbrev pub JudgesText : List ℕ → Scan (List ℕ) → Type 0
JudgesText bytes scan =
    ((meant : List ℕ) (after : ℕ) → (scan ≡ Whole meant after) ↔ GoodText bytes meant after)
    × ((scan ≡ Short) ↔ (NoneGood GoodText bytes × SomeBegins bytes))
    × ((place : ℕ) → (scan ≡ Bad place) ↔ IsFault bytes place)

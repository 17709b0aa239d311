-- A base64 string (RFC 4648, section 4), with its quotes: no padding, or exactly the padding to a multiple of four, and unused bits 0.
use Rattle.std.specs.Prelude.{◌≡◌, ℕ, ◌+◌, ◌≤◌, ◌%◌, List, [], ◌∷◌, ◌++◌, length, take, drop, Bool, not, ◌&&◌, ◌||◌, ◌==◌, nat_lt, nat_le, Option, Some, None, MatchOption, if◌then◌else◌, slice_index}
use Rattle.std.specs.List.{prefix_len}
use Rattle.std.specs.Char.{is_ascii_alphanumeric}
use Rattle.base64.specs.Engines.{standard_no_pad}
use Rattle.base64.specs.GeneralPurpose.{decoded_of, encode_of}
use Rattle.json_text.specs.declared.scanned.Scan.{Scan}
use Rattle.json_text.specs.declared.scanned.Scan.TheVariants.{Whole, Short, Bad}

abbrev pub is_symbol : ℕ → Bool
is_symbol x = is_ascii_alphanumeric x || (x == 43) || (x == 47)

abbrev pub is_no_symbol : ℕ → Bool
is_no_symbol x = not (is_symbol x)

abbrev pub is_padding : ℕ → Bool
is_padding x = x == 61

-- the bytes that the symbols stand for, where there are so many that they stand for bytes and the unused bits are 0
unfoldable pub decoded : List ℕ → Option (List ℕ)
decoded symbols = if length symbols % 4 == 1 then None else decoded_of standard_no_pad symbols

-- no padding behind so many symbols, or all of it
abbrev pub is_padded : ℕ → ℕ → Bool
is_padded symbols padding = (padding == 0) || (nat_lt padding 3 && ((symbols + padding) % 4 == 0))

-- a front of padding, behind symbols that stand for bytes
abbrev pub pads_on : ℕ → ℕ → Bool
pads_on symbols padding = nat_le 2 (symbols % 4) && nat_le (symbols % 4 + padding) 4

abbrev pub closed_by : ℕ → ℕ → Option (List ℕ) → Scan (List ℕ)
closed_by symbols padding (Some bytes) = if is_padded symbols padding then Whole bytes (symbols + padding + 2) else Bad 0
closed_by symbols padding None = Bad 0

abbrev pub open_by : ℕ → ℕ → Option (List ℕ) → Scan (List ℕ)
open_by symbols padding (Some bytes) = if (padding == 0) || pads_on symbols padding then Short else Bad 0
open_by symbols padding None = if padding == 0 then Short else Bad 0

-- behind the opening quote: so many symbols, and so many signs of padding
abbrev pub blob_of : List ℕ → ℕ → ℕ → Scan (List ℕ)
blob_of content symbols padding =
    if nat_le (length content) (symbols + padding) then open_by symbols padding (decoded (take symbols content))
    else if slice_index content (symbols + padding) == 34 then closed_by symbols padding (decoded (take symbols content))
    else Bad 0

abbrev pub symbols_in : List ℕ → ℕ
symbols_in content = prefix_len is_symbol content

unfoldable pub blob_at : List ℕ → Scan (List ℕ)
blob_at bytes =
    if nat_lt (length bytes) 1 then Short
    else if slice_index bytes 0 == 34 then
    blob_of (drop 1 bytes) (symbols_in (drop 1 bytes)) (prefix_len is_padding (drop (symbols_in (drop 1 bytes)) (drop 1 bytes)))
    else Bad 0

-- what the decoder left at the front of the room
abbrev pub Decodes : List ℕ → List ℕ → Option ℕ → Type 0
Decodes symbols room found = MatchOption found (decoded symbols ≡ None) (λ n. (decoded symbols ≡ Some (take n room)) × (n ≤ length room))

-- the base64 symbols of bytes, without padding
unfoldable pub symbols_of : List ℕ → List ℕ
symbols_of bytes = encode_of standard_no_pad bytes

unfoldable pub blob_spelling : List ℕ → List ℕ
blob_spelling bytes = 34 ∷ symbols_of bytes ++ 34 ∷ []

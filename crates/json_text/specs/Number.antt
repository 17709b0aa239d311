-- Numbers (RFC 8259, section 6): an optional minus, an integer part, an optional fraction and an optional exponent.
use Rattle.std.specs.Prelude.{ℕ, List, length, take, drop, Bool, not, ◌&&◌, ◌||◌, ◌==◌, if◌then◌else◌, slice_index}
use Rattle.std.specs.List.{prefix_len}
use Rattle.std.specs.Char.{is_ascii_digit}
use Rattle.json_text.specs.declared.scanned.Scan.{Scan}
use Rattle.json_text.specs.declared.scanned.Scan.TheVariants.{Whole, Short, Bad}
use Rattle.json_text.specs.declared.number.Form.{Form}
use Rattle.json_text.specs.declared.number.Form.TheVariants.{Number, Front, Other}

-- a byte of the longest run of a number: a digit or one of `+ - . e E`
abbrev pub is_number_byte : ℕ → Bool
is_number_byte x = is_ascii_digit x || (x == 43) || (x == 45) || (x == 46) || (x == 69) || (x == 101)

-- this byte stands first
abbrev pub first_is : List ℕ → ℕ → Bool
first_is bytes x = not (length bytes == 0) && (slice_index bytes 0 == x)

abbrev pub digits_in : List ℕ → ℕ
digits_in bytes = prefix_len is_ascii_digit bytes

-- where a digit has to stand and none does
abbrev pub no_digit : List ℕ → Form
no_digit bytes = if length bytes == 0 then Front else Other

-- at least one digit, and what follows the digits
abbrev pub digits_then : (List ℕ → Form) → List ℕ → Form
digits_then next bytes = if digits_in bytes == 0 then no_digit bytes else next (drop (digits_in bytes) bytes)

-- nothing more
abbrev pub nothing_in : List ℕ → Form
nothing_in bytes = if length bytes == 0 then Number else Other

-- the digits of an exponent, with a sign before them or none
unfoldable pub signed_in : List ℕ → Form
signed_in bytes =
    if first_is bytes 43 || first_is bytes 45 then digits_then nothing_in (drop 1 bytes) else digits_then nothing_in bytes

-- an exponent or nothing
unfoldable pub exponent_in : List ℕ → Form
exponent_in bytes =
    if first_is bytes 101 || first_is bytes 69 then signed_in (drop 1 bytes) else nothing_in bytes

-- a fraction or none, and what follows it
unfoldable pub fraction_in : List ℕ → Form
fraction_in bytes = if first_is bytes 46 then digits_then exponent_in (drop 1 bytes) else exponent_in bytes

-- a zero alone or digits that begin with no zero, and what follows them
unfoldable pub unsigned_in : List ℕ → Form
unsigned_in bytes = if first_is bytes 48 then fraction_in (drop 1 bytes) else digits_then fraction_in bytes

unfoldable pub number_in : List ℕ → Form
number_in bytes = if first_is bytes 45 then unsigned_in (drop 1 bytes) else unsigned_in bytes

abbrev pub number_run : List ℕ → List ℕ
number_run bytes = take (prefix_len is_number_byte bytes) bytes

-- what a run tells that reaches the end of the bytes, or that does not
abbrev pub form_scan : Form → ℕ → Bool → Scan ℕ
form_scan Number run ends = Whole run run
form_scan Front run ends = if ends then Short else Bad 0
form_scan Other run ends = Bad 0

unfoldable pub number_at : List ℕ → Scan ℕ
number_at bytes = form_scan (number_in (number_run bytes)) (length (number_run bytes)) (length (number_run bytes) == length bytes)

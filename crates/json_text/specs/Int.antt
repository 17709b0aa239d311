-- Integers: `0`, or an optional `-`, a digit 1 to 9 and digits.
use Rattle.std.specs.Prelude.{ℕ, ℤ, pos, negsuc, ◌+◌, ◌-◌, ◌*◌, List, [], ◌∷◌, length, take, drop, Bool, not, ◌&&◌, ◌||◌, ◌==◌, nat_lt, nat_le, int_lt, ◌≤ℤ◌, Option, Some, None, if◌then◌else◌, slice_index}
use Rattle.std.specs.List.{prefix_len}
use Rattle.std.specs.Char.{is_ascii_digit}
use Rattle.json_text.specs.declared.scanned.Scan.{Scan}
use Rattle.json_text.specs.declared.scanned.Scan.TheVariants.{Whole, Short, Bad}

-- a byte of the longest run of an integer
abbrev pub is_int_byte : ℕ → Bool
is_int_byte x = is_ascii_digit x || (x == 45)

-- the value of digits behind others of value `so_far`; None at another byte, and past any 64-bit integer
unfoldable pub digits_from : ℕ → List ℕ → Option ℕ
digits_from so_far [] = Some so_far
digits_from so_far (x ∷ xs) = if is_ascii_digit x && nat_le so_far 1000000000000000000 then digits_from (so_far * 10 + (x - 48)) xs else None

-- digits that begin with 0 only where they are `0`
unfoldable pub magnitude : List ℕ → Option ℕ
magnitude digits =
    if length digits == 0 then None
    else if (slice_index digits 0 == 48) && not (length digits == 1) then None
    else digits_from 0 digits

abbrev pub positive : Option ℕ → Option ℤ
positive None = None
positive (Some n) = if nat_lt n 9223372036854775808 then Some (pos n) else None

abbrev pub negative : Option ℕ → Option ℤ
negative None = None
negative (Some n) = if (n == 0) || nat_lt 9223372036854775808 n then None else Some (negsuc (n - 1))

-- the integer that these bytes spell
unfoldable pub integer : List ℕ → Option ℤ
integer bytes =
    if not (length bytes == 0) && (slice_index bytes 0 == 45) then negative (magnitude (drop 1 bytes)) else positive (magnitude bytes)

-- some integer from low to high begins so, where low is at most 1 and high at least 0
abbrev pub can_grow : ℤ → List ℕ → Bool
can_grow low run = (length run == 0) || ((length run == 1) && (slice_index run 0 == 45) && int_lt low (pos 0))

abbrev pub within : ℤ → ℤ → Option ℤ → Option ℤ
within low high (Some v) = if int_lt v low || int_lt high v then None else Some v
within low high None = None

abbrev pub run_scan : ℤ → List ℕ → List ℕ → Option ℤ → Scan ℤ
run_scan low run bytes (Some v) = Whole v (length run)
run_scan low run bytes None = if (length run == length bytes) && can_grow low run then Short else Bad 0

abbrev pub int_run : List ℕ → List ℕ
int_run bytes = take (prefix_len is_int_byte bytes) bytes

unfoldable pub int_at : ℤ → ℤ → List ℕ → Scan ℤ
int_at low high bytes = run_scan low (int_run bytes) bytes (within low high (integer (int_run bytes)))

abbrev pub told : Option ℤ → ℕ → ℕ → Bool → Scan ℤ
told (Some v) at stop early = Whole v stop
told None at stop early = if early then Short else Bad at

-- the number lies in the range
abbrev pub IsBetween : ℤ → ℤ → Scan ℤ → Type 0
IsBetween low high (Whole v after) = (low ≤ℤ v) × (v ≤ℤ high)
IsBetween low high Short = Unit {0}
IsBetween low high (Bad place) = Unit {0}

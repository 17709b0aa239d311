-- Names of hosts.
use Rattle.std.specs.Prelude.{ℕ, ◌==◌, ◌&&◌, ◌||◌, List, [], ◌∷◌, length, take, Bool, not, if◌then◌else◌, nat_lt, nat_le}
use Rattle.std.specs.List.{list_all}
use Rattle.peer_addresses.specs.Places.{place}
use Rattle.peer_addresses.specs.declared.name.TheConstants.{MOST_NAME}

-- `0` (48) to `9` (57)
abbrev pub is_digit : ℕ → Bool
is_digit byte = nat_le 48 byte && nat_le byte 57

-- `A` (65) to `Z` (90) and `a` (97) to `z` (122)
abbrev pub is_letter : ℕ → Bool
is_letter byte = (nat_le 65 byte && nat_le byte 90) || (nat_le 97 byte && nat_le byte 122)

-- letters, digits, `-` (45), `_` (95) and `.` (46)
abbrev pub is_name_byte : ℕ → Bool
is_name_byte byte = is_letter byte || (is_digit byte || (byte == 45 || (byte == 95 || byte == 46)))

-- what stands behind the last dot, or all where there is none
abbrev pub last_label : List ℕ → List ℕ
last_label [] = []
last_label (byte ∷ rest) =
    if nat_lt (place 46 rest) (length rest) then last_label rest
    else (if byte == 46 then rest else byte ∷ rest)

-- digits alone, one at least
abbrev pub is_number : List ℕ → Bool
is_number label = nat_lt 0 (length label) && list_all is_digit label

-- 1 to 253 bytes, whose last label isn't digits alone
abbrev pub is_name : List ℕ → Bool
is_name word = nat_lt 0 (length word) && (nat_le (length word) MOST_NAME && (list_all is_name_byte word && not (is_number (last_label word))))

-- what stands before the first colon
abbrev pub name_in : List ℕ → List ℕ
name_in word = take (place 58 word) word

-- What stands at the front of the bytes that are held.
use Rattle.std.specs.Prelude.{ℕ, ◌-◌, ℤ, List, length, take, drop, nat_lt, if◌then◌else◌, Bool, true, false, Option, None, Some}
use Rattle.std.specs.Int.{from_be_bytes, cast_signed, w32}

-- less than a frame, a whole one with what stands behind it, or a length that is negative or above the limit
pub data Front : Type 0 where
  Part : Front
  Whole : List ℕ → List ℕ → Front
  Large : ℤ → Front

-- what stands at the front: four bytes of length, the high one first, and that many bytes. A negative length, read
-- without its sign, is above each limit below 2 ^ 31
unfoldable pub front : ℕ → List ℕ → Front
front limit bytes =
    if nat_lt (length bytes) 4 then Part
    else if nat_lt limit (from_be_bytes w32 (take 4 bytes)) then Large (cast_signed w32 (from_be_bytes w32 (take 4 bytes)))
    else if nat_lt (length bytes - 4) (from_be_bytes w32 (take 4 bytes)) then Part
    else Whole (take (from_be_bytes w32 (take 4 bytes)) (drop 4 bytes)) (drop (from_be_bytes w32 (take 4 bytes)) (drop 4 bytes))

-- what is held once the frame at the front is let go
abbrev pub behind : List ℕ → Front → List ℕ
behind held (Whole frame rest) = rest
behind held Part = held
behind held (Large n) = held

abbrev pub is_part : Front → Bool
is_part Part = true
is_part (Whole frame rest) = false
is_part (Large n) = false

abbrev pub is_whole : Front → Bool
is_whole Part = false
is_whole (Whole frame rest) = true
is_whole (Large n) = false

-- the size of the whole frame, where one stands there
abbrev pub whole_size : Front → Option ℕ
whole_size Part = None
whole_size (Whole frame rest) = Some (length frame)
whole_size (Large n) = None

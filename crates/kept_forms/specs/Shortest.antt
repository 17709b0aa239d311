-- What the Compact protocol's writer chooses where there is a choice.
use Rattle.std.specs.Prelude.{◌≡◌, ℕ, ℤ, ◌+◌, ◌-◌, ◌/◌, ◌%◌, ◌<◌, ◌≤◌, List, None, drop, get_or}
use Rattle.varint_zigzag.specs.Standing.{StandsShortest}
use Rattle.compact_protocol.specs.Plain.{short_step}

-- A varint that stands between two places has no more bytes than it needs: it has one byte, or its last isn't 0.
abbrev pub IsTight : List ℕ → ℕ → ℕ → Type 0
IsTight frame begin behind = begin + 1 < behind → 0 < get_or frame (behind - 1) 0

-- a field's id stands in full only where the field's byte can't tell it, and is short
abbrev pub IsOwnId : List ℕ → ℕ → ℕ → ℤ → ℤ → Type 0
IsOwnId frame at behind last id = at + 1 < behind → (short_step last id ≡ None) × IsTight frame (at + 1) behind

-- the size of a list or set stands in full only where the first byte can't tell it, and is short
abbrev pub IsOwnSize : List ℕ → ℕ → ℕ → ℕ → Type 0
IsOwnSize frame at behind size = at + 1 < behind → (15 ≤ size) × IsTight frame (at + 1) behind

-- neither kind of a map's pairs has the code of bool that isn't written, and their size is short
abbrev pub IsOwnHead : List ℕ → ℕ → ℕ → Type 0
IsOwnHead frame at behind =
    (get_or frame (behind - 1) 0 / 16 ≡ 2 → ⊥) × (get_or frame (behind - 1) 0 % 16 ≡ 2 → ⊥) × IsTight frame at (behind - 1)

-- two numbers of 32 bits stand from a place on, one behind the other, each by its shortest bytes
abbrev pub AreShortest : List ℕ → ℕ → Type 0
AreShortest frame at =
    (first : ℕ) × (second : ℕ) × StandsShortest 5 32 (drop at frame) first × StandsShortest 5 32 (drop (at + first) frame) second

-- The sequence number and the length of a header's name, which begins at a place, have their shortest bytes: where they have
-- one each they have no others.
abbrev pub IsOwnFront : List ℕ → ℕ → Type 0
IsOwnFront frame begin = 4 < begin → AreShortest frame 2

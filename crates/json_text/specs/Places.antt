-- Places in some bytes, and what stands between them.
use Rattle.std.specs.Prelude.{◌≡◌, ℕ, ◌+◌, ◌≤◌, ◌<◌, List, length, drop, Bool, nat_le, slice_index}
use Rattle.std.specs.List.{prefix_len}
use Rattle.json_text.specs.Text.{is_plain}

-- behind one place, and before the end
abbrev pub IsInside : List ℕ → ℕ → ℕ → Type 0
IsInside bytes at behind = (at < behind) × (behind < length bytes)

-- the bytes from one place to another are ASCII
abbrev pub IsAsciiRun : List ℕ → ℕ → ℕ → Type 0
IsAsciiRun bytes at behind = (i : ℕ) → at ≤ i → i < behind → slice_index bytes i < 128

-- a byte that is not ASCII
abbrev pub is_high : ℕ → Bool
is_high x = nat_le 128 x

-- the first byte from a place on that is not plain, or the end of the first so many
abbrev pub StopsAt : List ℕ → ℕ → ℕ → ℕ → Type 0
StopsAt bytes from size stop = (from ≤ stop) × (stop ≤ size) × (stop ≤ from + prefix_len is_plain (drop from bytes)) × (stop < size → stop ≡ from + prefix_len is_plain (drop from bytes))

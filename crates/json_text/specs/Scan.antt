-- What a scan answers, and how what stands before an item moves its places.
use Rattle.std.specs.Prelude.{◌≡◌, ℕ, ◌+◌, ◌≤◌, Bool, ◌||◌, ◌==◌, List, length, take}
use Rattle.json_text.specs.declared.scanned.Scan.{Scan}
use Rattle.json_text.specs.declared.scanned.Scan.TheVariants.{Whole, Short, Bad}

-- a space, tab, LF or CR
abbrev pub is_white : ℕ → Bool
is_white x = (x == 32) || (x == 9) || (x == 13) || (x == 10)

-- the same item behind so many bytes
abbrev pub moved : {X : Type 0} → ℕ → Scan X → Scan X
moved at (Whole x after) = Whole x (at + after)
moved at Short = Short
moved at (Bad place) = Bad (at + place)

-- neither the item nor the place of its fault goes past so many bytes
abbrev pub IsWithin : {X : Type 0} → ℕ → Scan X → Type 0
IsWithin size (Whole x after) = after ≤ size
IsWithin size Short = Unit {0}
IsWithin size (Bad place) = place ≤ size

-- the bytes that the scan gives stand at the front of the room
abbrev pub Reads : Scan ℕ → List ℕ → Scan (List ℕ) → Type 0
Reads (Whole count after) room scan = (scan ≡ Whole (take count room) after) × (count ≤ length room)
Reads Short room scan = scan ≡ Short
Reads (Bad place) room scan = scan ≡ Bad place

-- so many bytes, behind that place, and the two quotes end there at the earliest
abbrev pub IsShorterThan : ℕ → Scan ℕ → Type 0
IsShorterThan at (Whole count after) = count + at + 2 ≤ after
IsShorterThan at Short = Unit {0}
IsShorterThan at (Bad place) = Unit {0}

-- so many bytes, from that place to where they end
abbrev pub IsSpan : ℕ → Scan ℕ → Type 0
IsSpan at (Whole count after) = at + count ≡ after
IsSpan at Short = Unit {0}
IsSpan at (Bad place) = Unit {0}

-- no more bytes than those from that place to where they end
abbrev pub IsNoLonger : ℕ → Scan ℕ → Type 0
IsNoLonger at (Whole count after) = at + count ≤ after
IsNoLonger at Short = Unit {0}
IsNoLonger at (Bad place) = Unit {0}

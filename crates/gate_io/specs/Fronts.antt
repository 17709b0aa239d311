-- Bytes of which a front was written, or that wait.
use Rattle.std.specs.Prelude.{◌≡◌, ◌++◌, ℕ, ◌≤◌, List, length, take, Option}
use Rattle.std.specs.Io.KnownBytes.{Appends}

-- a front of some bytes was written
abbrev pub AppendsFront : Option (List ℕ) → Option (List ℕ) → List ℕ → Type 0
AppendsFront old new bytes = (count : ℕ) × (count ≤ length bytes) × Appends old new (take count bytes)

-- some bytes more were written, the first of those that waited, and the others still wait
abbrev pub Flushed : Option (List ℕ) → List ℕ → Option (List ℕ) → List ℕ → Type 0
Flushed written waiting written' waiting' = (sent : List ℕ) × Appends written written' sent × (waiting ≡ sent ++ waiting')

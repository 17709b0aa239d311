-- What a read says of the bytes that were left and are left, and of where they now stand.
use Rattle.std.specs.Prelude.{◌≡◌, ℕ, ◌+◌, ◌<◌, ◌≤◌, List, ◌++◌, length, take, drop, Option}
use Rattle.std.specs.Io.KnownBytes.{Keeps, Consumes, IsAtEnd}
use Rattle.gate_io.specs.Buffer.{Buffer}
use Rattle.gate_io.specs.declared.byte_streams.Got.{Got}
use Rattle.gate_io.specs.declared.byte_streams.Got.TheVariants.{Bytes, End, Failed}

-- of the slice that was read into
abbrev pub Reads : Option (List ℕ) → Option (List ℕ) → List ℕ → Got → Type 0
Reads old new into (Bytes n) = (0 < n) × (n ≤ length into) × Consumes old new (take n into)
Reads old new into End = IsAtEnd new × Keeps old new
Reads old new into Failed = Keeps old new

-- of the buffer whose bytes were added to, by at most so many
abbrev pub Fills : Option (List ℕ) → Option (List ℕ) → Buffer → Buffer → ℕ → Got → Type 0
Fills old new a b most (Bytes n) =
    (0 < n) × (n ≤ most) × ((piece : List ℕ) × (length piece ≡ n) × (b ≡ record a { bytes = a.bytes ++ piece }) × Consumes old new piece)
Fills old new a b most End = IsAtEnd new × Keeps old new × (b ≡ a)
Fills old new a b most Failed = Keeps old new × (b ≡ a)

-- of the cells behind a window of this start and length
abbrev pub FillsCells : ℕ → ℕ → Option (List ℕ) → Option (List ℕ) → List ℕ → List ℕ → ℕ → Got → Type 0
FillsCells start len old new cells cells' most (Bytes n) =
    (0 < n) × (n ≤ most) × (start + len + n ≤ length cells')
    × ((piece : List ℕ) × (length piece ≡ n) × (take (len + n) (drop start cells') ≡ take len (drop start cells) ++ piece) × Consumes old new piece)
FillsCells start len old new cells cells' most End = IsAtEnd new × Keeps old new × (take len (drop start cells') ≡ take len (drop start cells))
FillsCells start len old new cells cells' most Failed = Keeps old new × (take len (drop start cells') ≡ take len (drop start cells))

-- A frame buffer as its callers see it.
use Rattle.std.specs.Prelude.{◌≡◌, ℕ, ◌<◌, ◌≤◌, List, ◌++◌, length, Option}
use Rattle.std.specs.Io.KnownBytes.{Keeps, Consumes, IsAtEnd}
use Rattle.gate_io.specs.declared.byte_streams.Got.{Got}
use Rattle.gate_io.specs.declared.byte_streams.Got.TheVariants.{Bytes, End, Failed}

-- the bytes that came and are not taken, and the greatest length of a frame
pub record Held : Type 0 where
  pub held : List ℕ
  pub limit : ℕ

-- what a read of at most so many bytes says of what the source had left and has left, and of what is held
abbrev pub Receives : Option (List ℕ) → Option (List ℕ) → Held → Held → ℕ → Got → Type 0
Receives left left' a b most (Bytes n) =
    (0 < n) × (n ≤ most) × ((piece : List ℕ) × (length piece ≡ n) × (b ≡ record a { held = a.held ++ piece }) × Consumes left left' piece)
Receives left left' a b most End = IsAtEnd left' × Keeps left left' × (b ≡ a)
Receives left left' a b most Failed = Keeps left left' × (b ≡ a)

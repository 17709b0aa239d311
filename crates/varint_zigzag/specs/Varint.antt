-- Numbers of seven bits a byte, the low ones first (ULEB128, as the Compact protocol specification has it). Every byte
-- but the last has its high bit set.
use Rattle.std.specs.Prelude.{◌≡◌, ℕ, zero, suc, ◌+◌, ◌*◌, ◌/◌, ◌%◌, ◌^◌, ◌-◌, ◌<◌, ◌≤◌, List, [], ◌∷◌, ◌++◌, length, take, nat_lt, nat_le, if◌then◌else◌, Result, Ok, Err}
use Rattle.varint_zigzag.specs.declared.fault.VarFault.{VarFault}
use Rattle.varint_zigzag.specs.declared.fault.VarFault.TheVariants.{Short, Bad}

-- A byte below 128 is the last, and stands for itself. One from 128 on has the low seven bits, and the bytes
-- after it stand for the rest, which may be 0: so a number may be padded.
abbrev pub IsVarint : List ℕ → ℕ → Type 0
IsVarint [] n = ⊥
IsVarint (b ∷ []) n = (b < 128) × (n ≡ b)
IsVarint (b ∷ c ∷ bs) n = (128 ≤ b) × (b < 256) × (high : ℕ) × (n + 128 ≡ b + 128 * high) × IsVarint (c ∷ bs) high

-- a number of so many bits, in at most so many bytes
pub record Spells (most width : ℕ) (bytes : List ℕ) (n : ℕ) : Type 0 where
  pub form : IsVarint bytes n
  pub within : length bytes ≤ most
  pub fits : n < 2 ^ width

-- with some bytes more, but not without, they are such a number
pub record CanBecome (most width : ℕ) (bytes : List ℕ) : Type 0 where
  pub byte : ℕ
  pub more : List ℕ
  pub number : ℕ
  pub spelled : Spells most width (bytes ++ byte ∷ more) number

-- however they go on, no front of them is such a number
pub record BeginsNone (most width : ℕ) (bytes : List ℕ) : Type 0 where
  pub none : (more : List ℕ) (len number : ℕ) → Spells most width (take len (bytes ++ more)) number → ⊥

-- the seven bits below a number that some bytes spell
abbrev pub below : ℕ → Result (ℕ × ℕ) VarFault → Result (ℕ × ℕ) VarFault
below low (Ok x) = Ok (low + 128 * x.0, x.1 + 1)
below low (Err fault) = Err fault

-- the number at the front of some bytes, of so many bits, in at most so many bytes, and how many bytes it takes
abbrev pub varint_at : ℕ → ℕ → List ℕ → Result (ℕ × ℕ) VarFault
varint_at zero width bytes = Err Bad
varint_at (suc most) width [] = Err Short
varint_at (suc most) width (b ∷ bs) =
    if nat_le (2 ^ width) (b % 128) then Err Bad
    else if nat_lt b 128 then Ok (b, 1)
    else below (b % 128) (varint_at most (width - 7) bs)

-- the fewest bytes of a number below 128 ^ groups
abbrev pub shortest_in : ℕ → ℕ → List ℕ
shortest_in zero n = []
shortest_in (suc groups) n = if nat_lt n 128 then n ∷ [] else (n % 128 + 128) ∷ shortest_in groups (n / 128)

-- the fewest bytes of a number below 2 ^ 64
unfoldable pub shortest : ℕ → List ℕ
shortest n = shortest_in 10 n

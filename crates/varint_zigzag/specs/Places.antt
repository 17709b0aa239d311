-- Numbers at a place, and the groups of seven bits that they are made of.
use Rattle.std.specs.Prelude.{◌≡◌, ℕ, zero, suc, ◌+◌, ◌*◌, ◌/◌, ◌%◌, ◌^◌, ◌<◌, ◌≤◌, Bool, if◌then◌else◌, nat_lt, List, [], ◌∷◌, length, take, Option, Some, None, Result, Ok, Err}
use Rattle.std.specs.Simd.Lanes.{number_l}
use Rattle.varint_zigzag.specs.declared.fault.VarFault.{VarFault}

-- the number that was found at a place, and the place behind it
abbrev pub found_at : ℕ → Result (ℕ × ℕ) VarFault → Option (ℕ × ℕ)
found_at at (Ok x) = Some (x.0, at + x.1)
found_at at (Err fault) = None

-- a byte below 128 is a number's last
abbrev pub is_last : ℕ → Bool
is_last b = nat_lt b 128

-- the high bit for a byte that ends a number, and 0 for any other
abbrev pub end_mark : ℕ → ℕ
end_mark b = if is_last b then 128 else 0

-- so many bytes end a number: each but the last has its high bit set
abbrev pub IsEnded : ℕ → List ℕ → Type 0
IsEnded zero bytes = ⊥
IsEnded (suc zero) [] = ⊥
IsEnded (suc zero) (b ∷ bytes) = b < 128
IsEnded (suc (suc n)) [] = ⊥
IsEnded (suc (suc n)) (b ∷ bytes) = (128 ≤ b) × IsEnded (suc n) bytes

-- the number that the seven low bits of so many bytes make, the lowest first
abbrev pub groups_of : ℕ → List ℕ → ℕ
groups_of zero bytes = 0
groups_of (suc n) [] = 0
groups_of (suc n) (b ∷ bytes) = b % 128 + 128 * groups_of n bytes

-- the number that the seven low bits of so many bytes of a word make, the lowest first
abbrev pub groups_in : ℕ → ℕ → ℕ
groups_in zero word = 0
groups_in (suc n) word = word % 128 + 128 * groups_in n (word / 256)

-- the bytes begin with a number of so many bytes, which lie among eight and make this word
pub record IsFront (bytes : List ℕ) (own count : ℕ) : Type 0 where
  pub room : 8 ≤ length bytes
  pub ended : IsEnded count bytes
  pub own_is : own ≡ number_l 256 (take 8 bytes) % 2 ^ (8 * count)
  pub few : count ≤ 8

abbrev pub AllBelow : ℕ → List ℕ → Type 0
AllBelow bound [] = Unit {0}
AllBelow bound (x ∷ xs) = (x < bound) × AllBelow bound xs

-- eight groups of seven bits
pub record AreGroups (groups : List ℕ) : Type 0 where
  pub eight : length groups ≡ 8
  pub small : AllBelow 128 groups

-- the highest bit of a number is at this place, which is 0 where the number is 0
pub record HasTop (v top : ℕ) : Type 0 where
  pub below : v < 2 ^ suc top
  pub above : 0 < top → 2 ^ top ≤ v

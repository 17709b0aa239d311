-- Numbers that stand by their shortest bytes.
use Rattle.std.specs.Prelude.{◌≡◌, ℕ, ◌≤◌, List, take, Ok}
use Rattle.varint_zigzag.specs.Varint.{varint_at, shortest}
use Rattle.varint_zigzag.specs.Places.{IsEnded, groups_of}

-- the bytes begin with a number, in so many of them, at most eight, and no fewer spell it
pub record IsShortestFront (bytes : List ℕ) (count : ℕ) : Type 0 where
  pub ended : IsEnded count bytes
  pub few : count ≤ 8
  pub shortest_is : take count bytes ≡ shortest (groups_of count bytes)

-- a number of so many bits, in at most so many bytes, stands at the front by its shortest, so many of them
pub record StandsShortest (most width : ℕ) (front : List ℕ) (count : ℕ) : Type 0 where
  pub number : ℕ
  pub stands : varint_at most width front ≡ Ok (number, count)
  pub shortest_is : take count front ≡ shortest number

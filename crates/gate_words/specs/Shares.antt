-- The part of a server's sessions that one of its threads serves.
use Rattle.std.specs.Prelude.{ℕ, zero, suc, ◌+◌, ◌/◌, ◌%◌, if◌then◌else◌, nat_lt}

-- the threads have the same number each; of those that are left the first threads have one more each
abbrev pub share : ℕ → ℕ → ℕ → ℕ
share sessions threads at = if nat_lt at (sessions % threads) then sessions / threads + 1 else sessions / threads

-- what the first n of so many threads have
abbrev pub first_shares : ℕ → ℕ → ℕ → ℕ
first_shares sessions threads zero = 0
first_shares sessions threads (suc n) = first_shares sessions threads n + share sessions threads n

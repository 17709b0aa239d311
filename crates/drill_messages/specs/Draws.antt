-- Numbers that are drawn one after another from a state: a linear congruential generator modulo 2^64 with the constants
-- of Knuth's MMIX, of which each draw gives the high 31 bits.
use Rattle.std.specs.Prelude.{ℕ, zero, suc, ◌+◌, ◌*◌, ◌/◌, ◌%◌, ◌^◌, List, [], ◌∷◌}

unfoldable pub stepped : ℕ → ℕ
stepped s = (s * 6364136223846793005 + 1442695040888963407) % 2 ^ 64

-- the next draw from a state
unfoldable pub draw : ℕ → ℕ
draw s = stepped s / 2 ^ 33

-- so many draws
abbrev pub draws : ℕ → ℕ → List ℕ
draws zero s = []
draws (suc n) s = draw s ∷ draws n (stepped s)

-- the state behind so many draws
abbrev pub behind : ℕ → ℕ → ℕ
behind zero s = s
behind (suc n) s = behind n (stepped s)

-- a draw says how many are drawn, fewer than `most`, and they follow
abbrev pub some : ℕ → ℕ → List ℕ
some most s = draws (draw s % most) (stepped s)

abbrev pub behind_some : ℕ → ℕ → ℕ
behind_some most s = behind (draw s % most) (stepped s)

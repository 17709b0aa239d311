-- A buffer whose last bytes are lent to be written.
use Rattle.std.specs.Prelude.{ℕ, List, ◌++◌, length, take, drop}
use Rattle.std.specs.Borrow.{Lends, MutBor, Fml, Array, u8}
use Rattle.gate_io.specs.Buffer.{Buffer}
use Rattle.gate_io.specs.contracts.buffer.Out.{the_row}

-- some bytes once those of a slice were written over them: a slice keeps its length, so they are all of them
abbrev pub written_over : List ℕ → List ℕ → List ℕ
written_over before written = take (length before) (written ++ drop (length written) before)

-- bytes were appended: those that the loan of them leaves
abbrev pub LendsTail : MutBor Buffer → MutBor (List ℕ) → Fml
LendsTail out tail =
    Lends the_row (Array u8 0) out tail (λ written. record (out.now) { bytes = out.now.bytes ++ written_over tail.now written })

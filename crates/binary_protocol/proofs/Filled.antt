-- Cells that were lent and filled to their end.
use Rattle.std.proofs.Common.{◌≡◌, ℕ, List, length, take, arith, sym, ◌∙◌}
use Rattle.std.proofs.lemmas.List.{take_all}
use Rattle.gate_io.specs.Tails.{written_over}
use Rattle.gate_io.proofs.Tails.{written_all}

pub filled : (before written piece : List ℕ) (n : ℕ) → take n written ≡ piece → n ≡ length before → length written ≡ length before → written_over before written ≡ piece
filled before written piece n laid all kept = written_all before written kept ∙ sym (take_all n written (omega (arith, all, kept))) ∙ laid

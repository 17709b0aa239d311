-- What a caller gets of a tail that was lent, written, and cut.
use Rattle.std.proofs.Common.{◌≡◌, ℕ, ◌+◌, List, ◌++◌, length, take, drop, refl, sym, ◌∙◌, ap}
use Rattle.std.proofs.lemmas.List.{take_at}
use Rattle.std.proofs.Math.Seq.{take-append-add}
use Rattle.gate_io.specs.Tails.{written_over}

-- as many bytes as there were are all that is left
pub written_all : (before written : List ℕ) → length written ≡ length before → written_over before written ≡ written
written_all before written is =
    ap (λ n. take n (written ++ drop (length written) before)) (sym is) ∙ take_at written (drop (length written) before) (length written) refl

-- the first of them, behind the bytes that were held
pub cut_tail : (held before written piece : List ℕ) (n : ℕ) → length written ≡ length before → take n written ≡ piece → take (length held + n) (held ++ written_over before written) ≡ held ++ piece
cut_tail held before written piece n size is =
    take-append-add held (written_over before written) n ∙ ap (λ xs. held ++ xs) (ap (take n) (written_all before written size) ∙ is)

-- and none of them
pub cut_none : (held before written : List ℕ) → take (length held) (held ++ written_over before written) ≡ held
cut_none held before written = take_at held (written_over before written) (length held) refl

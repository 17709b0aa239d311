use Rattle.std.proofs.Common.{ℕ, zero, suc, ◌<◌, List, [], ◌∷◌, get_or, arith}
use Rattle.gate_base.specs.Bytes.{AreBytes}
use Rattle.framed_transport.proofs.Splitting.{split}
use Rattle.framed_transport.proofs.laws.a_stream_is_split.Goals as goal

each_small : (xs : List ℕ) → AreBytes xs → (i : ℕ) → get_or xs i 0 < 256
each_small [] all i = omega arith
each_small (x ∷ xs) all zero = all.0
each_small (x ∷ xs) all (suc i) = each_small xs all.1 i

pub returns : goal.returns
returns c = λ limit bytes small all.
    let s = split limit bytes small (each_small bytes all) in
    record { frames = s.0; rest = s.1; splits = s.2 }

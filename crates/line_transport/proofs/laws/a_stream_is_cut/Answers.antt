use Rattle.std.proofs.Common.{ℕ, zero, suc, ◌^◌, ◌<◌, List, [], ◌∷◌, get_or, arith}
use Rattle.gate_base.specs.Bytes.{AreBytes}
use Rattle.framed_transport.proofs.Splitting.{split}
use Rattle.line_transport.specs.Cuts.{Cutting}
use Rattle.line_transport.specs.declared.transport.Transport.{Transport}
use Rattle.line_transport.specs.declared.transport.Transport.TheVariants.{Frames, Lines}
use Rattle.line_transport.proofs.Spanning.{lines_cut, of_splits}
use Rattle.line_transport.proofs.laws.a_stream_is_cut.Goals as goal

each_small : (xs : List ℕ) → AreBytes xs → (i : ℕ) → get_or xs i 0 < 256
each_small [] all i = omega arith
each_small (x ∷ xs) all zero = all.0
each_small (x ∷ xs) all (suc i) = each_small xs all.1 i

cutting : (t : Transport) (limit : ℕ) (bytes : List ℕ) → limit < 2 ^ 31 → AreBytes bytes → Cutting t limit bytes
cutting Frames limit bytes small all =
    let s = split limit bytes small (each_small bytes all) in
    record { messages = s.0; rest = s.1; cuts = of_splits limit bytes s.0 s.1 s.2 }
cutting Lines limit bytes small all =
    let s = lines_cut limit bytes in
    record { messages = s.0; rest = s.1; cuts = s.2 }

pub returns : goal.returns
returns c = cutting

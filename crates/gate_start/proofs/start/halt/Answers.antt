use Rattle.std.proofs.Common.{refl}
use Rattle.gate_start.proofs.start.halt.Goals as goal

pub returns-in-Refused-clause-halts : goal.returns-in-Refused-clause-halts
returns-in-Refused-clause-halts g c = λ left written input output. rw c.in-Refused.is (c.refuse.ensures.halts left written input output)

pub returns-in-FileFault-clause-halts : goal.returns-in-FileFault-clause-halts
returns-in-FileFault-clause-halts g c = λ left written input output.
    rw c.in-FileFault.is (record { left = refl; written = refl; front = c.end_with.ensures.front; whole = c.end_with.ensures.whole; is = c.end_with.ensures.ending })

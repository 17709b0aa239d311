use Rattle.std.proofs.Common.{◌≡◌, ◌+◌, ◌*◌, ◌≤◌, length, take}
use Rattle.drill_messages.specs.Events.{pairs}
use Rattle.drill_messages.specs.Writers.{Writes}
use Rattle.drill_messages.proofs.putting.put_pairs.Given as goal

-- the pairs before the place were written
abbrev pub invariant-loop-flag : goal.invariant-loop-flag
invariant-loop-flag g l =
    let writer = g.W.WireWrite in
    record {
      written : Writes writer.plain writer.after l.fn.writer l.fn.out l.writer l.out (pairs 97 (take l.flag-index l.flags));
      key : l.key ≡ 97 + l.flag-index;
      depth : writer.depth l.writer ≡ 4;
      short : length l.out.bytes ≤ length l.fn.out.bytes + 16 * l.flag-index;
    }

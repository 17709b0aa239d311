use Rattle.std.proofs.Common.{◌≡◌, ◌+◌, ◌*◌, ◌≤◌, length, take}
use Rattle.drill_messages.specs.Events.{numbers}
use Rattle.drill_messages.specs.Writers.{Writes}
use Rattle.drill_messages.proofs.putting.put_numbers.Given as goal

-- the numbers before the place were written
abbrev pub invariant-loop-mark : goal.invariant-loop-mark
invariant-loop-mark g l =
    let writer = g.W.WireWrite in
    record {
      written : Writes writer.plain writer.after l.fn.writer l.fn.out l.writer l.out (numbers (take l.mark-index l.marks));
      depth : writer.depth l.writer ≡ 4;
      short : length l.out.bytes ≤ length l.fn.out.bytes + 15 * l.mark-index;
    }

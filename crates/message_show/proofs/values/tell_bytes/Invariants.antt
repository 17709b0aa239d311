use Rattle.std.proofs.Common.{◌≤◌, ◌-◌, length, flat_map, take}
use Rattle.message_show.specs.Texts.{byte_text}
use Rattle.message_show.specs.Pieces.{Tells, output}
use Rattle.message_show.proofs.values.tell_bytes.Given as goal

-- the bytes before the place were told
abbrev pub invariant-loop-at : goal.invariant-loop-at
invariant-loop-at g l =
    let sink = g.O.Sink in
    record {
      within : l.at ≤ length l.bytes;
      told : Tells (output (sink.written l.fn.out) (sink.faults l.fn.out)) l.fn.line (output (sink.written l.out) (sink.faults l.out)) l.line (flat_map byte_text (take l.at l.bytes));
    }

abbrev pub decreases-loop-at : goal.decreases-loop-at
decreases-loop-at g l = length l.bytes - l.at

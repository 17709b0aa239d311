use Rattle.std.proofs.Common.{◌-◌, ◌≤◌, length, take}
use Rattle.std.specs.Io.KnownBytes.{Appends}
use Rattle.gate_io.proofs.writing.write_all.Given as goal

-- the bytes before the place were written
abbrev pub invariant-loop-at : goal.invariant-loop-at
invariant-loop-at g l =
    let sink = g.S.Sink in
    record {
      within : l.at ≤ length l.bytes;
      written : Appends (sink.written l.fn.sink) (sink.written l.sink) (take l.at l.bytes);
      later : sink.faults l.fn.sink ≤ sink.faults l.sink;
    }

abbrev pub decreases-loop-at : goal.decreases-loop-at
decreases-loop-at g l = length l.bytes - l.at

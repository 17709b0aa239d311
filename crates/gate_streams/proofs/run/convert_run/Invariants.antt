use Rattle.std.proofs.Common.{◌≡◌, ◌≤◌, ◌-◌, length, take, drop}
use Rattle.gate_streams.specs.Running.{Runs}
use Rattle.gate_streams.proofs.run.convert_run.Given as goal

-- the frames so far passed, and what is sent of them stands in the cells
abbrev pub invariant-frames : goal.invariant-frames
invariant-frames g l = record {
  read : l.read ≤ length l.held;
  written : l.written ≤ length l.cells;
  kept : length l.cells ≡ length l.fn.cells;
  counted : l.frames ≤ l.read;
  runs : Runs l.task l.held (drop l.read l.held) l.frames (take l.written l.cells);
}

abbrev pub decreases-frames : goal.decreases-frames
decreases-frames g l = length l.held - l.read

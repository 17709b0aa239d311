use Rattle.std.proofs.Common.{◌+◌, ◌-◌, ◌≤◌, vec_len}
use Rattle.gate_io.specs.Fetching.{longest_file}
use Rattle.gate_io.proofs.disk.read_whole.Given as goal

abbrev pub invariant-loop-len : goal.invariant-loop-len
invariant-loop-len g l = l.len ≤ vec_len l.bytes

abbrev pub decreases-loop-len : goal.decreases-loop-len
decreases-loop-len g l = longest_file + 1 - l.len

use Rattle.std.proofs.Common.{◌≡◌, ◌≤◌, ◌+◌, ◌*◌, ◌++◌, drop, length}
use Rattle.std.specs.List.{flat_map}
use Rattle.gate_streams.specs.Lines.{next_text}
use Rattle.gate_streams.specs.declared.lines.TheConstants.{STEP_ROOM}
use Rattle.gate_streams.proofs.lines.push_steps.Given as goal

-- what was appended and what the steps that are left give are the text of all; each step has taken at most its room
abbrev pub invariant-steps : goal.invariant-steps
invariant-steps l = record {
  text : l.lines.bytes ++ flat_map next_text (drop l.step-index l.steps) ≡ l.fn.lines.bytes ++ flat_map next_text l.steps;
  room : l.lines.room ≡ l.fn.lines.room;
  within : length l.lines.bytes + STEP_ROOM * (length (drop l.step-index l.steps)) ≤ length l.fn.lines.bytes + STEP_ROOM * length l.steps;
}

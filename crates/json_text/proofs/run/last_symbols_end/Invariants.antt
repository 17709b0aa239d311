use Rattle.std.proofs.Common.{◌≡◌, ◌+◌, ◌-◌, ◌≤◌, length, drop}
use Rattle.std.specs.List.{prefix_len}
use Rattle.json_text.specs.Blob.{is_symbol}
use Rattle.json_text.proofs.run.last_symbols_end.Given as goal

abbrev pub invariant-loop-end : goal.invariant-loop-end
invariant-loop-end l =
    (l.at + prefix_len is_symbol (drop l.at l.bytes) ≡ l.«end» + prefix_len is_symbol (drop l.«end» l.bytes)) × (l.«end» ≤ length l.bytes)

abbrev pub decreases-loop-end : goal.decreases-loop-end
decreases-loop-end l = length l.bytes - l.«end»

use Rattle.std.proofs.Common.{◌≡◌, ℕ, ◌<◌, ◌≤◌, length, get_or}
use Rattle.gate_memory.specs.Link.{LinkState, unasked_link}
use Rattle.gate_memory.proofs.fan_session.forget_answers.Given as goal

-- the answers of the ports so far are forgotten
abbrev pub invariant-loop-port : goal.invariant-loop-port
invariant-loop-port l = record {
  long : length l.ports ≡ length l.fn.ports;
  before : (k : ℕ) (d : LinkState) → k < l.port-index → get_or l.ports k d ≡ unasked_link (get_or l.fn.ports k d);
  behind : (k : ℕ) (d : LinkState) → l.port-index ≤ k → get_or l.ports k d ≡ get_or l.fn.ports k d;
}

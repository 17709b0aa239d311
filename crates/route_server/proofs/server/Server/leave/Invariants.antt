use Rattle.std.proofs.Common.{◌≡◌, ℕ, List, Option, ◌-◌, ◌≤◌, ◌⊎◌, length, take}
use Rattle.gate_base.specs.Causes.{Rose}
use Rattle.gate_fan.specs.Meaning.{FanCall, Meaning}
use Rattle.gate_fan.specs.Fans.{Later}
use Rattle.gate_hub.specs.declared.hub.HubNext.{HubNext}
use Rattle.gate_io.specs.declared.writing.Wrote.TheVariants as wrote
use Rattle.route_server.specs.Saying.{Said}
use Rattle.route_server.specs.Serving.{Setting, Keeps, left_lines}
use Rattle.refusal_teller.specs.Tells.{Writes}
use Rattle.route_server.specs.Steps.{Leaves}
use Rattle.route_server.proofs.server.Server.leave.Given as goal

-- the sessions before the place are closed, and their lines were written
abbrev pub invariant-leaving : goal.invariant-leaving
invariant-leaving g l =
    let fan = g.M.Fan in
    let sink = g.O.Sink in
    let held = l.fn.self.sessions.items in
    record {
      kept : l.self.sessions ≡ l.fn.self.sessions;
      room : l.self.line.room ≡ l.fn.self.line.room;
      within : l.at ≤ length held;
      lines : l.fn.first ≡ wrote.All → Writes l.wrote (sink.written l.fn.output) (sink.written l.output) (left_lines (take l.at held));
      none : l.fn.first ≡ wrote.Failed → (l.wrote ≡ wrote.Failed) × (l.output ≡ l.fn.output);
      keeps : (set : Setting) (begun : Meaning) (spent : ℕ) (past : List Said) (busy : ℕ) (last : Option HubNext) (calls : List FanCall) → Keeps (fan.tells l.fn.fan) (fan.tells l.fan) (Leaves set begun spent held past busy last calls 0) (Leaves set begun spent held past busy last calls l.at);
      later : Later (fan.counts l.fn.fan) (fan.counts l.fan);
      output_later : sink.faults l.fn.output ≤ sink.faults l.output;
      cause : l.wrote ≡ wrote.Failed → (l.fn.first ≡ wrote.Failed) ⊎ Rose (sink.faults l.fn.output) (sink.faults l.output);
      stays : fan.target_count l.fan ≡ fan.target_count l.fn.fan;
    }

abbrev pub decreases-leaving : goal.decreases-leaving
decreases-leaving g l = length l.self.sessions.items - l.at

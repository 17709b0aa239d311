use Rattle.std.proofs.Common.{◌≡◌, List, [], ◌++◌, ◌-◌, ◌<◌, ◌≤◌, length}
use Rattle.gate_fan.specs.Meaning.{Meaning}
use Rattle.gate_fan.specs.Fans.{Later}
use Rattle.std.specs.Io.KnownBytes.{Appends}
use Rattle.route_server.specs.Saying.{Said, closings, said_lines}
use Rattle.route_server.specs.Serving.{HaveTargets, Setting, Keeps}
use Rattle.route_server.specs.Working.{IsBusy}
use Rattle.route_server.proofs.server.Server.settle.Given as goal

-- the session at the place was turned some times, and the lines of its refused frames were written
abbrev pub invariant-turns : goal.invariant-turns
invariant-turns g l =
    let fan = g.M.Fan in
    let sink = g.O.Sink in
    record {
      terms : l.self.terms ≡ l.fn.self.terms;
      room : l.self.line.room ≡ l.fn.self.line.room;
      within : l.fn.at < length l.self.sessions.items;
      told : (said : List Said) × (closings said ≡ []) × Appends (sink.written l.fn.output) (sink.written l.output) (said_lines (g.L.RefusalLines.text l.lines) said)
          × ((set : Setting) (begun : Meaning) (past : List Said) → Keeps (fan.tells l.fn.fan) (fan.tells l.fan) (IsBusy set begun l.fn.self.spent l.fn.at l.fn.self.sessions.items past) (IsBusy set begun l.self.spent l.fn.at l.self.sessions.items (past ++ said)));
      output_later : sink.faults l.fn.output ≤ sink.faults l.output;
      spent : l.fn.self.spent ≤ l.self.spent;
      budget : l.self.spent ≤ l.fn.self.terms.events;
      later : Later (fan.counts l.fn.fan) (fan.counts l.fan);
      stays : fan.target_count l.fan ≡ fan.target_count l.fn.fan;
      served : HaveTargets (fan.target_count l.fn.fan) l.self.sessions.items;
    }

abbrev pub decreases-turns : goal.decreases-turns
decreases-turns g l = l.self.terms.events - l.self.spent

use Rattle.std.proofs.Common.{◌≡◌, ◌-◌, ◌≤◌, Ok}
use Rattle.std.specs.Prelude.{⊤}
use Rattle.gate_fan.specs.Fans.{Later}
use Rattle.route_server.specs.Serving.{HaveTargets}
use Rattle.route_server.specs.Working.{Waits}
use Rattle.route_server.specs.Steps.{Goes, outside, setting_of}
use Rattle.route_server.proofs.server.Server.attend.Given as goal

-- every open session is settled, and the lines of those that have ended were written
abbrev pub invariant-serving : goal.invariant-serving
invariant-serving g l =
    let fan = g.M.Fan in
    let sink = g.O.Sink in
    let moment = outside fan.tells fan.counts sink.written sink.faults in
    let set = setting_of l.fn.self.terms in
    record {
      terms : l.self.terms ≡ l.fn.self.terms;
      room : l.self.line.room ≡ l.fn.self.line.room;
      goes : (x : ⊤) × Goes set (g.L.RefusalLines.text l.lines) (moment l.fn.fan l.fn.output) (moment l.fan l.output) (λ begun. Waits set begun l.fn.self.spent l.fn.self.sessions.items) l.self.spent l.self.sessions.items (Ok x);
      budget : l.self.spent ≤ l.fn.self.terms.events;
      later : Later (fan.counts l.fn.fan) (fan.counts l.fan);
      output_later : sink.faults l.fn.output ≤ sink.faults l.output;
      stays : fan.target_count l.fan ≡ fan.target_count l.fn.fan;
      served : HaveTargets (fan.target_count l.fn.fan) l.self.sessions.items;
    }

abbrev pub decreases-serving : goal.decreases-serving
decreases-serving g l = l.events - l.self.spent

use Rattle.std.proofs.Common.{◌≡◌, ◌-◌, ◌≤◌, Ok, length}
use Rattle.std.specs.Prelude.{⊤}
use Rattle.gate_hub.specs.Hubs.{Later}
use Rattle.proxy_server.specs.Calling.{piece_length}
use Rattle.proxy_server.specs.Working.{Waits}
use Rattle.proxy_server.specs.Steps.{Goes, outside, setting_of}
use Rattle.proxy_server.proofs.server.Server.attend.Given as goal

-- every open session is settled, and the lines of those that have ended were written
abbrev pub invariant-serving : goal.invariant-serving
invariant-serving g l =
    let hub = g.H.Hub in
    let sink = g.O.Sink in
    let rules = g.J.Judge.rules in
    let moment = outside hub.tells hub.counts sink.written sink.faults in
    let set = setting_of (g.P.Judges.rules l.judges) l.fn.self.limits in
    record {
      limits : l.self.limits ≡ l.fn.self.limits;
      room : l.self.line.room ≡ l.fn.self.line.room;
      goes : (x : ⊤) × Goes _ rules set (g.L.RefusalLines.text l.lines) (moment l.fn.hub l.fn.output) (moment l.hub l.output) (λ begun. Waits _ rules set begun l.fn.self.spent l.fn.self.sessions.items) l.self.spent l.self.sessions.items (Ok x);
      budget : l.self.spent ≤ l.fn.self.limits.events;
      later : Later (hub.counts l.fn.hub) (hub.counts l.hub);
      output_later : sink.faults l.fn.output ≤ sink.faults l.output;
      stays : hub.kept l.hub ≡ hub.kept l.fn.hub;
      piece : length l.piece ≡ piece_length;
    }

abbrev pub decreases-serving : goal.decreases-serving
decreases-serving g l = l.events - l.self.spent

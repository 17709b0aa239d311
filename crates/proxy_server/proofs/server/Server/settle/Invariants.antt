use Rattle.std.proofs.Common.{◌≡◌, List, [], ◌++◌, ◌-◌, ◌<◌, ◌≤◌, length}
use Rattle.gate_hub.specs.Meaning.{Meaning}
use Rattle.gate_hub.specs.Hubs.{Later}
use Rattle.std.specs.Io.KnownBytes.{Appends}
use Rattle.proxy_server.specs.Calling.{piece_length}
use Rattle.proxy_server.specs.Saying.{Said, closings, said_lines}
use Rattle.proxy_server.specs.Serving.{Setting, Keeps}
use Rattle.proxy_server.specs.Working.{IsBusy}
use Rattle.proxy_server.proofs.server.Server.settle.Given as goal

-- the session at the place was turned some times, and the lines of its refused frames were written
abbrev pub invariant-turns : goal.invariant-turns
invariant-turns g l =
    let hub = g.H.Hub in
    let sink = g.O.Sink in
    let rules = g.J.Judge.rules in
    record {
      limits : l.self.limits ≡ l.fn.self.limits;
      room : l.self.line.room ≡ l.fn.self.line.room;
      within : l.fn.at < length l.self.sessions.items;
      told : (said : List Said) × (closings said ≡ []) × Appends (sink.written l.fn.output) (sink.written l.output) (said_lines (g.L.RefusalLines.text l.lines) said)
          × ((set : Setting) (begun : Meaning) (past : List Said) → Keeps (hub.tells l.fn.hub) (hub.tells l.hub) (IsBusy _ rules set begun l.fn.self.spent l.fn.at l.fn.self.sessions.items past) (IsBusy _ rules set begun l.self.spent l.fn.at l.self.sessions.items (past ++ said)));
      output_later : sink.faults l.fn.output ≤ sink.faults l.output;
      spent : l.fn.self.spent ≤ l.self.spent;
      budget : l.self.spent ≤ l.fn.self.limits.events;
      later : Later (hub.counts l.fn.hub) (hub.counts l.hub);
      stays : hub.kept l.hub ≡ hub.kept l.fn.hub;
      piece : length l.piece ≡ piece_length;
    }

abbrev pub decreases-turns : goal.decreases-turns
decreases-turns g l = l.self.limits.events - l.self.spent

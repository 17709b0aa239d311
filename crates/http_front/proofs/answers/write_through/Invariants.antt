use Rattle.std.proofs.Common.{◌≡◌, ◌-◌, ◌≤◌, length, take}
use Rattle.gate_hub.specs.Hubs.{Later}
use Rattle.http_front.specs.Moving.{Goes, SendsBelow}
use Rattle.http_front.proofs.answers.write_through.Given as goal

-- so much was sent, and is left to be sent
abbrev pub invariant-writes : goal.invariant-writes
invariant-writes g l =
    let hub = g.H.Hub in
    record {
      within : l.sent ≤ l.least;
      goes : Goes (hub.tells l.fn.inner) (hub.tells l.inner) l.k (SendsBelow (take l.sent l.bytes));
      later : Later (hub.counts l.fn.inner) (hub.counts l.inner);
      kept : hub.kept l.inner ≡ hub.kept l.fn.inner;
    }

abbrev pub decreases-writes : goal.decreases-writes
decreases-writes g l = length l.bytes - l.sent

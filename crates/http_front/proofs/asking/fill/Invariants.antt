use Rattle.std.proofs.Common.{◌≡◌, true}
use Rattle.gate_hub.specs.Hubs.{Later}
use Rattle.http_front.specs.Fronts.{ahead, is_asking}
use Rattle.http_front.specs.Moving.{Goes, Turns}
use Rattle.http_front.proofs.asking.fill.Given as goal

-- the front fits on, and no count has fallen
abbrev pub invariant-reads : goal.invariant-reads
invariant-reads g l =
    let hub = g.H.Hub in
    record {
      goes : Goes (hub.tells l.fn.inner) (hub.tells l.inner) l.k (Turns l.fn.front l.front);
      asking : is_asking l.front.stage ≡ true;
      limit : l.front.limit ≡ l.fn.front.limit;
      later : Later (hub.counts l.fn.inner) (hub.counts l.inner);
      kept : hub.kept l.inner ≡ hub.kept l.fn.inner;
    }

abbrev pub decreases-reads : goal.decreases-reads
decreases-reads g l = ahead l.front

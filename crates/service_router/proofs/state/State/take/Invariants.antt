use Rattle.std.proofs.Common.{◌≡◌, ◌+◌, ◌<◌, ◌≤◌, ◌-◌, take, length}
use Rattle.service_router.specs.Standing.{and_received}
use Rattle.service_router.specs.Working.{inbox_in, Keeps, IsSettledBy, FitsOn}
use Rattle.service_router.proofs.state.State.take.Given as goal

abbrev pub invariant-pieces : goal.invariant-pieces
invariant-pieces g l =
    let old = l.fn.self in
    record {
      keeps : Keeps l.fn.judge old l.self;
      same : l.judge ≡ l.fn.judge;
      settled : IsSettledBy l.fn.judge old l.self;
      within : l.taken ≤ length l.bytes;
      start : l.taken ≡ 0 → l.self ≡ old;
      whole : length l.bytes + length (inbox_in l.port old).held ≤ old.client.limit + 4 → 0 < l.taken → l.taken ≡ length l.bytes;
      fits : FitsOn l.fn.judge old l.self (g.N.Notes.tells l.fn.notes l.notes) (λ h. and_received l.port h (take l.taken l.bytes));
    }

abbrev pub decreases-pieces : goal.decreases-pieces
decreases-pieces g l = length l.bytes - l.taken

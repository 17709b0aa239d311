use Rattle.std.proofs.Common.{◌≡◌, ◌+◌, ◌<◌, ◌≤◌, ◌-◌, take, length}
use Rattle.session_core.specs.Session.{and_came}
use Rattle.session_core.specs.Working.{Keeps, IsSettledBy, FitsOn, limit_of, half_of}
use Rattle.session_core.proofs.state.State.take.Given as goal

abbrev pub invariant-pieces : goal.invariant-pieces
invariant-pieces g l =
    let old = l.fn.self in
    let rules = g.J.Judge.rules l.fn.judge in
    record {
      keeps : Keeps rules old l.self;
      same : l.judge ≡ l.fn.judge;
      settled : IsSettledBy rules old l.self;
      within : l.taken ≤ length l.bytes;
      start : l.taken ≡ 0 → l.self ≡ old;
      whole : length l.bytes + length (half_of l.side old).held.held ≤ limit_of old + 4 → 0 < l.taken → l.taken ≡ length l.bytes;
      fits : FitsOn rules old l.self (g.N.Notes.tells l.fn.notes l.notes) (λ h. and_came l.side h (take l.taken l.bytes));
    }

abbrev pub decreases-pieces : goal.decreases-pieces
decreases-pieces g l = length l.bytes - l.taken

use Rattle.std.proofs.Common.{◌≡◌, ◌-◌, ◌<◌, ◌⊎◌, None, length, Option}
use Rattle.gate_hub.specs.Hubs.{Later}
use Rattle.session_core.specs.Session.{HoldsWithin}
use Rattle.proxy_server.specs.Calling.{Wanted, piece_length}
use Rattle.proxy_server.specs.Matching.{Matches, IsSame}
use Rattle.proxy_server.specs.Turning.{GoesTelling, Runs, no_waits, wanted}
use Rattle.proxy_server.proofs.turning.turn_with.Given as goal

-- so many calls moved something, the marks hold, and what was wanted first was done first
abbrev pub invariant-loop-moved : goal.invariant-loop-moved
invariant-loop-moved g l =
    let hub = g.H.Hub in
    let rules = g.J.Judge.rules in
    let want = wanted no_waits l.fn.session in
    record {
      goes : (first : Option Wanted) × GoesTelling (g.N.Notes.tells l.fn.notes l.notes) (hub.tells l.fn.hub) (hub.tells l.hub) (Matches _ rules l.fn.session) (Matches _ rules l.session) l.fn.k (Runs l.fn.k first l.moved no_waits l.waits)
          × (((l.moved ≡ 0) × (first ≡ None) × (l.session ≡ l.fn.session) × (l.waits ≡ no_waits)) ⊎ (first ≡ want));
      idle : want ≡ None → (l.session ≡ l.fn.session) × (l.waits ≡ no_waits);
      same : IsSame _ l.fn.session l.session;
      before : (l.session ≡ l.fn.session) ⊎ HoldsWithin l.fn.session;
      bounded : l.moved < 20;
      piece : length l.piece ≡ piece_length;
      later : Later (hub.counts l.fn.hub) (hub.counts l.hub);
      stays : hub.kept l.hub ≡ hub.kept l.fn.hub;
    }

abbrev pub decreases-loop-moved : goal.decreases-loop-moved
decreases-loop-moved g l = 16 - l.moved

use Rattle.std.proofs.Common.{◌≡◌, ◌-◌, ◌<◌, ◌⊎◌, None, length, Option}
use Rattle.gate_fan.specs.Fans.{Later}
use Rattle.service_router.specs.Router.{IsSame, targets_of}
use Rattle.route_server.specs.Calling.{Wanted, piece_length}
use Rattle.route_server.specs.Matching.{Matches}
use Rattle.route_server.specs.Turning.{GoesTelling, Runs, no_waits, wanted}
use Rattle.route_server.proofs.turning.route_turn.Given as goal

-- so many calls moved something, the marks hold, and what was wanted first was done first
abbrev pub invariant-rounds : goal.invariant-rounds
invariant-rounds g l =
    let fan = g.M.Fan in
    let r0 = l.fn.router in
    let want = wanted no_waits r0 in
    record {
      goes : (first : Option Wanted) × GoesTelling (g.N.Notes.tells l.fn.notes l.notes) (fan.tells l.fn.fan) (fan.tells l.fan) (Matches r0) (Matches l.router) l.fn.k (Runs l.fn.k (targets_of r0) first l.moved no_waits l.waits)
          × (((l.moved ≡ 0) × (first ≡ None) × (l.router ≡ r0) × (l.waits ≡ no_waits)) ⊎ (first ≡ want));
      idle : want ≡ None → (l.router ≡ r0) × (l.waits ≡ no_waits);
      same : IsSame r0 l.router;
      bounded : l.moved < 50;
      piece : length l.piece ≡ piece_length;
      later : Later (fan.counts l.fn.fan) (fan.counts l.fan);
      count : fan.target_count l.fan ≡ fan.target_count l.fn.fan;
    }

abbrev pub decreases-rounds : goal.decreases-rounds
decreases-rounds g l = 16 - l.moved

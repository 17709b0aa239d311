-- A router as its callers see it.
use Rattle.std.specs.Prelude.{◌≡◌, ℕ, ◌+◌, ◌≤◌, List, ◌++◌, length, replicate, Option}
use Rattle.session_core.specs.Rooms.{due_room}
use Rattle.session_core.specs.Notes.{Note}
use Rattle.service_router.specs.Rules.{RouteRules}
use Rattle.service_router.specs.Routing.{Routing}
use Rattle.service_router.specs.Judging.{rules_of}
use Rattle.service_router.specs.Standing.{Standing, History, inbox_of}
use Rattle.service_router.specs.Telling.{FitsTold}
use Rattle.service_router.specs.Ends.{IsAtRest, TakesNoMore, bytes_held, most_held}
use Rattle.service_router.specs.declared.outcome.RouteOutcome.{RouteOutcome}

-- the rooms of a router: for the bytes held of each port, for those due to the client and to a target, and for the open calls
pub record Rooms : Type 0 where
  pub client : ℕ
  pub upstreams : List ℕ
  pub to_client : ℕ
  pub to_upstream : ℕ
  pub calls : ℕ

-- the rooms for frames of at most so many bytes, so many open calls and so many targets
abbrev pub rooms_for : ℕ → ℕ → ℕ → Rooms
rooms_for limit max_calls targets = record {
  client = limit + 4;
  upstreams = replicate targets (limit + 4);
  to_client = due_room limit;
  to_upstream = due_room limit;
  calls = max_calls;
}

pub record Seen : Type 0 where
  -- between whom it goes, and how it judges by that
  pub routing : Routing
  pub limit : ℕ
  pub max_calls : ℕ
  pub rooms : Rooms
  pub standing : Standing
  pub outcome : Option RouteOutcome

-- how it judges
abbrev pub rules_in : Seen → RouteRules
rules_in r = rules_of r.routing

abbrev pub targets_of : Seen → ℕ
targets_of r = length r.standing.upstreams

-- it is the same router, whatever came and went
pub record IsSame (old new : Seen) : Type 0 where
  pub routing : new.routing ≡ old.routing
  pub limit : new.limit ≡ old.limit
  pub max_calls : new.max_calls ≡ old.max_calls
  pub rooms : new.rooms ≡ old.rooms
  pub targets : targets_of new ≡ targets_of old

-- no frame can be taken, and the outcome is the one of the definition, by what the router before was opened with
abbrev pub RestsBy : Seen → Seen → Type 0
RestsBy old new = IsAtRest (rules_in old) old.limit old.max_calls new.standing new.outcome

-- some notes were made, and the later router fits what was told before and these, with what was added on the way
abbrev pub FitsAndTells : Seen → Seen → (List Note → Type 0) → (History → History) → Type 0
FitsAndTells old new tells on =
    (added : List Note) × tells added
    × ((h : History) (past : List Note) → FitsTold (rules_in old) old.limit old.max_calls h past old.standing → FitsTold (rules_in old) old.limit old.max_calls (on h) (past ++ added) new.standing)

-- no more of a port was taken, for one of the reasons
abbrev pub TakesNoMoreOf : ℕ → Seen → Seen → Type 0
TakesNoMoreOf port old new = TakesNoMore old.limit (inbox_of port new.standing).held (inbox_of port old.standing).ended new.outcome

-- the router holds no more than it may
abbrev pub HoldsWithin : Seen → Type 0
HoldsWithin r = bytes_held r.limit r.standing r.outcome ≤ most_held r.limit r.max_calls (targets_of r)

-- A session as its callers see it.
use Rattle.std.specs.Prelude.{ℕ, ◌+◌, ◌-◌, ◌≤◌, List, ◌++◌, length, Bool, true, ◌||◌, if◌then◌else◌, Option}
use Rattle.session_core.specs.Standing.{Standing, History}
use Rattle.session_core.specs.Ends.{held_of, most_held}
use Rattle.session_core.specs.Rooms.{due_room}
use Rattle.session_core.specs.declared.outcome.Outcome.{Outcome}
use Rattle.gate_hub.specs.declared.hub.Side.{Side}
use Rattle.gate_hub.specs.declared.hub.Side.TheVariants as side

-- the rooms of a session: for the bytes held of each side, for those due to each, and for the open calls
pub record Rooms : Type 0 where
  pub client : ℕ
  pub upstream : ℕ
  pub to_client : ℕ
  pub to_upstream : ℕ
  pub calls : ℕ

-- the rooms for frames of at most so many bytes, and so many open calls
abbrev pub rooms_for : ℕ → ℕ → Rooms
rooms_for limit max_calls = record {
  client = limit + 4;
  upstream = limit + 4;
  to_client = due_room limit;
  to_upstream = due_room limit;
  calls = max_calls;
}

pub record Seen (J : Type 0) : Type 0 where
  pub judge : J
  pub limit : ℕ
  pub max_calls : ℕ
  pub rooms : Rooms
  pub standing : Standing
  pub outcome : Option Outcome

abbrev pub due_to : Side → Standing → List ℕ
due_to side.Client s = s.to_client
due_to side.Upstream s = s.to_upstream

-- these bytes more came of a side
abbrev pub and_came : Side → History → List ℕ → History
and_came side.Client h bytes = record h { from_client = h.from_client ++ bytes }
and_came side.Upstream h bytes = record h { from_upstream = h.from_upstream ++ bytes }

-- these bytes more were sent to a side
abbrev pub and_sent : Side → History → List ℕ → History
and_sent side.Client h bytes = record h { to_client = h.to_client ++ bytes }
and_sent side.Upstream h bytes = record h { to_upstream = h.to_upstream ++ bytes }

-- and a side has ended
abbrev pub and_ended : Side → History → History
and_ended side.Client h = record h { client_ended = true }
and_ended side.Upstream h = record h { upstream_ended = true }

-- how much more can be taken of a side
abbrev pub room_of : ℕ → Standing → Bool → Side → ℕ
room_of limit s over side.Client = if s.client_ended || over then 0 else limit + 4 - length s.client
room_of limit s over side.Upstream = if s.upstream_ended || over then 0 else limit + 4 - length s.upstream

-- the session holds no more than it may
abbrev pub HoldsWithin : {J : Type 0} → Seen J → Type 0
HoldsWithin s = held_of s.limit s.standing s.outcome ≤ most_held s.limit s.max_calls

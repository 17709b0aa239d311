-- A session matches what a hub tells of it.
use Rattle.std.specs.Prelude.{◌≡◌, ℕ, List, ◌++◌}
use Rattle.gate_hub.specs.Meaning.{Told}
use Rattle.gate_hub.specs.declared.hub.Side.{Side}
use Rattle.gate_hub.specs.declared.hub.Side.TheVariants as side
use Rattle.session_core.specs.Rules.{Rules}
use Rattle.session_core.specs.Standing.{History}
use Rattle.session_core.specs.Notes.{Note}
use Rattle.session_core.specs.Telling.{FitsTold}
use Rattle.session_core.specs.Ends.{IsAtRest}
use Rattle.session_core.specs.Session.{Seen}

-- what came and went, as a hub tells it
abbrev pub history_of : Told → History
history_of told = record {
  from_client = told.client.received;
  from_upstream = told.upstream.received;
  to_client = told.client.sent;
  to_upstream = told.upstream.sent;
  client_ended = told.client.ended;
  upstream_ended = told.upstream.ended;
}

-- and so many bytes were received from a side
abbrev pub and_received : Side → History → List ℕ → History
and_received side.Client h bytes = record h { from_client = h.from_client ++ bytes }
and_received side.Upstream h bytes = record h { from_upstream = h.from_upstream ++ bytes }

-- the session fits what came and went and what was told of its refused frames, and no step is left to it
pub record Matches (J : Type 0) (rules : J → Rules) (session : Seen J) (notes : List Note) (h : History) : Type 0 where
  pub fits : FitsTold (rules session.judge) session.limit session.max_calls h notes session.standing
  pub rest : IsAtRest (rules session.judge) session.limit session.max_calls session.standing session.outcome

-- some was told of refused frames, and where a session matched what came and went and was told, it matches that with what
-- was added on the way
abbrev pub MatchesOn : {J : Type 0} → (J → Rules) → Seen J → Seen J → (List Note → Type 0) → (History → History) → Type 0
MatchesOn {J} rules old new tells on =
    (added : List Note) × tells added × ((past : List Note) (h : History) → Matches J rules old past h → Matches J rules new (past ++ added) (on h))

-- the same judge, limit, number of calls and rooms
pub record IsSame (J : Type 0) (a b : Seen J) : Type 0 where
  pub judge : b.judge ≡ a.judge
  pub limit : b.limit ≡ a.limit
  pub max_calls : b.max_calls ≡ a.max_calls
  pub rooms : b.rooms ≡ a.rooms

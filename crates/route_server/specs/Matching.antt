-- A router matches what a fan tells of its session.
use Rattle.std.specs.Prelude.{List, ◌++◌}
use Rattle.gate_fan.specs.Meaning.{Told}
use Rattle.session_core.specs.Notes.{Note}
use Rattle.service_router.specs.Standing.{History}
use Rattle.service_router.specs.Telling.{FitsTold}
use Rattle.service_router.specs.Ends.{IsAtRest}
use Rattle.service_router.specs.Router.{Seen, rules_in}

-- what came and went at each port, as a fan tells it
abbrev pub history_of : Told → History
history_of told = record {
  received = λ port. (told.link port).received;
  sent = λ port. (told.link port).sent;
  ended = λ port. (told.link port).ended;
}

-- the router fits what came and went and what was told of the frames that were refused, and no step is left to it
pub record Matches (router : Seen) (notes : List Note) (h : History) : Type 0 where
  pub fits : FitsTold (rules_in router) router.limit router.max_calls h notes router.standing
  pub rest : IsAtRest (rules_in router) router.limit router.max_calls router.standing router.outcome

-- some notes were made; where a router matched what came and went and was told, it matches that with these and with what was
-- added on the way
abbrev pub MatchesOn : Seen → Seen → (List Note → Type 0) → (History → History) → Type 0
MatchesOn old new tells on =
    (added : List Note) × tells added × ((past : List Note) (h : History) → Matches old past h → Matches new (past ++ added) (on h))

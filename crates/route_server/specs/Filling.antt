-- Which sessions find the server full.
use Rattle.std.specs.Prelude.{◌≡◌, ◌≢◌, ℕ, ◌<◌, ◌≤◌, List, length, true, Some, slice_get}
use Rattle.gate_fan.specs.Meaning.{Meaning}
use Rattle.service_router.specs.declared.outcome.RouteOutcome.TheVariants as outcome
use Rattle.route_server.specs.Saying.{Closing}

-- the session is none of these that have ended
abbrev pub HasNotEnded : ℕ → List Closing → Type 0
HasNotEnded k ended = (i : ℕ) (c : Closing) → slice_get ended i ≡ Some c → c.0 ≢ k

-- these are the sessions that were announced before session k and have not ended, by rising number
pub record AreOpenBefore (k : ℕ) (ended : List Closing) (m : Meaning) (numbers : List ℕ) : Type 0 where
  pub rising : (i j a b : ℕ) → i < j → slice_get numbers i ≡ Some a → slice_get numbers j ≡ Some b → a < b
  pub each : (i a : ℕ) → slice_get numbers i ≡ Some a → ((m.session a).announced ≡ true) × (a < k) × HasNotEnded a ended
  pub all : (a : ℕ) → (m.session a).announced ≡ true → a < k → HasNotEnded a ended → (i : ℕ) × (slice_get numbers i ≡ Some a)

-- a session that ended next after these found the server full exactly where as many sessions as it takes were announced before
-- and had not ended
pub record IsFullWhere (sessions : ℕ) (ended : List Closing) (c : Closing) (m : Meaning) : Type 0 where
  pub numbers : List ℕ
  pub are_open : AreOpenBefore c.0 ended m numbers
  pub within : length numbers ≤ sessions
  pub full : c.1 ≡ outcome.Full → length numbers ≡ sessions
  pub only_full : length numbers ≡ sessions → c.1 ≡ outcome.Full

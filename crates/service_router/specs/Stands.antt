-- What is due to each port for the bytes that came: what the greatest stand gives.
use Rattle.std.specs.Prelude.{◌≡◌, ℕ, ◌≤◌, List, length}
use Rattle.session_core.specs.Stands.{IsLawful, IsTaken}
use Rattle.service_router.specs.Rules.{RouteRules}
use Rattle.service_router.specs.Fits.{frames_of, written_to}

-- a stand over the bytes that came of each port: frames of the client that may have been taken, and answers to their calls in the order of
-- the calls, each the next frame of its call's target
pub record Stand (rules : RouteRules) (limit max_calls : ℕ) (received : ℕ → List ℕ) : Type 0 where
  pub xs : List (List ℕ)
  pub ys : List (List ℕ)
  pub rest : ℕ → List ℕ
  pub lawful : IsLawful rules.judging max_calls xs ys
  pub came : (port : ℕ) → IsTaken limit (received port) (frames_of rules xs ys port) (rest port)

-- no stand has more frames of the client or more answers
abbrev pub IsGreatest : (rules : RouteRules) (limit max_calls : ℕ) (received : ℕ → List ℕ) → Stand rules limit max_calls received → Type 0
IsGreatest rules limit max_calls received at =
    (other : Stand rules limit max_calls received) → (length other.xs ≤ length at.xs) × (length other.ys ≤ length at.ys)

-- these lists are due to the ports: to the client all answers, and to each target all that goes to it, at the greatest stand
pub record AreDue (rules : RouteRules) (limit max_calls : ℕ) (received written : ℕ → List ℕ) : Type 0 where
  pub at : Stand rules limit max_calls received
  pub greatest : IsGreatest rules limit max_calls received at
  pub whole : (port : ℕ) → written port ≡ written_to rules at.xs at.ys port

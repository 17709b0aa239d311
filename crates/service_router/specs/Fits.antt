-- A router fits what came and went at its ports.
use Rattle.std.specs.Prelude.{◌≡◌, ℕ, zero, suc, ◌==◌, List, [], ◌∷◌, ◌++◌, length, drop, map, if◌then◌else◌}
use Rattle.session_core.specs.declared.judge.Call.{Call}
use Rattle.session_core.specs.Stands.{opened, sent_on, back, IsLawful, IsTaken}
use Rattle.session_core.specs.Fits.{told}
use Rattle.service_router.specs.declared.call.OpenCall.{OpenCall}
use Rattle.service_router.specs.Rules.{RouteRules}
use Rattle.service_router.specs.Standing.{Standing, History, inbox_of, due_to}

abbrev pub led : ℕ → Call → OpenCall
led target call = record { call = call; target = target }

-- the calls that these frames of the client open, in order, each with its target
abbrev pub calls_of : RouteRules → List (List ℕ) → List OpenCall
calls_of rules [] = []
calls_of rules (x ∷ xs) = map (led (rules.target x)) (opened (rules.judging.judged x)) ++ calls_of rules xs

-- what these frames of the client send to a target
abbrev pub onward_to : RouteRules → ℕ → List (List ℕ) → List ℕ
onward_to rules u [] = []
onward_to rules u (x ∷ xs) =
    (if rules.target x == u then sent_on (rules.judging.judged x) (rules.judging.output x) else []) ++ onward_to rules u xs

-- of these answers to these calls, in order, the ones that a target gave
abbrev pub answers_of : ℕ → List OpenCall → List (List ℕ) → List (List ℕ)
answers_of u [] ys = []
answers_of u (c ∷ cs) [] = []
answers_of u (c ∷ cs) (y ∷ ys) = (if c.target == u then y ∷ [] else []) ++ answers_of u cs ys

-- the frames of a port, where these of the client were taken, and these answers to its calls
abbrev pub frames_of : RouteRules → List (List ℕ) → List (List ℕ) → ℕ → List (List ℕ)
frames_of rules xs ys zero = xs
frames_of rules xs ys (suc u) = answers_of u (calls_of rules xs) ys

-- what is due to a port for them in all: to the client its answers in the order of its calls
abbrev pub written_to : RouteRules → List (List ℕ) → List (List ℕ) → ℕ → List ℕ
written_to rules xs ys zero = back rules.judging xs ys
written_to rules xs ys (suc u) = onward_to rules u xs

pub record Fits (rules : RouteRules) (limit max_calls : ℕ) (h : History) (s : Standing) : Type 0 where
  -- the client's frames that were taken, and the answers to its calls, each the next frame of its call's target
  pub xs : List (List ℕ)
  pub ys : List (List ℕ)
  pub lawful : IsLawful rules.judging max_calls xs ys
  pub came : (port : ℕ) → IsTaken limit (h.received port) (frames_of rules xs ys port) (inbox_of port s).held
  pub went : (port : ℕ) → h.sent port ++ due_to port s ≡ written_to rules xs ys port
  pub calls : s.calls ≡ drop (length ys) (calls_of rules xs)
  pub counted : (port : ℕ) → (inbox_of port s).taken ≡ told (length (frames_of rules xs ys port))
  pub ended : (port : ℕ) → (inbox_of port s).ended ≡ h.ended port

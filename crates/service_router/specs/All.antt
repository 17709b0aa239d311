-- All frames of all ports, as far as none halts its port.
use Rattle.std.specs.Prelude.{◌≡◌, ℕ, zero, suc, ◌^◌, ◌<◌, ◌≤◌, List, length, slice_get, [], Some, None}
use Rattle.framed_transport.specs.Front.{Whole, front}
use Rattle.session_core.specs.Stands.{IsTaken, IsAllOfClient, IsFrontOf, back}
use Rattle.session_core.specs.declared.outcome.Halt.{Halt}
use Rattle.session_core.specs.declared.judge.UpstreamJudged.TheVariants as upstream
use Rattle.service_router.specs.declared.call.OpenCall.{OpenCall}
use Rattle.service_router.specs.Rules.{RouteRules}
use Rattle.service_router.specs.Standing.{Standing, History}
use Rattle.service_router.specs.Fits.{Fits, calls_of, answers_of, onward_to}
use Rattle.service_router.specs.Stands.{AreDue}
use Rattle.service_router.specs.Ends.{IsAtRest}
use Rattle.service_router.specs.Told.{Says}
use Rattle.service_router.specs.declared.outcome.RouteOutcome.{RouteOutcome}

-- of the calls that these frames of the client open, these are the answers in the order of the calls, each the next frame of its
-- call's target, up to the first call whose target's next frame is not whole or halts it
pub record AreAllAnswers (rules : RouteRules) (limit : ℕ) (received : ℕ → List ℕ) (zs ws : List (List ℕ)) : Type 0 where
  pub rest : ℕ → List ℕ
  pub taken : (u : ℕ) → IsTaken limit (received (suc u)) (answers_of u (calls_of rules zs) ws) (rest u)
  pub paired : length ws ≤ length (calls_of rules zs)
  pub last : (call : OpenCall) (frame behind : List ℕ) → slice_get (calls_of rules zs) (length ws) ≡ Some call → front limit (rest call.target) ≡ Whole frame behind → (halt : Halt) × (rules.judging.replied call.call frame ≡ upstream.Halts halt)

-- ---- what the laws of a router speak of

-- how frames are judged, the most bytes of one, and the most open calls
pub record Terms : Type 0 where
  pub rules : RouteRules
  pub limit : ℕ
  pub max_calls : ℕ
  pub small : limit < 2 ^ 31

-- the router fits what came and went
abbrev pub FitsBy : Terms → History → Standing → Type 0
FitsBy t h s = Fits t.rules t.limit t.max_calls h s

-- all frames of the client before the first that halts it
pub record AllOfClient (t : Terms) (h : History) : Type 0 where
  pub frames : List (List ℕ)
  pub are : IsAllOfClient t.rules.judging t.limit (h.received zero) frames

-- and all answers to their calls
pub record AllAnswers (t : Terms) (h : History) (all : AllOfClient t h) : Type 0 where
  pub frames : List (List ℕ)
  pub are : AreAllAnswers t.rules t.limit h.received all.frames frames

-- a target was sent a front of what these frames give to it
abbrev pub TargetWasSent : (t : Terms) (h : History) → AllOfClient t h → ℕ → Type 0
TargetWasSent t h all u = IsFrontOf (h.sent (suc u)) (onward_to t.rules u all.frames)

-- and the client one of what they and these answers give
abbrev pub ClientWasSent : (t : Terms) (h : History) (all : AllOfClient t h) → AllAnswers t h all → Type 0
ClientWasSent t h all answers = IsFrontOf (h.sent zero) (back t.rules.judging all.frames answers.frames)

-- the router is at rest with no outcome, and all that was due is sent
pub record IsPaid (t : Terms) (h : History) (s : Standing) : Type 0 where
  pub fits : FitsBy t h s
  pub rest : IsAtRest t.rules t.limit t.max_calls s None
  pub to_client : s.to_client ≡ []
  pub to_upstream : s.to_upstream ≡ []

-- what is due to each port for what came
pub record Due (t : Terms) (h : History) : Type 0 where
  pub to : ℕ → List ℕ
  pub are : AreDue t.rules t.limit t.max_calls h.received to

-- each port was sent what is due to it for all that came
abbrev pub AllWasSent : Terms → History → Type 0
AllWasSent t h = AreDue t.rules t.limit t.max_calls h.received h.sent

-- the router is at rest with this outcome
abbrev pub CameTo : Terms → Standing → RouteOutcome → Type 0
CameTo t s o = IsAtRest t.rules t.limit t.max_calls s (Some o)

-- the outcome says what is so, with the frames that were taken
abbrev pub IsToldBy : (t : Terms) (h : History) (s : Standing) → FitsBy t h s → RouteOutcome → Type 0
IsToldBy t h s fits o = Says t.rules t.limit t.max_calls fits.xs fits.ys s o

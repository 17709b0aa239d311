-- What an outcome says of the router that came to it.
use Rattle.std.specs.Prelude.{◌≡◌, ℕ, suc, ◌+◌, List, [], ◌∷◌, length, true, false, Some, None}
use Rattle.std.specs.List.{position}
use Rattle.session_core.specs.Fits.{told}
use Rattle.session_core.specs.Steps.{Halts, of_upstream, of_client, is_none}
use Rattle.session_core.specs.declared.outcome.Halt.{Halt}
use Rattle.session_core.specs.declared.outcome.Halt.TheVariants as halt
use Rattle.service_router.specs.declared.call.OpenCall.{OpenCall}
use Rattle.service_router.specs.declared.outcome.RouteOutcome.{RouteOutcome}
use Rattle.service_router.specs.declared.outcome.RouteOutcome.TheVariants as outcome
use Rattle.service_router.specs.Rules.{RouteRules}
use Rattle.service_router.specs.Standing.{Standing, inbox_of}
use Rattle.service_router.specs.Fits.{frames_of}
use Rattle.service_router.specs.Steps.{as_session, calls_to, first_target, holds_frame}

-- a call is open, and the oldest went to the target at this port
abbrev pub OldestGoesTo : ℕ → Standing → Type 0
OldestGoesTo port s = (call : OpenCall) × (calls : List OpenCall) × (s.calls ≡ call ∷ calls) × (port ≡ suc call.target)

-- no call is open, and the client has ended at a frame's end
pub record HasEnded (s : Standing) : Type 0 where
  pub closed : s.calls ≡ []
  pub ended : s.client.ended ≡ true
  pub nothing : s.client.held ≡ []

-- why the client can be taken no further: its front frame halts it, or it has ended inside a frame
pub data ClientHalts (rules : RouteRules) (limit max_calls : ℕ) (s : Standing) (why : Halt) : Type 0 where
  AtFrame : of_client rules.judging limit max_calls (as_session s) ≡ Halts why → ClientHalts rules limit max_calls s why
  AtEnd : s.client.ended ≡ true → is_none s.client.held ≡ false → why ≡ halt.Inside → ClientHalts rules limit max_calls s why

-- how many frames of a port were taken, where these of the client were, and these answers
abbrev pub frames_taken : RouteRules → List (List ℕ) → List (List ℕ) → ℕ → ℕ
frames_taken rules xs ys port = length (frames_of rules xs ys port)

-- what an outcome says of it
abbrev pub Says : RouteRules → ℕ → ℕ → List (List ℕ) → List (List ℕ) → Standing → RouteOutcome → Type 0
Says rules limit max_calls xs ys s outcome.Clean = HasEnded s × (position holds_frame s.upstreams ≡ None)
Says rules limit max_calls xs ys s (outcome.ClientFault n why) =
    (s.calls ≡ []) × (n ≡ told (length xs + 1)) × ClientHalts rules limit max_calls s why
Says rules limit max_calls xs ys s (outcome.UpstreamFault port n why) =
    OldestGoesTo port s × (n ≡ told (frames_taken rules xs ys port + 1)) × (of_upstream rules.judging limit (as_session s) ≡ Halts why)
Says rules limit max_calls xs ys s (outcome.UpstreamEnded port n) =
    OldestGoesTo port s × ((inbox_of port s).ended ≡ true) × ((inbox_of port s).held ≡ []) × (n ≡ calls_to (first_target s.calls) s.calls)
Says rules limit max_calls xs ys s (outcome.Unsolicited port answer calls) =
    HasEnded s × ((u : ℕ) × (position holds_frame s.upstreams ≡ Some u) × (port ≡ suc u)) × (answer ≡ told (frames_taken rules xs ys port + 1)) × (calls ≡ told (frames_taken rules xs ys port))
Says rules limit max_calls xs ys s (outcome.LinkFault port) = ⊥
Says rules limit max_calls xs ys s outcome.Full = ⊥
Says rules limit max_calls xs ys s outcome.NoMemory = ⊥

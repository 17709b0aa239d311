-- The steps that a router can take, and its outcome. To its client and to the target of its oldest open call a router is what a
-- session is to its two sides.
use Rattle.std.specs.Prelude.{ℕ, suc, ◌==◌, ◌+◌, List, [], ◌∷◌, length, map, get_or, Bool, not, Option, Some, None}
use Rattle.std.specs.List.{filter, position}
use Rattle.framed_transport.specs.Front.{front, is_part}
use Rattle.session_core.specs.Rules.{Rules}
use Rattle.session_core.specs.declared.judge.Call.{Call}
use Rattle.session_core.specs.Standing as session
use Rattle.session_core.specs.Fits.{told}
use Rattle.session_core.specs.Steps as session_steps
use Rattle.session_core.specs.declared.outcome.Outcome.{Outcome}
use Rattle.session_core.specs.declared.outcome.Outcome.TheVariants as ended
use Rattle.service_router.specs.declared.call.OpenCall.{OpenCall}
use Rattle.service_router.specs.declared.outcome.RouteOutcome.{RouteOutcome}
use Rattle.service_router.specs.declared.outcome.RouteOutcome.TheVariants as outcome
use Rattle.service_router.specs.Standing.{Standing, Inbox, silent}

-- the target of the oldest call
abbrev pub first_target : List OpenCall → ℕ
first_target [] = 0
first_target (c ∷ cs) = c.target

-- what came of the target of the oldest call: where none is open, nothing
abbrev pub asked : List OpenCall → List Inbox → Inbox
asked [] upstreams = silent 0
asked (c ∷ cs) upstreams = get_or upstreams c.target (silent 0)

abbrev pub call_of : OpenCall → Call
call_of c = c.call

-- the router as a session between its client and the target of the oldest open call
abbrev pub as_session : Standing → session.Standing
as_session s = record {
  client = s.client.held;
  upstream = (asked s.calls s.upstreams).held;
  to_client = s.to_client;
  to_upstream = s.to_upstream;
  calls = map call_of s.calls;
  client_ended = s.client.ended;
  upstream_ended = (asked s.calls s.upstreams).ended;
  taken = s.client.taken;
  answered = (asked s.calls s.upstreams).taken;
}

-- the call went to this target
abbrev pub is_for : ℕ → OpenCall → Bool
is_for u c = c.target == u

-- how many of these calls went to a target
abbrev pub calls_to : ℕ → List OpenCall → ℕ
calls_to u calls = length (filter (is_for u) calls)

-- more than a part of a frame is held of it
abbrev pub holds_frame : Inbox → Bool
holds_frame inbox = not (is_part (front inbox.limit inbox.held))

abbrev pub unasked_at : List Inbox → Option ℕ → RouteOutcome
unasked_at upstreams None = outcome.Clean
unasked_at upstreams (Some at) = outcome.Unsolicited (suc at) (told ((get_or upstreams at (silent 0)).taken + 1)) (get_or upstreams at (silent 0)).taken

-- the client has ended and nothing is open: the first target of which a frame is held has said too much
abbrev pub unasked : List Inbox → RouteOutcome
unasked upstreams = unasked_at upstreams (position holds_frame upstreams)

-- the session's outcome, with the port that it speaks of
abbrev pub by_port : Standing → Outcome → RouteOutcome
by_port s ended.Clean = unasked s.upstreams
by_port s (ended.ClientFault n halt) = outcome.ClientFault n halt
by_port s (ended.UpstreamFault n halt) = outcome.UpstreamFault (suc (first_target s.calls)) n halt
by_port s (ended.UpstreamEnded n) = outcome.UpstreamEnded (suc (first_target s.calls)) (calls_to (first_target s.calls) s.calls)
by_port s (ended.Unsolicited n calls) = unasked s.upstreams
by_port s (ended.LinkFault side) = outcome.LinkFault (suc (first_target s.calls))
by_port s ended.Full = outcome.Full
by_port s ended.NoMemory = outcome.NoMemory

abbrev pub with_port : Standing → Option Outcome → Option RouteOutcome
with_port s None = None
with_port s (Some o) = Some (by_port s o)

-- no frame can be taken
abbrev pub IsStill : Rules → ℕ → ℕ → Standing → Type 0
IsStill rules limit max_calls s = session_steps.IsStill rules limit max_calls (as_session s)

abbrev pub outcome_of : Rules → ℕ → ℕ → Standing → Option RouteOutcome
outcome_of rules limit max_calls s = with_port s (session_steps.outcome_of rules limit max_calls (as_session s))

-- Where a server stands between its steps.
use Rattle.std.specs.Prelude.{◌≡◌, ℕ, ◌<◌, ◌≤◌, List, [], length, take, false, None, Some, slice_get}
use Rattle.gate_fan.specs.Meaning.{Meaning, new_session}
use Rattle.gate_hub.specs.declared.hub.HubNext.{HubNext}
use Rattle.service_router.specs.declared.outcome.RouteOutcome.{RouteOutcome}
use Rattle.service_router.specs.declared.outcome.RouteOutcome.TheVariants as outcome
use Rattle.route_server.specs.Turning.{HasFailed}
use Rattle.route_server.specs.Saying.{Closing, Said, closings, heard_in, InOrder}
use Rattle.route_server.specs.Serving.{Setting, Entry, Stands, IsOutcome, is_over, no_more, IsClosedInOrder, ended_numbers}
use Rattle.route_server.specs.Calling.{EndsFailing}
use Rattle.route_server.specs.Spending.{HasSpent}
use Rattle.route_server.specs.Filling.{IsFullWhere}

-- what a server has done since the meaning `begun`: it has spent so much, holds so many sessions, and these have ended; the fan
-- is as it was started
pub record Tally (begun : Meaning) (set : Setting) (spent count : ℕ) (past : List Closing) (m : Meaning) : Type 0 where
  pub started : m.started ≡ begun.started
  pub spends : HasSpent begun set.targets spent m
  pub few : count ≤ set.sessions
  pub full : (i : ℕ) (c : Closing) → slice_get past i ≡ Some c → IsFullWhere set.sessions (take i past) c m

-- those were closed in this order, and the fan has neither stopped nor failed
pub record IsAtWork (begun : Meaning) (set : Setting) (spent count : ℕ) (past : List Closing) (m : Meaning) : Type 0 where
  pub tally : Tally begun set spent count past m
  pub order : IsClosedInOrder begun.calls m.calls (ended_numbers past)
  pub going : is_over m.last_event ≡ false

-- at a wait every open session is settled. This was said of the sessions
pub record Waits (set : Setting) (begun : Meaning) (spent : ℕ) (held : List Entry) (past : List Said) (m : Meaning) : Type 0 where
  pub stands : Stands set no_more held (closings past) (heard_in past) (length held) 0 m
  pub work : IsAtWork begun set spent (length held) (closings past) m
  pub in_order : InOrder past

-- and after it too, where the fan has answered that nothing will follow
pub record HasWaited (set : Setting) (begun : Meaning) (spent : ℕ) (last : HubNext) (held : List Entry) (past : List Said) (m : Meaning) : Type 0 where
  pub stands : Stands set no_more held (closings past) (heard_in past) (length held) 0 m
  pub tally : Tally begun set spent (length held) (closings past) m
  pub in_order : InOrder past
  pub order : IsClosedInOrder begun.calls m.calls (ended_numbers (closings past))
  pub last_event : m.last_event ≡ Some last

-- the session at this place is to be turned: it goes on, and no call of it has failed
pub record IsBusy (set : Setting) (begun : Meaning) (spent at : ℕ) (held : List Entry) (past : List Said) (m : Meaning) : Type 0 where
  pub stands : Stands set no_more held (closings past) (heard_in past) at 0 m
  pub going : (e : Entry) → slice_get held at ≡ Some e → e.router.outcome ≡ None
  pub unfailed : (e : Entry) → slice_get held at ≡ Some e → (x : ℕ) → HasFailed x (m.session e.number) → ⊥
  pub work : IsAtWork begun set spent (length held) (closings past) m
  pub in_order : InOrder past

-- the session that an event names is the one to be turned
abbrev pub IsNamed : Setting → Meaning → ℕ → ℕ → List Entry → List Said → Meaning → Type 0
IsNamed set begun spent k held past m =
    (i : ℕ) × (e : Entry) × (slice_get held i ≡ Some e) × (e.number ≡ k) × IsBusy set begun spent i held past m

-- the session at this place has ended
pub record HasEndedAt (set : Setting) (begun : Meaning) (spent at : ℕ) (o : RouteOutcome) (held : List Entry) (past : List Said) (m : Meaning) : Type 0 where
  pub stands : Stands set no_more held (closings past) (heard_in past) at 0 m
  pub why : (e : Entry) → slice_get held at ≡ Some e → IsOutcome set o (heard_in past e.number) (m.session e.number)
  pub broke : (e : Entry) (x : ℕ) → slice_get held at ≡ Some e → o ≡ outcome.LinkFault x → EndsFailing e.number x m.calls
  pub opened : o ≡ outcome.Full → ⊥
  pub work : IsAtWork begun set spent (length held) (closings past) m
  pub in_order : InOrder past

-- a new session was announced, which is neither held nor ended yet, and of which nothing was said
pub record Awaits (set : Setting) (begun : Meaning) (spent k : ℕ) (held : List Entry) (past : List Said) (m : Meaning) : Type 0 where
  pub stands : Stands set (λ j. j ≡ k) held (closings past) (heard_in past) (length held) 0 m
  pub unheard : heard_in past k ≡ []
  pub new : m.session k ≡ new_session
  pub above : (i : ℕ) (e : Entry) → slice_get held i ≡ Some e → e.number < k
  pub work : IsAtWork begun set spent (length held) (closings past) m
  pub in_order : InOrder past

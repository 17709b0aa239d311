-- What a server stands on while it serves.
use Rattle.std.specs.Prelude.{◌≡◌, ◌≢◌, ℕ, ◌<◌, ◌≤◌, ◌⊎◌, List, [], ◌∷◌, ◌++◌, Bool, true, false, Option, None, Some, slice_get}
use Rattle.std.specs.List.{flat_map}
use Rattle.gate_fan.specs.Meaning.{Told, FanCall, Closed, Meaning}
use Rattle.gate_fan.specs.Fans.{Counts, HasStarted}
use Rattle.gate_hub.specs.declared.hub.HubNext.{HubNext}
use Rattle.gate_hub.specs.declared.hub.HubNext.TheVariants as event
use Rattle.gate_hub.specs.declared.hub.Served.{Served}
use Rattle.gate_hub.specs.declared.hub.Served.TheVariants as served
use Rattle.service_router.specs.Rules.{RouteRules}
use Rattle.service_router.specs.Standing.{Standing, nothing}
use Rattle.session_core.specs.Notes.{Note}
use Rattle.service_router.specs.Telling.{FitsTold}
use Rattle.service_router.specs.Steps.{outcome_of}
use Rattle.service_router.specs.Router.{Seen, HoldsWithin, rooms_for, rules_in, targets_of}
use Rattle.service_router.specs.declared.outcome.RouteOutcome.{RouteOutcome}
use Rattle.service_router.specs.declared.outcome.RouteOutcome.TheVariants as outcome
use Rattle.route_server.specs.Lines.{line_text}
use Rattle.route_server.specs.Saying.{Closing}
use Rattle.route_server.specs.Calling.{closings_of, FailsLast, LinkRose}
use Rattle.route_server.specs.Matching.{history_of, Matches}
use Rattle.route_server.specs.Turning.{IsSettled, HasFailed}

-- the rules of the sessions of a server, the most bytes of a frame and the most open calls, how many targets there are, the most
-- sessions that are open at a time, and how much the server may spend
pub record Setting : Type 0 where
  pub rules : RouteRules
  pub limit : ℕ
  pub max_calls : ℕ
  pub targets : ℕ
  pub sessions : ℕ
  pub events : ℕ

-- a session that the server has opened, with its number at the fan
pub record Entry : Type 0 where
  pub number : ℕ
  pub router : Seen

-- each of these goes to so many targets
abbrev pub HaveTargets : ℕ → List Entry → Type 0
HaveTargets n held = (i : ℕ) (e : Entry) → slice_get held i ≡ Some e → targets_of e.router ≡ n

-- an open session is one of the server's setting, matches what the fan tells of it and what was said of its refused frames, has the
-- rooms that it took when it was opened, and holds no more than it may
pub record IsHeld (set : Setting) (router : Seen) (notes : List Note) (t : Told) : Type 0 where
  pub announced : t.announced ≡ true
  pub judged : rules_in router ≡ set.rules
  pub limited : router.limit ≡ set.limit
  pub calls : router.max_calls ≡ set.max_calls
  pub targets : targets_of router ≡ set.targets
  pub matches : Matches router notes (history_of t)
  pub rooms : router.rooms ≡ rooms_for set.limit set.max_calls set.targets
  pub holds : HoldsWithin router

-- why a session has this outcome: it was not opened, and nothing was received, sent or refused; the last call of a kind on this
-- port failed, and none on another; or no such call failed, and it is the outcome of a session that fits what came and went and
-- what was said of its refused frames
pub data IsOutcome (set : Setting) (o : RouteOutcome) (notes : List Note) (t : Told) : Type 0 where
  NotOpened : (o ≡ outcome.Full) ⊎ (o ≡ outcome.NoMemory) → notes ≡ [] → history_of t ≡ nothing → ((x : ℕ) → HasFailed x t → ⊥) → IsOutcome set o notes t
  LinkFailed : (x : ℕ) (s : Standing) → o ≡ outcome.LinkFault x → HasFailed x t → ((y : ℕ) → y ≢ x → HasFailed y t → ⊥) → FitsTold set.rules set.limit set.max_calls (history_of t) notes s → IsOutcome set o notes t
  OfItself : (s : Standing) → outcome_of set.rules.judging set.limit set.max_calls s ≡ Some o → ((x : ℕ) → HasFailed x t → ⊥) → FitsTold set.rules set.limit set.max_calls (history_of t) notes s → IsOutcome set o notes t

-- a session that has ended, and was closed
pub record HasClosed (set : Setting) (o : RouteOutcome) (notes : List Note) (t : Told) : Type 0 where
  pub announced : t.announced ≡ true
  pub closed : t.closed ≡ true
  pub why : IsOutcome set o notes t

-- the session is one of the open ones, or of those that have ended
pub data IsAmong (k : ℕ) (open_ones : List Entry) (ended : List Closing) : Type 0 where
  IsOpenOne : (i : ℕ) (e : Entry) → slice_get open_ones i ≡ Some e → e.number ≡ k → IsAmong k open_ones ended
  IsEndedOne : (i : ℕ) (c : Closing) → slice_get ended i ≡ Some c → c.0 ≡ k → IsAmong k open_ones ended

abbrev pub IsRising : List Entry → Type 0
IsRising held = (i j : ℕ) (d e : Entry) → i < j → slice_get held i ≡ Some d → slice_get held j ≡ Some e → d.number < e.number

-- the server holds these sessions, of which the first so many are closed, all but that at `busy` are settled and no call of
-- theirs failed, and these have ended, in order of closing; each announced session is one of them, but for `More`, and none is
-- two of them. A session that ended by a fault of a port was closed by the very next call. Of each session this was heard: its
-- refused frames
pub record Stands (set : Setting) (More : ℕ → Type 0) (held : List Entry) (past : List Closing) (heard : ℕ → List Note) (busy gone : ℕ) (m : Meaning) : Type 0 where
  pub started : HasStarted m
  pub rising : IsRising held
  pub each : (i : ℕ) (e : Entry) → slice_get held i ≡ Some e → IsHeld set e.router (heard e.number) (m.session e.number)
  pub closed : (i : ℕ) (e : Entry) → slice_get held i ≡ Some e → i < gone → (m.session e.number).closed ≡ true
  pub is_open : (i : ℕ) (e : Entry) → slice_get held i ≡ Some e → gone ≤ i → (m.session e.number).closed ≡ false
  pub settled : (i : ℕ) (e : Entry) → slice_get held i ≡ Some e → i ≢ busy → IsSettled e.router (m.session e.number)
  pub unfailed : (i : ℕ) (e : Entry) → slice_get held i ≡ Some e → i ≢ busy → (x : ℕ) → HasFailed x (m.session e.number) → ⊥
  pub ended : (i : ℕ) (c : Closing) → slice_get past i ≡ Some c → HasClosed set c.1 (heard c.0) (m.session c.0)
  pub once : (i j : ℕ) (c d : Closing) → i < j → slice_get past i ≡ Some c → slice_get past j ≡ Some d → c.0 ≢ d.0
  pub apart : (i j : ℕ) (c : Closing) (e : Entry) → slice_get past i ≡ Some c → slice_get held j ≡ Some e → c.0 ≢ e.number
  pub broke : (i : ℕ) (c : Closing) (x : ℕ) → slice_get past i ≡ Some c → c.1 ≡ outcome.LinkFault x → FailsLast c.0 x m.calls
  pub covers : (k : ℕ) → (m.session k).announced ≡ true → More k ⊎ IsAmong k held past
  pub unheard : (k : ℕ) → (m.session k).announced ≡ false → heard k ≡ []

abbrev pub no_more : ℕ → Type 0
no_more k = ⊥

-- each meaning that was told and that is so leads to one that is told and is so
abbrev pub Keeps : (Meaning → Type 0) → (Meaning → Type 0) → (Meaning → Type 0) → (Meaning → Type 0) → Type 0
Keeps told told' Before After = (m : Meaning) → told m → Before m → ((n : Meaning) × told' n × After n)

-- the same where what follows also tells of the meaning from which it was led
abbrev pub KeepsFrom : (Meaning → Type 0) → (Meaning → Type 0) → (Meaning → Type 0) → (Meaning → Meaning → Type 0) → Type 0
KeepsFrom told told' Before After = (m : Meaning) → told m → Before m → ((n : Meaning) × told' n × After m n)

-- ---- the order of closing

abbrev pub ended_numbers : List Closing → List ℕ
ended_numbers [] = []
ended_numbers (c ∷ ended) = c.0 ∷ ended_numbers ended

abbrev pub held_numbers : List Entry → List ℕ
held_numbers [] = []
held_numbers (e ∷ held) = e.number ∷ held_numbers held

-- from `begun` on these were closed, in this order
abbrev pub IsClosedInOrder : List FanCall → List FanCall → List ℕ → Type 0
IsClosedInOrder begun calls numbers = closings_of calls ≡ closings_of begun ++ numbers

-- the last of these to end was closed by the last call
pub record IsJustClosed (ended : List Closing) (calls : List FanCall) : Type 0 where
  pub before : List Closing
  pub last : Closing
  pub earlier : List FanCall
  pub ended_are : ended ≡ before ++ last ∷ []
  pub calls_are : calls ≡ earlier ++ Closed last.0 ∷ []

-- each of these that ended by a fault of a port was counted there
abbrev pub AreCounted : Counts → Counts → List Closing → Type 0
AreCounted before now ended =
    (i : ℕ) (c : Closing) (x : ℕ) → slice_get ended i ≡ Some c → c.1 ≡ outcome.LinkFault x → LinkRose before now c.0 x

-- ---- the lines

abbrev pub left_line : Entry → List ℕ
left_line e = line_text e.number None

abbrev pub left_lines : List Entry → List ℕ
left_lines held = flat_map left_line held

-- ---- the whole

-- the fan was started, no event was asked for and no session announced
pub record IsFresh (m : Meaning) : Type 0 where
  pub started : HasStarted m
  pub unasked : m.last_event ≡ None
  pub none : (k : ℕ) → (m.session k).announced ≡ true → ⊥

-- the fan has stopped or failed
abbrev pub is_over : Option HubNext → Bool
is_over None = false
is_over (Some (event.Opened k)) = false
is_over (Some (event.Ready k)) = false
is_over (Some event.Stopped) = true
is_over (Some event.Failed) = true

-- the last answer of `next` that goes with how the server ended: so where it is Stopped, the server answers so or a write failed
abbrev pub EndsOn : Served → Meaning → Type 0
EndsOn served.Stopped m = m.last_event ≡ Some event.Stopped
EndsOn served.HubFault m = m.last_event ≡ Some event.Failed
EndsOn served.WriteFault m = m.last_event ≢ Some event.Failed
EndsOn served.Budget m = is_over m.last_event ≡ false
EndsOn served.OutOfMemory m = m.last_event ≡ None

-- how much was spent, where so much may be
abbrev pub SpendsBy : Served → ℕ → ℕ → Type 0
SpendsBy served.Stopped spent events = spent < events
SpendsBy served.HubFault spent events = spent < events
SpendsBy served.WriteFault spent events = spent ≤ events
SpendsBy served.Budget spent events = spent ≡ events
SpendsBy served.OutOfMemory spent events = spent ≡ 0

-- What a server stands on while it serves.
use Rattle.std.specs.Prelude.{◌≡◌, ◌≢◌, ℕ, ◌<◌, ◌≤◌, ◌⊎◌, List, [], ◌∷◌, ◌++◌, Bool, true, false, Option, None, Some, slice_get}
use Rattle.std.specs.List.{flat_map}
use Rattle.gate_hub.specs.Meaning.{Told, HubCall, Closed, Meaning}
use Rattle.gate_hub.specs.Hubs.{Counts, HasStarted}
use Rattle.gate_hub.specs.declared.hub.Side.{Side}
use Rattle.gate_hub.specs.declared.hub.HubNext.{HubNext}
use Rattle.gate_hub.specs.declared.hub.HubNext.TheVariants as event
use Rattle.gate_hub.specs.declared.hub.Served.{Served}
use Rattle.gate_hub.specs.declared.hub.Served.TheVariants as served
use Rattle.session_core.specs.Rules.{Rules}
use Rattle.session_core.specs.Standing.{Standing, nothing}
use Rattle.session_core.specs.Notes.{Note}
use Rattle.session_core.specs.Telling.{FitsTold}
use Rattle.session_core.specs.Steps.{outcome_of}
use Rattle.session_core.specs.Session.{Seen, HoldsWithin, rooms_for}
use Rattle.session_core.specs.declared.outcome.Outcome.{Outcome}
use Rattle.session_core.specs.declared.outcome.Outcome.TheVariants as outcome
use Rattle.proxy_server.specs.Lines.{line_text}
use Rattle.proxy_server.specs.Saying.{Closing}
use Rattle.proxy_server.specs.Calling.{closings_of, FailsLast, LinkRose}
use Rattle.proxy_server.specs.Matching.{history_of, Matches}
use Rattle.proxy_server.specs.Turning.{IsSettled, HasFailed}

-- the rules of the sessions of a server, the most bytes of a frame and the most open calls, the most sessions that are open at a
-- time, and how much the server may spend
pub record Setting : Type 0 where
  pub rules : Rules
  pub limit : ℕ
  pub max_calls : ℕ
  pub sessions : ℕ
  pub events : ℕ

-- a session that the server has opened, with its number at the hub
pub record Entry (J : Type 0) : Type 0 where
  pub number : ℕ
  pub session : Seen J

-- an open session is one of the server's setting, matches what the hub tells of it and what was said of its refused frames, has the
-- rooms that it took when it was opened, and holds no more than it may
pub record IsHeld (J : Type 0) (rules : J → Rules) (set : Setting) (session : Seen J) (notes : List Note) (t : Told) : Type 0 where
  pub announced : t.announced ≡ true
  pub judged : rules session.judge ≡ set.rules
  pub limited : session.limit ≡ set.limit
  pub calls : session.max_calls ≡ set.max_calls
  pub matches : Matches J rules session notes (history_of t)
  pub rooms : session.rooms ≡ rooms_for set.limit set.max_calls
  pub holds : HoldsWithin session

-- why a session has this outcome: it was not opened, and nothing was received, sent or refused; the last call of a kind on this
-- side failed, and none on the other; or no such call failed, and it is the outcome of a session that fits what came and went and
-- what was said of its refused frames
pub data IsOutcome (set : Setting) (o : Outcome) (notes : List Note) (t : Told) : Type 0 where
  NotOpened : (o ≡ outcome.Full) ⊎ (o ≡ outcome.NoMemory) → notes ≡ [] → history_of t ≡ nothing → ((x : Side) → HasFailed x t → ⊥) → IsOutcome set o notes t
  LinkFailed : (x : Side) (s : Standing) → o ≡ outcome.LinkFault x → HasFailed x t → ((y : Side) → y ≢ x → HasFailed y t → ⊥) → FitsTold set.rules set.limit set.max_calls (history_of t) notes s → IsOutcome set o notes t
  OfItself : (s : Standing) → outcome_of set.rules set.limit set.max_calls s ≡ Some o → ((x : Side) → HasFailed x t → ⊥) → FitsTold set.rules set.limit set.max_calls (history_of t) notes s → IsOutcome set o notes t

-- a session that has ended, and was closed
pub record HasClosed (set : Setting) (o : Outcome) (notes : List Note) (t : Told) : Type 0 where
  pub announced : t.announced ≡ true
  pub closed : t.closed ≡ true
  pub why : IsOutcome set o notes t

-- the session is one of the open ones, or of those that have ended
pub data IsAmong (J : Type 0) (k : ℕ) (open_ones : List (Entry J)) (ended : List Closing) : Type 0 where
  IsOpenOne : (i : ℕ) (e : Entry J) → slice_get open_ones i ≡ Some e → e.number ≡ k → IsAmong J k open_ones ended
  IsEndedOne : (i : ℕ) (c : Closing) → slice_get ended i ≡ Some c → c.0 ≡ k → IsAmong J k open_ones ended

abbrev pub IsRising : {J : Type 0} → List (Entry J) → Type 0
IsRising {J} held = (i j : ℕ) (d e : Entry J) → i < j → slice_get held i ≡ Some d → slice_get held j ≡ Some e → d.number < e.number

-- the server holds these sessions, of which the first so many are closed, all but that at `busy` are settled and no call of
-- theirs failed, and these have ended, in order of closing; each announced session is one of them, but for `More`, and none is
-- two of them. A session that ended by a fault of a side was closed by the very next call. Of each session this was heard: its
-- refused frames
pub record Stands (J : Type 0) (rules : J → Rules) (set : Setting) (More : ℕ → Type 0) (held : List (Entry J)) (past : List Closing) (heard : ℕ → List Note) (busy gone : ℕ) (m : Meaning) : Type 0 where
  pub started : HasStarted m
  pub rising : IsRising held
  pub each : (i : ℕ) (e : Entry J) → slice_get held i ≡ Some e → IsHeld J rules set e.session (heard e.number) (m.session e.number)
  pub closed : (i : ℕ) (e : Entry J) → slice_get held i ≡ Some e → i < gone → (m.session e.number).closed ≡ true
  pub is_open : (i : ℕ) (e : Entry J) → slice_get held i ≡ Some e → gone ≤ i → (m.session e.number).closed ≡ false
  pub settled : (i : ℕ) (e : Entry J) → slice_get held i ≡ Some e → i ≢ busy → IsSettled J rules e.session (m.session e.number)
  pub unfailed : (i : ℕ) (e : Entry J) → slice_get held i ≡ Some e → i ≢ busy → (x : Side) → HasFailed x (m.session e.number) → ⊥
  pub ended : (i : ℕ) (c : Closing) → slice_get past i ≡ Some c → HasClosed set c.1 (heard c.0) (m.session c.0)
  pub once : (i j : ℕ) (c d : Closing) → i < j → slice_get past i ≡ Some c → slice_get past j ≡ Some d → c.0 ≢ d.0
  pub apart : (i j : ℕ) (c : Closing) (e : Entry J) → slice_get past i ≡ Some c → slice_get held j ≡ Some e → c.0 ≢ e.number
  pub broke : (i : ℕ) (c : Closing) (x : Side) → slice_get past i ≡ Some c → c.1 ≡ outcome.LinkFault x → FailsLast c.0 x m.calls
  pub covers : (k : ℕ) → (m.session k).announced ≡ true → More k ⊎ IsAmong J k held past
  pub unheard : (k : ℕ) → (m.session k).announced ≡ false → heard k ≡ []

abbrev pub no_more : ℕ → Type 0
no_more k = ⊥

-- each meaning that was told and that is so leads to one that is told and is so
abbrev pub Keeps : (Meaning → Type 0) → (Meaning → Type 0) → (Meaning → Type 0) → (Meaning → Type 0) → Type 0
Keeps told told' Before After = (m : Meaning) → told m → Before m → ((n : Meaning) × told' n × After n)

-- the same where what follows also tells of the meaning from which it was led
abbrev pub KeepsFrom : (Meaning → Type 0) → (Meaning → Type 0) → (Meaning → Type 0) → (Meaning → Meaning → Type 0) → Type 0
KeepsFrom told told' Before After = (m : Meaning) → told m → Before m → ((n : Meaning) × told' n × After m n)

-- ---- the order of closing

abbrev pub ended_numbers : List Closing → List ℕ
ended_numbers [] = []
ended_numbers (c ∷ ended) = c.0 ∷ ended_numbers ended

abbrev pub held_numbers : {J : Type 0} → List (Entry J) → List ℕ
held_numbers [] = []
held_numbers (e ∷ held) = e.number ∷ held_numbers held

-- from `begun` on these were closed, in this order
abbrev pub IsClosedInOrder : List HubCall → List HubCall → List ℕ → Type 0
IsClosedInOrder begun calls numbers = closings_of calls ≡ closings_of begun ++ numbers

-- the last of these to end was closed by the last call
pub record IsJustClosed (ended : List Closing) (calls : List HubCall) : Type 0 where
  pub before : List Closing
  pub last : Closing
  pub earlier : List HubCall
  pub ended_are : ended ≡ before ++ last ∷ []
  pub calls_are : calls ≡ earlier ++ Closed last.0 ∷ []

-- each of these that ended by a fault of a side was counted there
abbrev pub AreCounted : Counts → Counts → List Closing → Type 0
AreCounted before now ended =
    (i : ℕ) (c : Closing) (x : Side) → slice_get ended i ≡ Some c → c.1 ≡ outcome.LinkFault x → LinkRose before now c.0 x

-- ---- the lines

abbrev pub left_line : {J : Type 0} → Entry J → List ℕ
left_line e = line_text e.number None

abbrev pub left_lines : {J : Type 0} → List (Entry J) → List ℕ
left_lines held = flat_map left_line held

-- ---- the whole

-- the hub was started, no event was asked for and no session announced
pub record IsFresh (m : Meaning) : Type 0 where
  pub started : HasStarted m
  pub unasked : m.last_event ≡ None
  pub none : (k : ℕ) → (m.session k).announced ≡ true → ⊥

-- the hub has stopped or failed
abbrev pub is_over : Option HubNext → Bool
is_over None = false
is_over (Some (event.Opened k)) = false
is_over (Some (event.Ready k)) = false
is_over (Some event.Stopped) = true
is_over (Some event.Failed) = true

-- the last answer of `next` that goes with how the server ended: so where it is Stopped, the server answers so or a write failed
abbrev pub EndsOn : Served → Meaning → Type 0
EndsOn served.Stopped m = m.last_event ≡ Some event.Stopped
EndsOn served.HubFault m = m.last_event ≡ Some event.Failed
EndsOn served.WriteFault m = m.last_event ≢ Some event.Failed
EndsOn served.Budget m = is_over m.last_event ≡ false
EndsOn served.OutOfMemory m = m.last_event ≡ None

-- how much was spent, where so much may be
abbrev pub SpendsBy : Served → ℕ → ℕ → Type 0
SpendsBy served.Stopped spent events = spent < events
SpendsBy served.HubFault spent events = spent < events
SpendsBy served.WriteFault spent events = spent ≤ events
SpendsBy served.Budget spent events = spent ≡ events
SpendsBy served.OutOfMemory spent events = spent ≡ 0

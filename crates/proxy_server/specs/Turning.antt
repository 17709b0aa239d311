-- A turn of a session.
use Rattle.std.specs.Prelude.{◌≡◌, ◌≢◌, ℕ, ◌+◌, ◌≤◌, ◌⊎◌, ◌||◌, List, [], ◌∷◌, ◌++◌, length, min, nat_eq, Bool, true, false, if◌then◌else◌, Option, None, Some, is_some, Result, Ok, Err}
use Rattle.gate_hub.specs.Meaning.{Told, Link, HubCall, Read, Wrote, Meaning, link_of, IsOpen}
use Rattle.gate_hub.specs.declared.hub.Side.{Side}
use Rattle.gate_hub.specs.declared.hub.Side.TheVariants as side
use Rattle.gate_hub.specs.declared.hub.LinkGot.{LinkGot}
use Rattle.gate_hub.specs.declared.hub.LinkGot.TheVariants as got
use Rattle.gate_hub.specs.declared.hub.LinkPut.{LinkPut}
use Rattle.gate_hub.specs.declared.hub.LinkPut.TheVariants as put
use Rattle.framed_transport.specs.Front.{front, is_part}
use Rattle.session_core.specs.Rules.{Rules}
use Rattle.session_core.specs.Notes.{Note}
use Rattle.session_core.specs.Standing.{Standing, History}
use Rattle.session_core.specs.Steps.{IsStill, is_none}
use Rattle.session_core.specs.Ends.{is_own}
use Rattle.session_core.specs.Session.{Seen, due_to, room_of}
use Rattle.session_core.specs.declared.outcome.Outcome.{Outcome}
use Rattle.session_core.specs.declared.outcome.Outcome.TheVariants as outcome
use Rattle.proxy_server.specs.Calling.{piece_length, piece_behind, ArePieces, EndsFailing, Wanted, ToWrite, ToRead}
use Rattle.proxy_server.specs.Matching.{history_of, Matches}
use Rattle.proxy_server.specs.declared.waiting.Waits.{Waits}
use Rattle.proxy_server.specs.declared.turn_end.Turn.{Turn}
use Rattle.proxy_server.specs.declared.turn_end.Turn.TheVariants as turn

-- ---- what a turn does

-- bytes were added behind, and an end stays
pub record Grows (a b : Link) : Type 0 where
  pub received : (more : List ℕ) × (b.received ≡ a.received ++ more)
  pub sent : (more : List ℕ) × (b.sent ≡ a.sent ++ more)
  pub ended : a.ended ≡ true → b.ended ≡ true

-- each side has grown, and no more of it is open or closed
pub record AllGrow (s t : Told) : Type 0 where
  pub announced : t.announced ≡ s.announced
  pub closed : t.closed ≡ s.closed
  pub sides : (x : Side) → Grows (link_of s x) (link_of t x)

-- a last answer that says that its call failed was there before
pub record NoneFailed (s t : Told) : Type 0 where
  pub reads : (x : Side) → (link_of t x).last_read ≡ Some got.Failed → (link_of s x).last_read ≡ Some got.Failed
  pub writes : (x : Side) → (link_of t x).last_write ≡ Some put.Failed → (link_of s x).last_write ≡ Some put.Failed

-- the last read or the last write of the side failed
abbrev pub HasFailed : Side → Told → Type 0
HasFailed x t = ((link_of t x).last_read ≡ Some got.Failed) ⊎ ((link_of t x).last_write ≡ Some put.Failed)

-- how much was received and sent, with the ends
abbrev pub link_amount : Link → ℕ
link_amount l = (length l.received + length l.sent) + (if l.ended then 1 else 0)

abbrev pub amount : Told → ℕ
amount t = link_amount t.client + link_amount t.upstream

-- the bytes of a side that are held
abbrev pub held_of_side : Side → Standing → List ℕ
held_of_side side.Client s = s.client
held_of_side side.Upstream s = s.upstream

-- why no more of a side is read: it has ended, its last read was not ready, or a whole or too large frame of it is held
pub data ReadsNoMore (limit : ℕ) (held : List ℕ) (link : Link) : Type 0 where
  HasEnded : link.ended ≡ true → ReadsNoMore limit held link
  IsNotReady : link.last_read ≡ Some got.NotReady → ReadsNoMore limit held link
  HoldsFrame : is_part (front limit held) ≡ false → ReadsNoMore limit held link

-- a settled session: it has no outcome and no step is left to it, and for each side nothing is due or its last write was
-- not ready, and no more can be read
pub record IsSettled (J : Type 0) (rules : J → Rules) (session : Seen J) (t : Told) : Type 0 where
  pub going : session.outcome ≡ None
  pub still : IsStill (rules session.judge) session.limit session.max_calls session.standing
  pub writes : (x : Side) → (due_to x session.standing ≡ []) ⊎ ((link_of t x).last_write ≡ Some put.NotReady)
  pub reads : (x : Side) → ReadsNoMore session.limit (held_of_side x session.standing) (link_of t x)

-- where the other side's call failed, it had failed before
abbrev pub OthersAreAsBefore : Side → Told → Told → Type 0
OthersAreAsBefore x s t = (y : Side) → y ≢ x → HasFailed y t → HasFailed y s

-- the last call was one on this side that failed, and none on the other has failed; or else the session ended
pub data EndsBy (k : ℕ) (ending : Option Outcome) (o : Outcome) (made : List HubCall) (s t : Told) : Type 0 where
  ByLink : (x : Side) → o ≡ outcome.LinkFault x → EndsFailing k x made → HasFailed x t → OthersAreAsBefore x s t → EndsBy k ending o made s t
  BySession : ending ≡ Some o → is_own o ≡ true → NoneFailed s t → EndsBy k ending o made s t

-- a turn that ends with `More` has made so many calls that moved bytes or brought an end
abbrev pub long_turn : ℕ
long_turn = 16

abbrev pub TurnDoes : (J : Type 0) → (J → Rules) → ℕ → Seen J → Turn → List HubCall → Told → Told → Type 0
TurnDoes J rules k session turn.Settled made s t = AllGrow s t × NoneFailed s t × IsSettled J rules session t
TurnDoes J rules k session turn.More made s t = AllGrow s t × NoneFailed s t × (amount s + long_turn ≤ amount t) × (session.outcome ≡ None)
TurnDoes J rules k session (turn.Ended o) made s t = AllGrow s t × EndsBy k session.outcome o made s t

-- from one meaning to another these calls were made, each a piece of session k, which alone has changed
pub record Moves (k : ℕ) (Step : List HubCall → Told → Told → Type 0) (a b : Meaning) : Type 0 where
  pub made : List HubCall
  pub calls : b.calls ≡ a.calls ++ made
  pub pieces : ArePieces k made
  pub session : Step made (a.session k) (b.session k)
  pub others : (j : ℕ) → j ≢ k → b.session j ≡ a.session j
  pub started : b.started ≡ a.started
  pub last_event : b.last_event ≡ a.last_event
  pub events : b.events ≡ a.events

-- each meaning at which the session is open, and which it matches, leads to such a one
abbrev pub Goes : (Meaning → Type 0) → (Meaning → Type 0) → (History → Type 0) → (History → Type 0) → ℕ → (List HubCall → Told → Told → Type 0) → Type 0
Goes told told' matches matches' k Step =
    (m : Meaning) → told m → IsOpen k m → matches (history_of (m.session k)) → ((n : Meaning) × told' n × matches' (history_of (n.session k)) × Moves k Step m n)

-- the same with what was told of refused frames on the way, whatever was told before
abbrev pub GoesTelling : (List Note → Type 0) → (Meaning → Type 0) → (Meaning → Type 0) → (List Note → History → Type 0) → (List Note → History → Type 0) → ℕ → (List HubCall → Told → Told → Type 0) → Type 0
GoesTelling tells told told' matches matches' k Step =
    (added : List Note) × tells added × ((past : List Note) → Goes told told' (matches past) (matches' (past ++ added)) k Step)

-- so a turn goes: it leads from what the hub tells and this session to what it tells then and that one
abbrev pub TurnGoes : {J : Type 0} → (J → Rules) → ℕ → (List Note → Type 0) → (Meaning → Type 0) → Seen J → (Meaning → Type 0) → Seen J → Turn → Type 0
TurnGoes {J} rules k tells told old told' new result =
    GoesTelling tells told told' (Matches J rules old) (Matches J rules new) k (TurnDoes J rules k new result)

-- how the answer of a turn goes with the session's outcome, whatever is told
pub data EndsAs (ending : Option Outcome) : Turn → Type 0 where
  Settles : ending ≡ None → EndsAs ending turn.Settled
  GoesOn : ending ≡ None → EndsAs ending turn.More
  BreaksOff : (x : Side) → EndsAs ending (turn.Ended (outcome.LinkFault x))
  Ends : (o : Outcome) → ending ≡ Some o → is_own o ≡ true → EndsAs ending (turn.Ended o)

-- ---- the first call of a turn

-- no call of the turn has answered yet that it isn't ready
abbrev pub no_waits : Waits
no_waits = record { client_write = false; client_read = false; upstream_write = false; upstream_read = false }

abbrev pub write_waits : Waits → Side → Bool
write_waits w side.Client = w.client_write
write_waits w side.Upstream = w.upstream_write

abbrev pub read_waits : Waits → Side → Bool
read_waits w side.Client = w.client_read
read_waits w side.Upstream = w.upstream_read

-- what is due to a side is to be written to it, unless it waits
abbrev pub wanted_write : Side → Waits → Standing → Option Wanted
wanted_write x w s = if is_none (due_to x s) || write_waits w x then None else Some (ToWrite x (min (length (due_to x s)) piece_length))

abbrev pub to_write : {J : Type 0} → Side → Waits → Seen J → Option Wanted
to_write x w s = wanted_write x w s.standing

abbrev pub other : Side → Side
other side.Client = side.Upstream
other side.Upstream = side.Client

-- the most that a call reads of a side, where these bytes are due to the other
abbrev pub most_behind : List ℕ → ℕ
most_behind due = if is_none due then piece_length else piece_behind

abbrev pub room_in : {J : Type 0} → Seen J → Side → ℕ
room_in s x = room_of s.limit s.standing (is_some s.outcome) x

-- as much of a side is to be read as there is room for, and at most so much, unless it waits
abbrev pub wanted_read : {J : Type 0} → ℕ → Side → Waits → Seen J → Option Wanted
wanted_read most x w s = if nat_eq (room_in s x) 0 || read_waits w x then None else Some (ToRead x (min (room_in s x) most))

-- the same of as much as this piece holds
abbrev pub to_fill : {J : Type 0} → List ℕ → Side → Waits → Seen J → Option Wanted
to_fill piece x w s = wanted_read (length piece) x w s

-- and in a smaller piece while something is due to the other side
abbrev pub to_read : {J : Type 0} → Side → Waits → Seen J → Option Wanted
to_read x w s = wanted_read (most_behind (due_to (other x) s.standing)) x w s

abbrev pub or_else : Option Wanted → Option Wanted → Option Wanted
or_else None next = next
or_else (Some first) next = Some first

-- first the client is written to, then the upstream; then the upstream is read, and the client last
abbrev pub wanted : {J : Type 0} → Waits → Seen J → Option Wanted
wanted w s =
    or_else (wanted_write side.Client w s.standing)
    (or_else (wanted_write side.Upstream w s.standing)
    (or_else (wanted_read (most_behind s.standing.to_client) side.Upstream w s)
    (wanted_read (most_behind s.standing.to_upstream) side.Client w s)))

-- the first of these calls is the one that is wanted, or none was and none is made
abbrev pub Begins : ℕ → Option Wanted → List HubCall → Type 0
Begins k None made = made ≡ []
Begins k (Some (ToWrite x n)) made = (answer : LinkPut) × (more : List HubCall) × (made ≡ Wrote k x n answer ∷ more)
Begins k (Some (ToRead x n)) made = (answer : LinkGot) × (more : List HubCall) × (made ≡ Read k x n answer ∷ more)

-- so a turn goes, and its first call is the one that is wanted
abbrev pub TurnGoesInOrder : {J : Type 0} → (J → Rules) → ℕ → (List Note → Type 0) → (Meaning → Type 0) → Seen J → (Meaning → Type 0) → Seen J → Turn → Type 0
TurnGoesInOrder {J} rules k tells told old told' new result =
    GoesTelling tells told told' (Matches J rules old) (Matches J rules new) k
    (λ made s t. (old.outcome ≡ None → Begins k (wanted no_waits old) made) × TurnDoes J rules k new result made s t)

-- ---- on the way

abbrev pub with_write : Side → Waits → Waits
with_write side.Client w = record w { client_write = true }
with_write side.Upstream w = record w { upstream_write = true }

abbrev pub with_read : Side → Waits → Waits
with_read side.Client w = record w { client_read = true }
with_read side.Upstream w = record w { upstream_read = true }

-- a call that is marked answered in this turn that it isn't ready, and was not made again
pub record IsMarked (w : Waits) (t : Told) : Type 0 where
  pub writes : (x : Side) → write_waits w x ≡ true → (link_of t x).last_write ≡ Some put.NotReady
  pub reads : (x : Side) → read_waits w x ≡ true → (link_of t x).last_read ≡ Some got.NotReady

-- from one moment of a turn to a later one, with so many calls that moved something, and this wanted first
pub record Runs (k : ℕ) (first : Option Wanted) (moved : ℕ) (v w : Waits) (made : List HubCall) (s t : Told) : Type 0 where
  pub begins : Begins k first made
  pub grows : AllGrow s t
  pub none_failed : NoneFailed s t
  pub amount_is : amount s + moved ≤ amount t
  pub marked : IsMarked v s → IsMarked w t

-- the same up to a call that failed
pub record Breaks (k : ℕ) (first : Option Wanted) (x : Side) (made : List HubCall) (s t : Told) : Type 0 where
  pub begins : Begins k first made
  pub last : EndsFailing k x made
  pub grows : AllGrow s t
  pub failed : HasFailed x t
  pub others : OthersAreAsBefore x s t

-- what reads and writes of a turn do
abbrev pub CallDoes : ℕ → Option Wanted → Result ℕ Side → Waits → Waits → List HubCall → Told → Told → Type 0
CallDoes k first (Ok n) v w made s t = Runs k first n v w made s t
CallDoes k first (Err x) v w made s t = Breaks k first x made s t

-- the same from what the hub tells, the session and the marks to those behind the calls, where the first is wanted so
abbrev pub Calls : {J : Type 0} → (J → Rules) → ℕ → (Waits → Seen J → Option Wanted) → (List Note → Type 0) → (Meaning → Type 0) → Seen J → Waits → (Meaning → Type 0) → Seen J → Waits → Result ℕ Side → Type 0
Calls {J} rules k first tells told old waits told' new waits' result =
    GoesTelling tells told told' (Matches J rules old) (Matches J rules new) k (CallDoes k (first waits old) result waits waits')

-- nothing is due to the side, or it isn't ready; there is no room for it, or it isn't ready
abbrev pub IsQuiet : ℕ → Standing → Option Outcome → Waits → Type 0
IsQuiet limit s ending w =
    (x : Side) → ((due_to x s ≡ []) ⊎ (write_waits w x ≡ true)) × ((room_of limit s (is_some ending) x ≡ 0) ⊎ (read_waits w x ≡ true))

-- a call that waits once is left out from then on
pub record KeepsMarks (v w : Waits) : Type 0 where
  pub writes : (x : Side) → write_waits v x ≡ true → write_waits w x ≡ true
  pub reads : (x : Side) → read_waits v x ≡ true → read_waits w x ≡ true

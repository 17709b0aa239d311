-- A turn of a routed connection.
use Rattle.std.specs.Prelude.{◌≡◌, ◌≢◌, ℕ, zero, suc, ◌+◌, ◌<◌, ◌≤◌, ◌⊎◌, ◌||◌, List, [], ◌∷◌, ◌++◌, length, min, nat_eq, get_or, slice_set, replicate, Bool, true, false, if◌then◌else◌, Option, None, Some, is_some, Result, Ok, Err}
use Rattle.gate_hub.specs.Meaning.{Link}
use Rattle.gate_fan.specs.Meaning.{Told, FanCall, Read, Wrote, Meaning, IsOpen}
use Rattle.gate_hub.specs.declared.hub.LinkGot.{LinkGot}
use Rattle.gate_hub.specs.declared.hub.LinkGot.TheVariants as got
use Rattle.gate_hub.specs.declared.hub.LinkPut.{LinkPut}
use Rattle.gate_hub.specs.declared.hub.LinkPut.TheVariants as put
use Rattle.framed_transport.specs.Front.{front, is_part}
use Rattle.session_core.specs.Notes.{Note}
use Rattle.session_core.specs.Steps.{is_none}
use Rattle.service_router.specs.Standing.{History, inbox_of, due_to, room_of}
use Rattle.service_router.specs.Steps.{IsStill}
use Rattle.service_router.specs.Ends.{is_own}
use Rattle.service_router.specs.Router.{Seen, rules_in, targets_of}
use Rattle.service_router.specs.declared.outcome.RouteOutcome.{RouteOutcome}
use Rattle.service_router.specs.declared.outcome.RouteOutcome.TheVariants as outcome
use Rattle.route_server.specs.Calling.{piece_length, ArePieces, EndsFailing, Wanted, ToWrite, ToRead}
use Rattle.route_server.specs.Matching.{history_of, Matches}
use Rattle.route_server.specs.declared.waiting.Waits.{Waits}
use Rattle.route_server.specs.declared.waiting.TheConstants.{MOST_PORTS}
use Rattle.route_server.specs.declared.turn_end.RouteTurn.{RouteTurn}
use Rattle.route_server.specs.declared.turn_end.RouteTurn.TheVariants as turn

-- ---- what a turn does

-- bytes were added behind, and an end stays
pub record Grows (a b : Link) : Type 0 where
  pub received : (more : List ℕ) × (b.received ≡ a.received ++ more)
  pub sent : (more : List ℕ) × (b.sent ≡ a.sent ++ more)
  pub ended : a.ended ≡ true → b.ended ≡ true

-- each port has grown, and no more of it is open or closed
pub record AllGrow (s t : Told) : Type 0 where
  pub announced : t.announced ≡ s.announced
  pub closed : t.closed ≡ s.closed
  pub ports : (x : ℕ) → Grows (s.link x) (t.link x)

-- a last answer that says that its call failed was there before
pub record NoneFailed (s t : Told) : Type 0 where
  pub reads : (x : ℕ) → (t.link x).last_read ≡ Some got.Failed → (s.link x).last_read ≡ Some got.Failed
  pub writes : (x : ℕ) → (t.link x).last_write ≡ Some put.Failed → (s.link x).last_write ≡ Some put.Failed

-- the last read or the last write of the port failed
abbrev pub HasFailed : ℕ → Told → Type 0
HasFailed x t = ((t.link x).last_read ≡ Some got.Failed) ⊎ ((t.link x).last_write ≡ Some put.Failed)

-- how much was received and sent, with the end
abbrev pub link_amount : Link → ℕ
link_amount l = (length l.received + length l.sent) + (if l.ended then 1 else 0)

-- the same of the first so many ports
abbrev pub amount_below : ℕ → Told → ℕ
amount_below zero t = 0
amount_below (suc n) t = amount_below n t + link_amount (t.link n)

-- and of the ports of a client and so many targets
abbrev pub amount : ℕ → Told → ℕ
amount targets t = amount_below (targets + 1) t

-- why no more of a port is read: it has ended, its last read was not ready, or a whole or too large frame of it is held
pub data ReadsNoMore (limit : ℕ) (held : List ℕ) (link : Link) : Type 0 where
  HasEnded : link.ended ≡ true → ReadsNoMore limit held link
  IsNotReady : link.last_read ≡ Some got.NotReady → ReadsNoMore limit held link
  HoldsFrame : is_part (front limit held) ≡ false → ReadsNoMore limit held link

-- a settled router: it has no outcome and no step is left to it, and for each port nothing is due or its last write was not
-- ready, and no more can be read
pub record IsSettled (router : Seen) (t : Told) : Type 0 where
  pub going : router.outcome ≡ None
  pub still : IsStill (rules_in router).judging router.limit router.max_calls router.standing
  pub writes : (x : ℕ) → x ≤ targets_of router → (due_to x router.standing ≡ []) ⊎ ((t.link x).last_write ≡ Some put.NotReady)
  pub reads : (x : ℕ) → x ≤ targets_of router → ReadsNoMore router.limit (inbox_of x router.standing).held (t.link x)

-- where another port's call failed, it had failed before
abbrev pub OthersAreAsBefore : ℕ → Told → Told → Type 0
OthersAreAsBefore x s t = (y : ℕ) → y ≢ x → HasFailed y t → HasFailed y s

-- the last call was one on this port that failed, and none on another has failed; or else the connection ended
pub data EndsBy (k : ℕ) (ending : Option RouteOutcome) (o : RouteOutcome) (made : List FanCall) (s t : Told) : Type 0 where
  ByLink : (x : ℕ) → o ≡ outcome.LinkFault x → EndsFailing k x made → HasFailed x t → OthersAreAsBefore x s t → EndsBy k ending o made s t
  ByRouter : ending ≡ Some o → is_own o ≡ true → NoneFailed s t → EndsBy k ending o made s t

-- a turn that ends with `More` has made so many calls that moved bytes or brought an end
abbrev pub long_turn : ℕ
long_turn = 16

abbrev pub TurnDoes : ℕ → Seen → RouteTurn → List FanCall → Told → Told → Type 0
TurnDoes k router turn.Settled made s t = AllGrow s t × NoneFailed s t × IsSettled router t
TurnDoes k router turn.More made s t =
    AllGrow s t × NoneFailed s t × (amount (targets_of router) s + long_turn ≤ amount (targets_of router) t) × (router.outcome ≡ None)
TurnDoes k router (turn.Ended o) made s t = AllGrow s t × EndsBy k router.outcome o made s t

-- from one meaning to another these calls were made, each a piece of session k, which alone has changed
pub record Moves (k : ℕ) (Step : List FanCall → Told → Told → Type 0) (a b : Meaning) : Type 0 where
  pub made : List FanCall
  pub calls : b.calls ≡ a.calls ++ made
  pub pieces : ArePieces k made
  pub session : Step made (a.session k) (b.session k)
  pub others : (j : ℕ) → j ≢ k → b.session j ≡ a.session j
  pub started : b.started ≡ a.started
  pub last_event : b.last_event ≡ a.last_event
  pub events : b.events ≡ a.events

-- each meaning at which the session is open, and which the router matches, leads to such a one
abbrev pub Goes : (Meaning → Type 0) → (Meaning → Type 0) → (History → Type 0) → (History → Type 0) → ℕ → (List FanCall → Told → Told → Type 0) → Type 0
Goes told told' matches matches' k Step =
    (m : Meaning) → told m → IsOpen k m → matches (history_of (m.session k)) → ((n : Meaning) × told' n × matches' (history_of (n.session k)) × Moves k Step m n)

-- the same with what was told of refused frames on the way, whatever was told before
abbrev pub GoesTelling : (List Note → Type 0) → (Meaning → Type 0) → (Meaning → Type 0) → (List Note → History → Type 0) → (List Note → History → Type 0) → ℕ → (List FanCall → Told → Told → Type 0) → Type 0
GoesTelling tells told told' matches matches' k Step =
    (added : List Note) × tells added × ((past : List Note) → Goes told told' (matches past) (matches' (past ++ added)) k Step)

-- so a turn goes: it leads from what the fan tells and this router to what it tells then and that one
abbrev pub TurnGoes : ℕ → (List Note → Type 0) → (Meaning → Type 0) → Seen → (Meaning → Type 0) → Seen → RouteTurn → Type 0
TurnGoes k tells told old told' new result = GoesTelling tells told told' (Matches old) (Matches new) k (TurnDoes k new result)

-- how the answer of a turn goes with the router's outcome, whatever is told
pub data EndsAs (ending : Option RouteOutcome) : RouteTurn → Type 0 where
  Settles : ending ≡ None → EndsAs ending turn.Settled
  GoesOn : ending ≡ None → EndsAs ending turn.More
  BreaksOff : (x : ℕ) → EndsAs ending (turn.Ended (outcome.LinkFault x))
  Ends : (o : RouteOutcome) → ending ≡ Some o → is_own o ≡ true → EndsAs ending (turn.Ended o)

-- ---- the first call of a turn

-- no call of the turn has answered yet that it isn't ready
abbrev pub no_waits : Waits
no_waits = record { writes = replicate MOST_PORTS false; reads = replicate MOST_PORTS false }

abbrev pub write_waits : Waits → ℕ → Bool
write_waits w x = get_or w.writes x false

abbrev pub read_waits : Waits → ℕ → Bool
read_waits w x = get_or w.reads x false

-- what is due to a port is to be written to it, unless it waits
abbrev pub to_write : ℕ → Waits → Seen → Option Wanted
to_write x w r =
    if is_none (due_to x r.standing) || write_waits w x then None else Some (ToWrite x (min (length (due_to x r.standing)) piece_length))

-- how much more can be taken of a port
abbrev pub room_in : Seen → ℕ → ℕ
room_in r x = room_of r.limit r.standing (is_some r.outcome) x

-- as much of a port is to be read as there is room for, unless it waits
abbrev pub to_read : ℕ → Waits → Seen → Option Wanted
to_read x w r = if nat_eq (room_in r x) 0 || read_waits w x then None else Some (ToRead x (min (room_in r x) piece_length))

abbrev pub or_else : Option Wanted → Option Wanted → Option Wanted
or_else None next = next
or_else (Some first) next = Some first

-- what the first of so many ports wants for which `want` wants something
abbrev pub first_of : (ℕ → Waits → Seen → Option Wanted) → ℕ → Waits → Seen → Option Wanted
first_of want zero w r = None
first_of want (suc n) w r = or_else (first_of want n w r) (want n w r)

-- the same of the client's port and those of all targets
abbrev pub first_port : (ℕ → Waits → Seen → Option Wanted) → Waits → Seen → Option Wanted
first_port want w r = first_of want (targets_of r + 1) w r

-- first each port is written to, then each is read, in order
abbrev pub wanted : Waits → Seen → Option Wanted
wanted w r = or_else (first_port to_write w r) (first_port to_read w r)

-- the first of these calls is the one that is wanted, or none was and none is made
abbrev pub Begins : ℕ → Option Wanted → List FanCall → Type 0
Begins k None made = made ≡ []
Begins k (Some (ToWrite x n)) made = (answer : LinkPut) × (more : List FanCall) × (made ≡ Wrote k x n answer ∷ more)
Begins k (Some (ToRead x n)) made = (answer : LinkGot) × (more : List FanCall) × (made ≡ Read k x n answer ∷ more)

-- so a turn goes, and its first call is the one that is wanted
abbrev pub TurnGoesInOrder : ℕ → (List Note → Type 0) → (Meaning → Type 0) → Seen → (Meaning → Type 0) → Seen → RouteTurn → Type 0
TurnGoesInOrder k tells told old told' new result =
    GoesTelling tells told told' (Matches old) (Matches new) k
    (λ made s t. (old.outcome ≡ None → Begins k (wanted no_waits old) made) × TurnDoes k new result made s t)

-- ---- on the way

abbrev pub with_write : ℕ → Waits → Waits
with_write x w = record w { writes = slice_set w.writes x true }

abbrev pub with_read : ℕ → Waits → Waits
with_read x w = record w { reads = slice_set w.reads x true }

-- a call that is marked answered in this turn that it isn't ready, and was not made again
pub record IsMarked (w : Waits) (t : Told) : Type 0 where
  pub writes : (x : ℕ) → write_waits w x ≡ true → (t.link x).last_write ≡ Some put.NotReady
  pub reads : (x : ℕ) → read_waits w x ≡ true → (t.link x).last_read ≡ Some got.NotReady

-- from one moment of a turn to a later one, with so many calls that moved something at the ports of so many targets, and this
-- wanted first
pub record Runs (k targets : ℕ) (first : Option Wanted) (moved : ℕ) (v w : Waits) (made : List FanCall) (s t : Told) : Type 0 where
  pub begins : Begins k first made
  pub grows : AllGrow s t
  pub none_failed : NoneFailed s t
  pub amount_is : amount targets s + moved ≤ amount targets t
  pub marked : IsMarked v s → IsMarked w t

-- the same up to a call that failed
pub record Breaks (k : ℕ) (first : Option Wanted) (x : ℕ) (made : List FanCall) (s t : Told) : Type 0 where
  pub begins : Begins k first made
  pub last : EndsFailing k x made
  pub grows : AllGrow s t
  pub failed : HasFailed x t
  pub others : OthersAreAsBefore x s t

-- what reads and writes of a turn do
abbrev pub CallDoes : ℕ → ℕ → Option Wanted → Result ℕ ℕ → Waits → Waits → List FanCall → Told → Told → Type 0
CallDoes k targets first (Ok n) v w made s t = Runs k targets first n v w made s t
CallDoes k targets first (Err x) v w made s t = Breaks k first x made s t

-- the same from what the fan tells, the router and the marks to those behind the calls, where the first is wanted so
abbrev pub Calls : ℕ → (Waits → Seen → Option Wanted) → (List Note → Type 0) → (Meaning → Type 0) → Seen → Waits → (Meaning → Type 0) → Seen → Waits → Result ℕ ℕ → Type 0
Calls k first tells told old waits told' new waits' result =
    GoesTelling tells told told' (Matches old) (Matches new) k (CallDoes k (targets_of old) (first waits old) result waits waits')

-- nothing is due to the port, or it isn't ready
abbrev pub IsWritten : ℕ → Seen → Waits → Type 0
IsWritten x r w = (due_to x r.standing ≡ []) ⊎ (write_waits w x ≡ true)

-- there is no room for more of the port, or it isn't ready
abbrev pub IsRead : ℕ → Seen → Waits → Type 0
IsRead x r w = (room_in r x ≡ 0) ⊎ (read_waits w x ≡ true)

-- each of the first so many ports is so
abbrev pub AreDone : (ℕ → Seen → Waits → Type 0) → ℕ → Seen → Waits → Type 0
AreDone Is n r w = (x : ℕ) → x < n → Is x r w

-- each port is so
abbrev pub AllDone : (ℕ → Seen → Waits → Type 0) → Seen → Waits → Type 0
AllDone Is r w = AreDone Is (targets_of r + 1) r w

abbrev pub IsQuiet : Seen → Waits → Type 0
IsQuiet r w = AllDone IsWritten r w × AllDone IsRead r w

-- a call that waits once is left out from then on
pub record KeepsMarks (v w : Waits) : Type 0 where
  pub writes : (x : ℕ) → write_waits v x ≡ true → write_waits w x ≡ true
  pub reads : (x : ℕ) → read_waits v x ≡ true → read_waits w x ≡ true

-- The state of a session in the program, and what its calls do.
use Rattle.std.specs.Prelude.{◌≡◌, ℕ, ◌+◌, ◌^◌, ◌<◌, ◌≤◌, List, [], length, drop, Bool, true, false, ◌++◌, ◌&&◌, if◌then◌else◌, Option, Some, None, IfSome}
use Rattle.session_core.specs.declared.outcome.Halt.TheVariants as halt
use Rattle.framed_transport.specs.Frames.{IsCut}
use Rattle.framed_transport.specs.Front.{Front, Part, Whole, Large, front}
use Rattle.translate_verdicts.specs.declared.verdict.Cause.{Cause}
use Rattle.session_core.specs.Rules.{Rules}
use Rattle.session_core.specs.Standing.{Standing, History}
use Rattle.session_core.specs.Fits.{told}
use Rattle.session_core.specs.Notes.{Note, call_notes}
use Rattle.session_core.specs.Telling.{FitsTold, answer_notes}
use Rattle.session_core.specs.Steps.{Move, Waits, Halts, Takes, of_upstream, of_client, is_none, by_judged, by_upstream, by_client}
use Rattle.session_core.specs.Ends.{IsAtRest, TakesNoMore}
use Rattle.session_core.specs.Session.{Rooms}
use Rattle.session_core.specs.declared.outcome.Outcome.{Outcome}
use Rattle.session_core.specs.declared.state.State.{State}
use Rattle.session_core.specs.declared.half.Half.{Half}
use Rattle.session_core.specs.declared.state.SessionStep.{SessionStep}
use Rattle.session_core.specs.declared.state.SessionStep.TheVariants as step
use Rattle.session_core.specs.declared.state.TheConstants.{MOST_CALLS}
use Rattle.gate_hub.specs.declared.hub.Side.{Side}
use Rattle.gate_hub.specs.declared.hub.Side.TheVariants as side
use Rattle.session_core.specs.Halves.{HasRooms, behind_front}
use Rattle.session_core.specs.declared.state.Waiting.{Waiting}
use Rattle.session_core.specs.declared.state.Waiting.TheVariants as waiting
use Rattle.session_core.specs.declared.judge.ClientJudged.{ClientJudged}
use Rattle.session_core.specs.declared.judge.ClientJudged.TheVariants as client
use Rattle.session_core.specs.declared.state.Standstill.{Standstill}
use Rattle.session_core.specs.declared.state.Standstill.TheVariants as still

-- the greatest length of a frame
abbrev pub limit_of : State → ℕ
limit_of s = s.client.held.limit

abbrev pub half_of : Side → State → Half
half_of side.Client s = s.client
half_of side.Upstream s = s.upstream

-- with this held of a side
abbrev pub with_half : Side → State → Half → State
with_half side.Client s half = record s { client = half }
with_half side.Upstream s half = record s { upstream = half }

abbrev pub standing : State → Standing
standing s = record {
  client = s.client.held.held;
  upstream = s.upstream.held.held;
  to_client = s.client.due.bytes;
  to_upstream = s.upstream.due.bytes;
  calls = s.calls.items;
  client_ended = s.client.ended;
  upstream_ended = s.upstream.ended;
  taken = s.client.count;
  answered = s.upstream.count;
}

-- where it stands once the upstream's front frame and the oldest call are gone
abbrev pub without_reply : State → Standing
without_reply s = record (standing s) {
  upstream = behind_front s.upstream;
  calls = drop 1 s.calls.items;
  answered = told (s.upstream.count + 1);
}

-- and once the client's front frame is gone
abbrev pub without_call : State → Standing
without_call s = record (standing s) {
  client = behind_front s.client;
  taken = told (s.client.count + 1);
}

-- the rooms that it has
abbrev pub rooms_in : State → Rooms
rooms_in s = record {
  client = limit_of s + 4;
  upstream = s.upstream.held.limit + 4;
  to_client = s.client.due.room;
  to_upstream = s.upstream.due.room;
  calls = s.calls.capacity;
}

-- its rooms serve for frames of the limit and so many calls, and nothing in it passes its room
pub record IsReady (limit max_calls : ℕ) (s : State) : Type 0 where
  pub client : HasRooms limit s.client
  pub upstream : HasRooms limit s.upstream
  pub small : limit < 2 ^ 24
  pub capacity : s.calls.capacity ≡ max_calls
  pub some : 0 < max_calls
  pub few : max_calls ≤ MOST_CALLS
  pub calls_within : length s.calls.items ≤ max_calls

-- its rooms serve for its own limit and number of calls
abbrev pub IsSound : State → Type 0
IsSound s = IsReady (limit_of s) s.calls.capacity s

-- the verdict on a frame that waits
abbrev pub judged_as : Waiting → ClientJudged
judged_as (waiting.Halts h) = client.Halts h
judged_as (waiting.Refused cause) = client.Refused cause

-- the client's front frame is judged so
pub record IsFound (rules : Rules) (limit : ℕ) (held : List ℕ) (found : Waiting) : Type 0 where
  pub frame : List ℕ
  pub rest : List ℕ
  pub stands : front limit held ≡ Whole frame rest
  pub cut : IsCut limit held frame rest
  pub judged : rules.judged frame ≡ judged_as found

-- what is known of the client's front frame is so
abbrev pub Knows : Rules → State → Type 0
Knows rules s = IfSome s.known (λ found. IsFound rules (limit_of s) s.client.held.held found)

-- what each call rests on: rooms that serve, a judge that has room for its frames, and a stored verdict that is so
pub record Works (rules : Rules) (longest : ℕ) (s : State) : Type 0 where
  pub ready : IsSound s
  pub fits : limit_of s ≤ longest
  pub known : Knows rules s

-- and what it leaves: rooms that serve for the same, and a stored verdict that is so
pub record Keeps (rules : Rules) (old new : State) : Type 0 where
  pub ready : IsReady (limit_of old) old.calls.capacity new
  pub known : Knows rules new

-- some notes were made, and the later state fits what was told before and these, with what was added on the way
abbrev pub FitsOn : Rules → State → State → (List Note → Type 0) → (History → History) → Type 0
FitsOn rules old new tells on =
    (added : List Note) × tells added ×
    ((h : History) (past : List Note) → FitsTold rules (limit_of old) old.calls.capacity h past (standing old) →
    FitsTold rules (limit_of old) old.calls.capacity (on h) (past ++ added) (standing new))

-- what is told where the frame at the upstream's front is taken
abbrev pub reply_front_notes : Rules → Standing → Front → List Note
reply_front_notes rules s Part = []
reply_front_notes rules s (Large n) = []
reply_front_notes rules s (Whole frame rest) = answer_notes rules s.calls (told (s.answered + 1)) frame

-- and where the one at the client's front is, behind so many
abbrev pub call_front_notes : Rules → ℕ → Front → List Note
call_front_notes rules taken Part = []
call_front_notes rules taken (Large n) = []
call_front_notes rules taken (Whole frame rest) = call_notes (rules.judged frame) (told (taken + 1)) frame

-- what is told at a look at a side: nothing where no frame is taken
abbrev pub told_if : SessionStep → List Note → List Note
told_if step.Waits notes = []
told_if (step.Halts h) notes = []
told_if step.Takes notes = notes

abbrev pub told_of_reply : Rules → State → SessionStep → List Note
told_of_reply rules s came = told_if came (reply_front_notes rules (standing s) (front (limit_of s) s.upstream.held.held))

abbrev pub told_of_call : Rules → State → SessionStep → List Note
told_of_call rules s came = told_if came (call_front_notes rules s.client.count (front (limit_of s) s.client.held.held))

-- what the front frame of a side does
abbrev pub of_upstream_in : Rules → State → Move
of_upstream_in rules s = of_upstream rules (limit_of s) (standing s)

abbrev pub of_client_in : Rules → State → Move
of_client_in rules s = of_client rules (limit_of s) s.calls.capacity (standing s)

-- what came of a look at a side
abbrev pub Comes : SessionStep → Move → Standing → Standing → Type 0
Comes step.Waits m old new = (m ≡ Waits) × (new ≡ old)
Comes (step.Halts h) m old new = (m ≡ Halts h) × (new ≡ old)
Comes step.Takes m old new = m ≡ Takes new

-- what came of a refused frame of the client, which stands at its front
abbrev pub ComesRefused : Rules → Cause → State → SessionStep → State → Type 0
ComesRefused rules cause old result new =
    (frame rest : List ℕ) → front old.client.held.limit old.client.held.held ≡ Whole frame rest →
    Comes result (by_judged (client.Refused cause) (standing old) [] (rules.answer frame) rest) (standing old) (standing new)

-- no more of a side was taken, for one of the reasons
abbrev pub TakesNoMoreOf : Side → State → State → Type 0
TakesNoMoreOf x old new = TakesNoMore (limit_of old) (half_of x new).held.held (half_of x old).ended new.outcome

-- what the end of the upstream's bytes does to an open call
abbrev pub ends_step : Bool → Bool → SessionStep
ends_step true true = step.Halts halt.Inside
ends_step true false = step.Waits
ends_step false ended = step.Waits

-- nothing more can be taken, and why
abbrev pub StandsStill : Rules → ℕ → ℕ → Standing → Standstill → Type 0
StandsStill rules limit max_calls s (still.Upstream h) = of_upstream rules limit s ≡ Halts h
StandsStill rules limit max_calls s (still.Client h) = (of_upstream rules limit s ≡ Waits) × (of_client rules limit max_calls s ≡ Halts h)
StandsStill rules limit max_calls s still.Waits = (of_upstream rules limit s ≡ Waits) × (of_client rules limit max_calls s ≡ Waits)

-- a frame that stands at the front is cut from the bytes
abbrev pub Cuts : ℕ → List ℕ → Type 0
Cuts limit held = (frame rest : List ℕ) → front limit held ≡ Whole frame rest → IsCut limit held frame rest

-- a step was taken over a frame that is cut, and this was told of it
pub data Took (rules : Rules) (limit max_calls : ℕ) (s t : Standing) (notes : List Note) : Type 0 where
  ByUpstream : of_upstream rules limit s ≡ Takes t → Cuts limit s.upstream → notes ≡ reply_front_notes rules s (front limit s.upstream) → Took rules limit max_calls s t notes
  ByClient : of_upstream rules limit s ≡ Waits → of_client rules limit max_calls s ≡ Takes t → Cuts limit s.client → notes ≡ call_front_notes rules s.taken (front limit s.client) → Took rules limit max_calls s t notes

-- a step was taken, or none can be
abbrev pub Goes : Rules → ℕ → ℕ → Standing → Standing → List Note → Option Standstill → Type 0
Goes rules limit max_calls s t notes None = Took rules limit max_calls s t notes
Goes rules limit max_calls s t notes (Some why) = (t ≡ s) × StandsStill rules limit max_calls s why × (notes ≡ [])

-- the same of a state, by its limit and its number of calls
abbrev pub GoesOn : Rules → State → State → (List Note → Type 0) → Option Standstill → Type 0
GoesOn rules old new tells why =
    (notes : List Note) × tells notes × Goes rules (limit_of old) old.calls.capacity (standing old) (standing new) notes why

-- the outcome, by why nothing more can be taken
abbrev pub ending_by : ℕ → Standing → Standstill → Option Outcome
ending_by limit s (still.Upstream h) = Some (by_upstream h s)
ending_by limit s (still.Client h) = if is_none s.calls then by_client limit s (Halts h) else None
ending_by limit s still.Waits = if is_none s.calls then by_client limit s Waits else None

abbrev pub ending_of : ℕ → Standing → Standstill → Option Outcome
ending_of limit s why = if is_none s.to_client && is_none s.to_upstream then ending_by limit s why else None

-- between two calls the session is at rest
abbrev pub IsSettled : Rules → ℕ → ℕ → State → Type 0
IsSettled rules limit max_calls s = IsAtRest rules limit max_calls (standing s) s.outcome

-- so it is by the limit and the number of calls that it began with
abbrev pub IsSettledBy : Rules → State → State → Type 0
IsSettledBy rules old s = IsSettled rules (limit_of old) old.calls.capacity s

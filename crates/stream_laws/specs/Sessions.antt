-- What a server has carried, from before its start.
use Rattle.std.specs.Prelude.{◌≡◌, ◌⊎◌, ℕ, List, None, Some, true}
use Rattle.gate_hub.specs.Meaning.{Meaning}
use Rattle.gate_hub.specs.Hubs.{NotStarted}
use Rattle.gate_hub.specs.declared.hub.Served.{Served}
use Rattle.gate_hub.specs.declared.hub.Side.TheVariants as side
use Rattle.stream_messages.specs.declared.lanes.Wrapping.{Wrapping}
use Rattle.unframed_laws.specs.Wrapped.{SideIsTold}
use Rattle.session_judge.specs.Setting.{Setting}
use Rattle.session_core.specs.Notes.{Note}
use Rattle.proxy_server.specs.Saying.{Closing, Said, closings}
use Rattle.proxy_server.specs.Serving.{Entry, KeepsFrom}
use Rattle.proxy_server.specs.Steps.{LinesEnd, WritesLines, AnswersLines}
use Rattle.gate_words.specs.Commands.{command}
use Rattle.gate_words.specs.declared.command.Command.TheVariants.{Serve}
use Rattle.gate_words.specs.declared.peers.Front.TheVariants.{Framed}
use Rattle.gate_words.specs.declared.peers.Sides.{Sides}
use Rattle.gate_words.specs.declared.serving.Serving.{Serving}
use Rattle.gate_start.specs.Streams.{Streams}
use Rattle.gate_serve.specs.Peers.{wrapping_by}
use Rattle.gate_start.specs.Outside.{StartsWith}
use Rattle.gate_serve.specs.Serving.{setting_by, telling_by}
use Rattle.refusal_lines.specs.Told.{told_text}
use Rattle.gate_start.specs.Starting.{Halts}
use Rattle.run_laws.specs.Undisturbed.{ServerRun, IsUntouched}
use Rattle.gate_start.specs.declared.start.Start.{Start}
use Rattle.session_laws.specs.Serving.{HasCourse}

-- the hub didn't start: it tells what it told, and nothing was written
pub record HasNotServed (told told' : Meaning → Type 0) (a b : Streams) : Type 0 where
  pub keeps : KeepsFrom told told' NotStarted (λ m n. n ≡ m)
  pub written : b.written ≡ a.written

-- the lines were written, as far as they go with the answer, and what is told leads to what is told then, by which the sessions are so
pub record HasCarriedBy (told told' : Meaning → Type 0) (text : ℕ → Note → List ℕ) (a b : Streams) (Sessions : Served → LinesEnd → List (Entry Setting) → List Closing → Meaning → Type 0) : Type 0 where
  pub result : Served
  pub held : List (Entry Setting)
  pub said : List Said
  pub lines : LinesEnd
  pub writes : WritesLines text lines a.written b.written a.output_faults b.output_faults said held
  pub answers : AnswersLines result lines
  pub sessions : KeepsFrom told told' IsUntouched (λ m n. Sessions result lines held (closings said) n)

-- each session that was announced has a course that its line tells
abbrev pub HasCarried : (Meaning → Type 0) → (Meaning → Type 0) → Serving → Start → Streams → Streams → Type 0
HasCarried told told' s start a b =
    HasCarriedBy told told' (told_text (telling_by s)) a b (λ result lines held ended n. (k : ℕ) → (n.session k).announced ≡ true → HasCourse (setting_by s start) s.limit s.calls result lines held ended n k)

abbrev pub CarriesMessages : (Meaning → Type 0) → (Meaning → Type 0) → Serving → Start → Streams → Streams → Type 0
CarriesMessages told told' s start a b = HasCarried told told' s start a b ⊎ HasNotServed told told' a b

-- ---- where sides have no frames

-- over the session that the hub tells, this one: what was read of a side without frames is a front of the frames of the messages that the
-- hub received there, and what the hub sent is what was written without the lengths. It has a course that its line tells.
pub record IsCarriedOver (w : Wrapping) (s : Setting) (limit max_calls : ℕ) (result : Served) (lines : LinesEnd) (held : List (Entry Setting)) (ended : List Closing) (inner outer : Meaning) (k : ℕ) : Type 0 where
  pub client : SideIsTold w side.Client (inner.session k) (outer.session k)
  pub upstream : SideIsTold w side.Upstream (inner.session k) (outer.session k)
  pub course : HasCourse s limit max_calls result lines held ended outer k

-- each session that was announced has a course over one of frames
abbrev pub HasCarriedOver : Wrapping → (Meaning → Type 0) → (Meaning → Type 0) → Serving → Start → Streams → Streams → Type 0
HasCarriedOver w told told' s start a b =
    HasCarriedBy told told' (told_text (telling_by s)) a b
    (λ result lines held ended n. (outer : Meaning) × ((k : ℕ) → (n.session k).announced ≡ true → IsCarriedOver w (setting_by s start) s.limit s.calls result lines held ended n outer k))

-- the hub didn't start, and nothing was written
pub record HasNotServedOver (told told' : Meaning → Type 0) (a b : Streams) : Type 0 where
  pub keeps : KeepsFrom told told' IsUntouched (λ m n. IsUntouched n)
  pub written : b.written ≡ a.written

abbrev pub CarriesMessagesOver : Wrapping → (Meaning → Type 0) → (Meaning → Type 0) → Serving → Start → Streams → Streams → Type 0
CarriesMessagesOver w told told' s start a b = HasCarriedOver w told told' s start a b ⊎ HasNotServedOver told told' a b

-- ---- from the command's words on

-- the words of a command ask for this server
abbrev pub IsCommanded : {H : Type 0} → ServerRun H → Type 0
IsCommanded x = (words : List (List ℕ)) × (command words ≡ Some (Serve x.serving x.declared))

-- both sides have frames; or these have none
abbrev pub IsOverFrames : Serving → Type 0
IsOverFrames s = (s.front ≡ Framed) × (s.unframed ≡ None)

abbrev pub IsUnframed : Sides → Serving → Type 0
IsUnframed sides s = (s.front ≡ Framed) × (s.unframed ≡ Some sides)

-- the command started from what its words declare, and carried messages from there; or it did not start, said why, and left the hub alone
abbrev pub IsServedBy : {H : Type 0} → (Start → Type 0) → ServerRun H → Type 0
IsServedBy Carries x =
    StartsWith x.before x.behind x.declared Carries (λ stop. Halts stop x.before.streams x.behind.streams x.ending × (x.hub_behind ≡ x.hub))

abbrev pub IsServed : {H : Type 0} → (H → Meaning → Type 0) → ServerRun H → Type 0
IsServed tells x = IsServedBy (λ start. CarriesMessages (tells x.hub) (tells x.hub_behind) x.serving start x.before.streams x.behind.streams) x

-- the same where sides have no frames
abbrev pub IsServedOver : {H : Type 0} → Sides → (H → Meaning → Type 0) → ServerRun H → Type 0
IsServedOver sides tells x =
    IsServedBy (λ start. CarriesMessagesOver (wrapping_by sides x.serving) (tells x.hub) (tells x.hub_behind) x.serving start x.before.streams x.behind.streams) x

-- What a server has carried over each session that its hub announced.
use Rattle.std.specs.Prelude.{◌≡◌, ◌<◌, ◌⊎◌, ℕ, List, true, Option, Some, None, slice_get}
use Rattle.gate_hub.specs.Meaning.{Told, Meaning, link_of}
use Rattle.gate_hub.specs.declared.hub.Hub.{Ghosts as Hub}
use Rattle.gate_hub.specs.declared.hub.Side.{Side}
use Rattle.gate_hub.specs.declared.hub.LinkPut.TheVariants as put
use Rattle.gate_hub.specs.declared.hub.Served.{Served}
use Rattle.session_core.specs.Standing.{nothing}
use Rattle.session_core.specs.declared.outcome.Outcome.{Outcome}
use Rattle.session_core.specs.declared.outcome.Outcome.TheVariants as outcome
use Rattle.session_judge.specs.Setting.{Setting}
use Rattle.session_judge.specs.Rules.{rules_of}
use Rattle.proxy_server.specs.Matching.{history_of}
use Rattle.session_core.specs.Notes.{Note}
use Rattle.proxy_server.specs.Saying.{Closing, Said, closings}
use Rattle.proxy_server.specs.Serving.{Entry, KeepsFrom, IsFresh}
use Rattle.proxy_server.specs.Serving.{Setting as Sessions}
use Rattle.proxy_server.specs.Steps.{Outside, Serves, LinesEnd, MayBeUnsettled, WritesLines, AnswersLines}
use Rattle.proxy_server.specs.Turning.{HasFailed}
use Rattle.session_laws.specs.Carrying.{IsCovered, Carries, IsComplete, IsEnded}

-- the sessions of a server go between these protocols, each with frames of so many bytes and so many open calls at most; so many are
-- open at a time, and so much may be spent
abbrev pub sessions_of : Setting → ℕ → ℕ → ℕ → ℕ → Sessions
sessions_of s limit max_calls sessions events = record { rules = rules_of s; limit = limit; max_calls = max_calls; sessions = sessions; events = events }

-- the same in one: between whom a server's sessions go, within which bounds, and how the line of a refused frame is spelled
pub record ServerTerms : Type 0 where
  pub setting : Setting
  pub limit : ℕ
  pub max_calls : ℕ
  pub sessions : ℕ
  pub events : ℕ
  pub text : ℕ → Note → List ℕ

-- the laws cover these sessions, and a call may be open in them
pub record AreCovered (k : ServerTerms) : Type 0 where
  pub covered : IsCovered k.limit
  pub some : 0 < k.max_calls

-- a hub, and what was written to an output, where it tells it, with its faults
pub record Moment (H : Type 0) : Type 0 where
  pub hub : H
  pub written : Option (List ℕ)
  pub faults : ℕ

-- what stands outside of a server then, as the hub tells of itself
abbrev pub told_at : {H : Type 0} → Hub H → Moment H → Outside
told_at hubs a = record { told = hubs.tells a.hub; counts = hubs.counts a.hub; written = a.written; faults = a.faults }

-- a server on these terms served from the one moment to the other
abbrev pub ServesOn : {H : Type 0} → Hub H → ServerTerms → Moment H → Moment H → Served → Type 0
ServesOn hubs k a b result = Serves Setting rules_of (sessions_of k.setting k.limit k.max_calls k.sessions k.events) k.text (told_at hubs a) (told_at hubs b) result

-- neither side's last write was refused for want of room
abbrev pub IsWritable : Told → Type 0
IsWritable t = (x : Side) → (link_of t x).last_write ≡ Some put.NotReady → ⊥

-- What went over a session, by how it ended. It was not opened, and nothing was received or sent; a call on a side failed; it came to its
-- end, with all sent that was due; or it was left open. Then, unless the budget was spent or a refused frame's line could not be
-- written, all was sent that the calls allow where both sides can be written to.
pub data Course (s : Setting) (limit max_calls : ℕ) (result : Served) (lines : LinesEnd) (t : Told) : Option Outcome → Type 0 where
  NotOpened : (o : Outcome) → (o ≡ outcome.Full) ⊎ (o ≡ outcome.NoMemory) → history_of t ≡ nothing → Course s limit max_calls result lines t (Some o)
  Broken : (x : Side) → HasFailed x t → Carries s limit (history_of t) → Course s limit max_calls result lines t (Some (outcome.LinkFault x))
  CameToAnEnd : (o : Outcome) (c : Carries s limit (history_of t)) → IsEnded s limit max_calls (history_of t) c o → Course s limit max_calls result lines t (Some o)
  LeftOpen : (c : Carries s limit (history_of t))
      → ((MayBeUnsettled result lines → ⊥) → IsWritable t → IsComplete s max_calls c.asked c.replied (history_of t)) → Course s limit max_calls result lines t None

-- the session's line says this of its end
abbrev pub HasLine : ℕ → Option Outcome → List (Entry Setting) → List Closing → Type 0
HasLine k None held ended = (i : ℕ) × (e : Entry Setting) × (slice_get held i ≡ Some e) × (e.number ≡ k)
HasLine k (Some o) held ended = (i : ℕ) × (c : Closing) × (slice_get ended i ≡ Some c) × (c.0 ≡ k) × (c.1 ≡ o)

-- the session has a course, and a line that says how it ended
abbrev pub HasCourse : Setting → ℕ → ℕ → Served → LinesEnd → List (Entry Setting) → List Closing → Meaning → ℕ → Type 0
HasCourse s limit max_calls result lines held ended m k = (ending : Option Outcome) × HasLine k ending held ended × Course s limit max_calls result lines (m.session k) ending

-- the lines were written, as far as they go with the answer, and each session that was announced has a course that its line tells
pub record CarriesAll (s : Setting) (limit max_calls : ℕ) (text : ℕ → Note → List ℕ) (a b : Outside) (result : Served) : Type 0 where
  pub held : List (Entry Setting)
  pub said : List Said
  pub lines : LinesEnd
  pub writes : WritesLines text lines a.written b.written a.faults b.faults said held
  pub answers : AnswersLines result lines
  pub sessions : KeepsFrom a.told b.told IsFresh (λ m n. (k : ℕ) → (n.session k).announced ≡ true → HasCourse s limit max_calls result lines held (closings said) n k)

-- the same from the one moment to the other, for a server on these terms
abbrev pub CarriesOn : {H : Type 0} → Hub H → ServerTerms → Moment H → Moment H → Served → Type 0
CarriesOn hubs k a b result = CarriesAll k.setting k.limit k.max_calls k.text (told_at hubs a) (told_at hubs b) result

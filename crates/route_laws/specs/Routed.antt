-- What a server has routed over each session that its fan announced.
use Rattle.std.specs.Prelude.{◌≡◌, ◌⊎◌, ℕ, List, true, Option, Some, None, slice_get}
use Rattle.gate_io.specs.declared.byte_streams.Sink.{Ghosts as Sink}
use Rattle.gate_fan.specs.Meaning.{Told, Meaning}
use Rattle.gate_fan.specs.declared.fan.Fan.{Ghosts as Fan}
use Rattle.gate_fan.specs.declared.fan.Target.{Target}
use Rattle.gate_hub.specs.declared.hub.LinkPut.TheVariants as put
use Rattle.gate_hub.specs.declared.hub.Served.{Served}
use Rattle.session_core.specs.Notes.{Note}
use Rattle.session_judge.specs.declared.setup.Setup.{Setup}
use Rattle.service_router.specs.Setups.{rules_for}
use Rattle.service_router.specs.Standing.{Standing, History, nothing}
use Rattle.service_router.specs.All.{Terms as Judged, FitsBy, AllOfClient, AllAnswers, TargetWasSent, ClientWasSent, AllWasSent, IsToldBy}
use Rattle.service_router.specs.declared.outcome.RouteOutcome.{RouteOutcome}
use Rattle.service_router.specs.declared.outcome.RouteOutcome.TheVariants as outcome
use Rattle.route_server.specs.Matching.{history_of}
use Rattle.route_server.specs.Turning.{HasFailed}
use Rattle.route_server.specs.Saying.{Closing, Said, closings}
use Rattle.route_server.specs.Serving.{Setting, Entry, KeepsFrom, IsFresh}
use Rattle.route_server.specs.Steps.{CanRoute, Passage, seen, setting_by, LinesEnd, WritesLines, AnswersLines, MayBeUnsettled, ServesBy}

-- each port was sent a front of what all frames give: a target, of what those of the client before the first that halts it give to
-- that target; the client, of what they and the answers in the order of its calls give
pub record IsRouted (t : Judged) (h : History) : Type 0 where
  pub targets : (all : AllOfClient t h) (u : ℕ) → TargetWasSent t h all u
  pub client : (all : AllOfClient t h) (answers : AllAnswers t h all) → ClientWasSent t h all answers

-- no port's last write was refused for want of room
abbrev pub IsWritable : Told → Type 0
IsWritable told = (x : ℕ) → (told.link x).last_write ≡ Some put.NotReady → ⊥

-- What went over a session, by how it ended. It was not opened, and nothing was received or sent; a call on a port failed; it came to an
-- end, and its outcome says what is so; or it was left open. Then, unless the budget was spent or the line of a frame could not be
-- written, each port was sent all that is due to it for what came, where all can be written to.
pub data Course (t : Judged) (result : Served) (lines : LinesEnd) (told : Told) : Option RouteOutcome → Type 0 where
  NeverOpened : (o : RouteOutcome) → (o ≡ outcome.Full) ⊎ (o ≡ outcome.NoMemory) → history_of told ≡ nothing → Course t result lines told (Some o)
  Broken : (x : ℕ) → HasFailed x told → IsRouted t (history_of told) → Course t result lines told (Some (outcome.LinkFault x))
  CameToAnEnd : (o : RouteOutcome) (s : Standing) (fits : FitsBy t (history_of told) s) → IsToldBy t (history_of told) s fits o → IsRouted t (history_of told)
      → Course t result lines told (Some o)
  LeftOpen : IsRouted t (history_of told) → ((MayBeUnsettled result lines → ⊥) → IsWritable told → AllWasSent t (history_of told)) → Course t result lines told None

-- the session's line says this of its end
abbrev pub HasLine : ℕ → Option RouteOutcome → List Entry → List Closing → Type 0
HasLine k None held ended = (i : ℕ) × (e : Entry) × (slice_get held i ≡ Some e) × (e.number ≡ k)
HasLine k (Some o) held ended = (i : ℕ) × (c : Closing) × (slice_get ended i ≡ Some c) × (c.0 ≡ k) × (c.1 ≡ o)

-- the session has a course, and a line that says how it ended
abbrev pub HasCourse : Judged → Served → LinesEnd → List Entry → List Closing → Meaning → ℕ → Type 0
HasCourse t result lines held ended m k = (ending : Option RouteOutcome) × HasLine k ending held ended × Course t result lines (m.session k) ending

-- what a server was given: with what each session is opened, the targets, the most sessions at a time, and how much may be spent
pub record Given : Type 0 where
  pub setup : Setup
  pub targets : List Target
  pub sessions : ℕ
  pub events : ℕ

abbrev pub setting_for : Given → Setting
setting_for g = setting_by g.setup g.targets g.sessions g.events

-- the sessions are judged as it was given
pub record AreJudged (g : Given) (t : Judged) : Type 0 where
  pub rules : t.rules ≡ rules_for g.setup g.targets
  pub limit : t.limit ≡ g.setup.limit
  pub max_calls : t.max_calls ≡ g.setup.calls

-- the lines were written, as far as they go with the answer, and each session that was announced has a course that its line tells;
-- the line of a refused frame is spelled so
pub record RoutesAll (g : Given) (text : ℕ → Note → List ℕ) (way : Passage) (result : Served) : Type 0 where
  pub judged : Judged
  pub are_judged : AreJudged g judged
  pub held : List Entry
  pub said : List Said
  pub lines : LinesEnd
  pub writes : WritesLines text lines way.before.written way.behind.written way.before.faults way.behind.faults said held
  pub answers : AnswersLines result lines
  pub sessions : KeepsFrom way.before.told way.behind.told IsFresh (λ m n. (k : ℕ) → (n.session k).announced ≡ true → HasCourse judged result lines held (closings said) n k)

-- so does a server that serves so, from what fan and output tell before to what they tell behind
abbrev pub Routes : {M O : Type 0} → Fan M → Sink O → Given → M → O → M → O → Served → Type 0
Routes fans sinks g fan output fan' output' result =
    let way = seen fans sinks fan output fan' output' in
    (text : ℕ → Note → List ℕ) → CanRoute g.setup g.targets → ServesBy (setting_for g) text way result → RoutesAll g text way result

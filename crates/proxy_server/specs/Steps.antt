-- What the steps of a server do, and what it leaves.
use Rattle.std.specs.Prelude.{◌≡◌, ℕ, ⊤, ◌^◌, ◌<◌, ◌≤◌, ◌⊎◌, List, [], ◌∷◌, ◌++◌, length, take, Option, None, Some, Result, Ok, Err, slice_get}
use Rattle.std.specs.Io.KnownBytes.{Appends}
use Rattle.gate_base.specs.Causes.{Rose}
use Rattle.gate_io.specs.Fronts.{AppendsFront}
use Rattle.gate_io.specs.declared.byte_streams.Sink.{Ghosts as Sink}
use Rattle.gate_io.specs.declared.writing.Wrote.{Wrote}
use Rattle.gate_io.specs.declared.writing.Wrote.TheVariants as wrote
use Rattle.gate_hub.specs.Meaning.{HubCall, Closed, Meaning}
use Rattle.gate_hub.specs.Hubs.{Counts, Later}
use Rattle.gate_hub.specs.declared.hub.Hub.{Ghosts as Hub}
use Rattle.gate_hub.specs.declared.hub.HubNext.{HubNext}
use Rattle.gate_hub.specs.declared.hub.HubNext.TheVariants as event
use Rattle.gate_hub.specs.declared.hub.Served.{Served}
use Rattle.gate_hub.specs.declared.hub.Served.TheVariants as served
use Rattle.gate_hub.specs.declared.hub.Side.{Side}
use Rattle.session_core.specs.Rules.{Rules}
use Rattle.session_core.specs.Notes.{Note}
use Rattle.session_core.specs.Session.{Seen}
use Rattle.session_core.specs.Steps.{outcome_of}
use Rattle.session_core.specs.declared.outcome.Outcome.{Outcome}
use Rattle.session_core.specs.declared.outcome.Outcome.TheVariants as outcome
use Rattle.refusal_teller.specs.Tells.{Writes}
use Rattle.refusal_teller.specs.Refused.{refusal_lines}
use Rattle.proxy_server.specs.Calling.{LinkRose}
use Rattle.proxy_server.specs.Turning.{HasFailed, IsSettled, TurnGoes}
use Rattle.proxy_server.specs.Saying.{Closing, Said, closings, heard_in, InOrder, AreOf, said_lines}
use Rattle.proxy_server.specs.Serving.{Setting, Entry, Stands, Keeps, KeepsFrom, no_more, left_line, left_lines, ended_numbers, held_numbers, IsClosedInOrder, IsJustClosed, AreCounted, IsFresh, EndsOn, SpendsBy}
use Rattle.proxy_server.specs.Working.{Tally, Waits, HasWaited, IsBusy, IsNamed, HasEndedAt, Awaits}
use Rattle.proxy_server.specs.declared.turn_end.Turn.{Turn}
use Rattle.proxy_server.specs.declared.server.Limits.{Limits}
use Rattle.proxy_server.specs.declared.server.Server.{Server}
use Rattle.proxy_server.specs.declared.server.End.{End}
use Rattle.proxy_server.specs.declared.server.End.TheVariants as ends

-- a server's limits are those of its sessions, whose judges have room for so many bytes
pub record AreGood (limits : Limits) (room : ℕ) : Type 0 where
  pub small : limits.frame < 2 ^ 24
  pub some : 0 < limits.calls
  pub few : limits.calls ≤ 65536
  pub serves : limits.frame ≤ room

abbrev pub setting_of : Rules → Limits → Setting
setting_of rules limits = record { rules = rules; limit = limits.frame; max_calls = limits.calls; sessions = limits.sessions; events = limits.events }

-- a session that was announced is not opened: so many are open already, or its memory was not found
abbrev pub IsRefusedAs : Outcome → ℕ → ℕ → Type 0
IsRefusedAs o held sessions = ((o ≡ outcome.Full) × (sessions ≤ held)) ⊎ ((o ≡ outcome.NoMemory) × (held < sessions))

-- where the session at this place ended by a fault of a side, that was counted
abbrev pub WasCounted : {J : Type 0} → Counts → Counts → Outcome → List (Entry J) → ℕ → Type 0
WasCounted {J} before now o held at =
    (e : Entry J) (x : Side) → slice_get held at ≡ Some e → o ≡ outcome.LinkFault x → LinkRose before now e.number x

-- ---- one step

-- what stands outside of a server at a moment: what the hub tells and its counts, what was written and the output's faults
pub record Outside : Type 1 where
  pub told : Meaning → Type 0
  pub counts : Counts
  pub written : Option (List ℕ)
  pub faults : ℕ

abbrev pub outside : {H O : Type 0} → (H → Meaning → Type 0) → (H → Counts) → (O → Option (List ℕ)) → (O → ℕ) → H → O → Outside
outside tells counts written faults hub output = record { told = tells hub; counts = counts hub; written = written output; faults = faults output }

-- what stands outside before a call and behind it
pub record Passage : Type 1 where
  pub before : Outside
  pub behind : Outside

-- as this hub and this output tell of themselves
abbrev pub seen : {H O : Type 0} → Hub H → Sink O → H → O → H → O → Passage
seen hubs sinks hub output hub' output' =
    let moment = outside hubs.tells hubs.counts sinks.written sinks.faults in
    record { before = moment hub output; behind = moment hub' output' }

-- a session is turned, and the lines of its frames that were refused on the way were written, or a front of them
abbrev pub TurnsTelling : {J : Type 0} → (J → Rules) → (ℕ → Note → List ℕ) → Entry J → Passage → Entry J → Turn → Wrote → Type 0
TurnsTelling rules text old way new result wrote =
    TurnGoes rules old.number (λ notes. Writes wrote way.before.written way.behind.written (refusal_lines text old.number notes))
    way.before.told old.session way.behind.told new.session result

-- the limits and the room for a line stay, and no more is spent than may be
abbrev pub IsCarriedOn : Limits → Limits → ℕ → ℕ → ℕ → ℕ → Type 0
IsCarriedOn limits limits' room room' spent spent' = (limits' ≡ limits) × (room' ≡ room) × (spent ≤ spent') × (spent' ≤ limits.events)

-- how turns and lines end the work: the hub is not asked there, and the budget is spent where it ends them
abbrev pub WorkEnds : Result ⊤ End → ℕ → ℕ → Type 0
WorkEnds (Ok x) spent events = ⊤
WorkEnds (Err ends.Stopped) spent events = ⊥
WorkEnds (Err ends.HubFault) spent events = ⊥
WorkEnds (Err ends.WriteFault) spent events = ⊤
WorkEnds (Err (ends.Unwritten at)) spent events = ⊤
WorkEnds (Err (ends.Budget at)) spent events = spent ≡ events

-- and a step: it spends some where an event has come
abbrev pub StepEnds : Result ⊤ End → ℕ → ℕ → ℕ → Type 0
StepEnds (Ok x) before spent events = before < spent
StepEnds (Err ends.Stopped) before spent events = spent ≡ before
StepEnds (Err ends.HubFault) before spent events = spent ≡ before
StepEnds (Err ends.WriteFault) before spent events = ⊤
StepEnds (Err (ends.Unwritten at)) before spent events = ⊤
StepEnds (Err (ends.Budget at)) before spent events = spent ≡ events

-- where the server stands after a step, and where it has ended
abbrev pub EndedTo : (J : Type 0) → (J → Rules) → Result ⊤ End → Setting → Meaning → ℕ → List (Entry J) → List Said → Meaning → Type 0
EndedTo J rules (Ok x) set begun spent held past m = Waits J rules set begun spent held past m
EndedTo J rules (Err ends.Stopped) set begun spent held past m = HasWaited J rules set begun spent event.Stopped held past m
EndedTo J rules (Err ends.HubFault) set begun spent held past m = HasWaited J rules set begun spent event.Failed held past m
EndedTo J rules (Err ends.WriteFault) set begun spent held past m = Waits J rules set begun spent held past m × IsJustClosed (closings past) m.calls
EndedTo J rules (Err (ends.Unwritten at)) set begun spent held past m = IsBusy J rules set begun spent at held past m
EndedTo J rules (Err (ends.Budget at)) set begun spent held past m = IsBusy J rules set begun spent at held past m

-- the lines of all that was said before were written, and of those of the last session that something was said of a front
pub record LastLinesFail (text : ℕ → Note → List ℕ) (old new : Option (List ℕ)) (said : List Said) : Type 0 where
  pub before : List Said
  pub late : List Said
  pub number : ℕ
  pub said_are : said ≡ before ++ late
  pub late_are : AreOf number late
  pub written : (count : ℕ) × (count ≤ length (said_lines text late)) × Appends old new (said_lines text before ++ take count (said_lines text late))

-- the line of what was said was written at once, and nothing behind one that could not be
abbrev pub StepWrites : (ℕ → Note → List ℕ) → Result ⊤ End → Option (List ℕ) → Option (List ℕ) → List Said → Type 0
StepWrites text (Ok x) old new said = Appends old new (said_lines text said)
StepWrites text (Err ends.Stopped) old new said = Appends old new (said_lines text said)
StepWrites text (Err ends.HubFault) old new said = Appends old new (said_lines text said)
StepWrites text (Err ends.WriteFault) old new said = LastLinesFail text old new said
StepWrites text (Err (ends.Unwritten at)) old new said = LastLinesFail text old new said
StepWrites text (Err (ends.Budget at)) old new said = Appends old new (said_lines text said)

-- something was said on the way, and its lines were written so
pub record GoesBy (J : Type 0) (rules : J → Rules) (set : Setting) (Writes : List Said → Type 0) (a b : Outside) (Before : Meaning → List Said → Meaning → Type 0) (spent : ℕ) (held : List (Entry J)) (result : Result ⊤ End) : Type 0 where
  pub more : List Said
  pub writes : Writes more
  pub counted : AreCounted a.counts b.counts (closings more)
  pub keeps : (begun : Meaning) (past : List Said) → Keeps a.told b.told (Before begun past) (EndedTo J rules result set begun spent held (past ++ more))

-- its lines were written at once
abbrev pub Goes : (J : Type 0) → (J → Rules) → Setting → (ℕ → Note → List ℕ) → Outside → Outside → (Meaning → List Said → Meaning → Type 0) → ℕ → List (Entry J) → Result ⊤ End → Type 0
Goes J rules set text a b Before spent held result = GoesBy J rules set (StepWrites text result a.written b.written) a b Before spent held result

-- the same from one server to another, where it stood so
abbrev pub ServerGoes : {J : Type 0} → (J → Rules) → Setting → (ℕ → Note → List ℕ) → Passage → (Meaning → List Said → Meaning → Type 0) → Server J → Result ⊤ End → Type 0
ServerGoes {J} rules set text way Before new result = Goes J rules set text way.before way.behind Before new.spent new.sessions.items result

-- events are taken from a wait on, by judges with these rules
abbrev pub Steps : {J : Type 0} → (J → Rules) → Rules → (ℕ → Note → List ℕ) → Server J → Passage → Server J → Result ⊤ End → Type 0
Steps {J} rules judged text old way new result =
    let set = setting_of judged old.limits in
    ServerGoes rules set text way (λ begun. Waits J rules set begun old.spent old.sessions.items) new result

-- the same up to the end of the work
abbrev pub Attends : {J : Type 0} → (J → Rules) → Rules → (ℕ → Note → List ℕ) → Server J → Passage → Server J → End → Type 0
Attends rules judged text old way new ending = Steps rules judged text old way new (Err ending)

-- session k, which was announced, is opened and turned, or closed
abbrev pub Admits : {J : Type 0} → (J → Rules) → Rules → (ℕ → Note → List ℕ) → ℕ → Server J → Passage → Server J → Result ⊤ End → Type 0
Admits {J} rules judged text k old way new result =
    let set = setting_of judged old.limits in
    ServerGoes rules set text way (λ begun. Awaits J rules set begun old.spent k old.sessions.items) new result

-- session k, which was announced, is closed
abbrev pub Refuses : {J : Type 0} → (J → Rules) → ℕ → Server J → Passage → Server J → Result ⊤ End → Type 0
Refuses {J} rules k old way new result =
    (set : Setting) (text : ℕ → Note → List ℕ) → set.sessions ≡ old.limits.sessions →
    ServerGoes rules set text way (λ begun. Awaits J rules set begun old.spent k old.sessions.items) new result

-- the line of a session that has ended was written, or nothing where one before could not be
abbrev pub ClosingWrites : (ℕ → Note → List ℕ) → Wrote → Result ⊤ End → Option (List ℕ) → Option (List ℕ) → List Said → Type 0
ClosingWrites text wrote.All result old new said = StepWrites text result old new said
ClosingWrites text wrote.Failed result old new said = (result ≡ Err ends.WriteFault) × Appends old new []

-- the session at this place, which has ended so, is closed, and nothing else is said; a fault of a side was counted since `from`
abbrev pub Finishes : {J : Type 0} → (J → Rules) → ℕ → Outcome → Wrote → Server J → Passage → Server J → Result ⊤ End → Type 0
Finishes {J} rules at o w old way new result =
    (set : Setting) (text : ℕ → Note → List ℕ) (from : Counts) → Later from way.before.counts → WasCounted from way.before.counts o old.sessions.items at →
    GoesBy J rules set (λ said. ((e : Entry J) → slice_get old.sessions.items at ≡ Some e → AreOf e.number said) × ClosingWrites text w result way.before.written way.behind.written said)
    (record (way.before) { counts = from }) way.behind (λ begun. HasEndedAt J rules set begun old.spent at o old.sessions.items) new.spent new.sessions.items result

-- the session at this place is turned
abbrev pub Settles : {J : Type 0} → (J → Rules) → (ℕ → Note → List ℕ) → ℕ → Server J → Passage → Server J → Result ⊤ End → Type 0
Settles {J} rules text at old way new result =
    (set : Setting) → ServerGoes rules set text way (λ begun. IsBusy J rules set begun old.spent at old.sessions.items) new result

-- session k, which an event names, is turned
abbrev pub Resumes : {J : Type 0} → (J → Rules) → (ℕ → Note → List ℕ) → ℕ → Server J → Passage → Server J → Result ⊤ End → Type 0
Resumes {J} rules text k old way new result =
    (set : Setting) → ServerGoes rules set text way (λ begun. IsNamed J rules set begun old.spent k old.sessions.items) new result

-- a session was put last, at this place
abbrev pub IsPutLast : {J : Type 0} → List (Entry J) → ℕ → Seen J → List (Entry J) → ℕ → Type 0
IsPutLast held number session held' at = (at ≡ length held) × (held' ≡ held ++ (record { number = number; session = session }) ∷ [])

-- ---- the end

-- no last answer of a call of these sessions is that it failed
abbrev pub AreUnfailed : {J : Type 0} → List (Entry J) → Meaning → Type 0
AreUnfailed {J} held m = (i : ℕ) (e : Entry J) → slice_get held i ≡ Some e → (x : Side) → HasFailed x (m.session e.number) → ⊥

-- these sessions are closed, one after another
abbrev pub closing_calls : List ℕ → List HubCall
closing_calls [] = []
closing_calls (k ∷ numbers) = Closed k ∷ closing_calls numbers

-- after these calls the first so many of the sessions that were open were closed, and the hub's last event stays
pub record Leaves (J : Type 0) (rules : J → Rules) (set : Setting) (begun : Meaning) (spent : ℕ) (held : List (Entry J)) (past : List Said) (busy : ℕ) (last : Option HubNext) (calls : List HubCall) (gone : ℕ) (m : Meaning) : Type 0 where
  pub stands : Stands J rules set no_more held (closings past) (heard_in past) busy gone m
  pub unfailed : AreUnfailed held m
  pub tally : Tally begun set spent (length held) (closings past) m
  pub in_order : InOrder past
  pub closings : m.calls ≡ calls ++ closing_calls (held_numbers (take gone held))
  pub last_event : m.last_event ≡ last

-- so many of the sessions that were open were closed, and then so many
abbrev pub LeavesMore : {J : Type 0} → (J → Rules) → List (Entry J) → (Meaning → Type 0) → (Meaning → Type 0) → ℕ → ℕ → Type 0
LeavesMore {J} rules held told told' gone gone' =
    (set : Setting) (begun : Meaning) (spent : ℕ) (past : List Said) (busy : ℕ) (last : Option HubNext) (calls : List HubCall) →
    let leaves = Leaves J rules set begun spent held past busy last calls in
    Keeps told told' (leaves gone) (leaves gone')

-- the line of the session at this place, which is left open, was written
abbrev pub WritesLeft : {J : Type 0} → List (Entry J) → ℕ → Wrote → Option (List ℕ) → Option (List ℕ) → Type 0
WritesLeft {J} held at result old new = (e : Entry J) → slice_get held at ≡ Some e → Writes result old new (left_line e)

-- which lines a server has written: all; or those of what was said, but for a front of the last session's, which has ended or was
-- turned; or those, and of the lines of sessions that were left open a front
pub data LinesEnd : Type 0 where
  AllLines : LinesEnd
  LastOfWork : LinesEnd
  LastOfTurn : LinesEnd
  LeftOpen : LinesEnd

abbrev pub WritesLines : {J : Type 0} → (ℕ → Note → List ℕ) → LinesEnd → Option (List ℕ) → Option (List ℕ) → ℕ → ℕ → List Said → List (Entry J) → Type 0
WritesLines text AllLines old new faults faults' said held = Appends old new (said_lines text said ++ left_lines held)
WritesLines text LastOfWork old new faults faults' said held = LastLinesFail text old new said × Rose faults faults'
WritesLines text LastOfTurn old new faults faults' said held = LastLinesFail text old new said × Rose faults faults'
WritesLines text LeftOpen old new faults faults' said held =
    ((count : ℕ) × (count ≤ length (left_lines held)) × Appends old new (said_lines text said ++ take count (left_lines held))) × Rose faults faults'

-- the same, and no more than how it goes with the answer: all lines were written, or a front of them before a fault of the output
abbrev pub WritesOrFails : Option (List ℕ) → Option (List ℕ) → ℕ → ℕ → List ℕ → Type 0
WritesOrFails old new faults faults' lines = Appends old new lines ⊎ (AppendsFront old new lines × Rose faults faults')

abbrev pub ServedWrites : Served → Option (List ℕ) → Option (List ℕ) → ℕ → ℕ → List ℕ → Type 0
ServedWrites served.Stopped old new faults faults' lines = Appends old new lines
ServedWrites served.HubFault old new faults faults' lines = WritesOrFails old new faults faults' lines
ServedWrites served.WriteFault old new faults faults' lines = AppendsFront old new lines × Rose faults faults'
ServedWrites served.Budget old new faults faults' lines = WritesOrFails old new faults faults' lines
ServedWrites served.OutOfMemory old new faults faults' lines = Appends old new lines

-- what is answered, by which lines were written
abbrev pub AnswersLines : Served → LinesEnd → Type 0
AnswersLines served.Stopped lines = lines ≡ AllLines
AnswersLines served.HubFault lines = (lines ≡ AllLines) ⊎ (lines ≡ LeftOpen)
AnswersLines served.WriteFault lines = (lines ≡ LastOfWork) ⊎ (lines ≡ LastOfTurn) ⊎ (lines ≡ LeftOpen)
AnswersLines served.Budget lines = (lines ≡ AllLines) ⊎ (lines ≡ LeftOpen)
AnswersLines served.OutOfMemory lines = lines ≡ AllLines

-- a line was written before the hub was asked again: behind the closing of the session whose line could not be written, only
-- the sessions that were left open were closed
abbrev pub IsNotAskedAgain : {J : Type 0} → LinesEnd → List Closing → List (Entry J) → List HubCall → Type 0
IsNotAskedAgain {J} lines ended held calls =
    lines ≡ LastOfWork → (earlier : List HubCall) × IsJustClosed ended earlier × (calls ≡ earlier ++ closing_calls (held_numbers held))

-- a session that was left open may be unsettled: the budget was spent, or the line of a frame of it could not be written
pub data MayBeUnsettled : Served → LinesEnd → Type 0 where
  IsSpent : {lines : LinesEnd} → MayBeUnsettled served.Budget lines
  IsUnwritten : {result : Served} → MayBeUnsettled result LastOfTurn

-- the sessions that were left open: by its rules none has an outcome, no call of theirs failed, and each is settled, but for one
-- where the budget is spent or a line of it could not be written. `next` may stop or fail at any wait and changes no session by
-- that, so this holds at each wait
pub record IsLeft (J : Type 0) (rules : J → Rules) (set : Setting) (result : Served) (lines : LinesEnd) (held : List (Entry J)) (m : Meaning) : Type 0 where
  pub settled : (MayBeUnsettled result lines → ⊥) → (i : ℕ) (e : Entry J) → slice_get held i ≡ Some e → IsSettled J rules e.session (m.session e.number)
  pub going : (i : ℕ) (e : Entry J) → slice_get held i ≡ Some e → outcome_of set.rules set.limit set.max_calls e.session.standing ≡ None
  pub unfailed : AreUnfailed held m

-- what was done in all: which sessions found the server full, and how much was spent, as it goes with how the server ended
pub record Accounts (set : Setting) (result : Served) (count : ℕ) (past : List Closing) (begun m : Meaning) : Type 0 where
  pub spent : ℕ
  pub tally : Tally begun set spent count past m
  pub spends : SpendsBy result spent set.events

-- where the server ends, as the hub tells it; the sessions were closed in the order of their lines
pub record Ending (J : Type 0) (rules : J → Rules) (set : Setting) (result : Served) (lines : LinesEnd) (held : List (Entry J)) (said : List Said) (busy : ℕ) (begun m : Meaning) : Type 0 where
  pub stands : Stands J rules set no_more held (closings said) (heard_in said) busy (length held) m
  pub event : EndsOn result m
  pub left : IsLeft J rules set result lines held m
  pub accounts : Accounts set result (length held) (closings said) begun m
  pub order : IsClosedInOrder begun.calls m.calls (ended_numbers (closings said) ++ held_numbers held)
  pub not_asked : IsNotAskedAgain lines (closings said) held m.calls
  pub in_order : InOrder said

-- what the server leaves: the sessions that were left open, what was said of all in order, and the lines of both, where a refused
-- frame's is spelled so; each announced session is one of them, closed, and is what its lines say
pub record Serves (J : Type 0) (rules : J → Rules) (set : Setting) (text : ℕ → Note → List ℕ) (a b : Outside) (result : Served) : Type 0 where
  pub held : List (Entry J)
  pub said : List Said
  pub busy : ℕ
  pub lines : LinesEnd
  pub writes : WritesLines text lines a.written b.written a.faults b.faults said held
  pub answers : AnswersLines result lines
  pub counted : AreCounted a.counts b.counts (closings said)
  pub keeps : KeepsFrom a.told b.told IsFresh (Ending J rules set result lines held said busy)

-- the same by judges with these rules, within these limits
abbrev pub ServesBy : {J : Type 0} → (J → Rules) → Rules → Limits → (ℕ → Note → List ℕ) → Passage → Served → Type 0
ServesBy {J} rules judged limits text way result = Serves J rules (setting_of judged limits) text way.before way.behind result

-- what is answered for how the work ended and what came of the last lines
abbrev pub served_by : End → Wrote → Served
served_by ends.Stopped wrote.All = served.Stopped
served_by ends.Stopped wrote.Failed = served.WriteFault
served_by ends.HubFault w = served.HubFault
served_by ends.WriteFault w = served.WriteFault
served_by (ends.Unwritten at) w = served.WriteFault
served_by (ends.Budget at) w = served.Budget

abbrev pub first_wrote : End → Wrote
first_wrote ends.Stopped = wrote.All
first_wrote ends.HubFault = wrote.All
first_wrote ends.WriteFault = wrote.Failed
first_wrote (ends.Unwritten at) = wrote.Failed
first_wrote (ends.Budget at) = wrote.All

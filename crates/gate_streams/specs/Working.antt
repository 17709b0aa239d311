-- The work on a stream and what its calls do.
use Rattle.std.specs.Prelude.{◌≡◌, ℕ, ◌+◌, ◌^◌, ◌<◌, ◌≤◌, ◌⊎◌, List, [], ◌++◌, length, Bool, true, false, Option, Some, None, Result, Ok, Err, ⊤}
use Rattle.std.specs.Io.KnownBytes.{Appends, IsAtEnd, append_known}
use Rattle.gate_base.specs.Causes.{Rose}
use Rattle.line_transport.specs.Front.{front, Part, Exceeds}
use Rattle.line_transport.specs.declared.transport.Excess.{Excess}
use Rattle.line_transport.specs.declared.transport.Transport.TheVariants.{Frames}
use Rattle.gate_io.specs.Buffer.{Buffer}
use Rattle.gate_io.specs.Fronts.{AppendsFront, Flushed}
use Rattle.gate_io.specs.declared.byte_streams.Sink.{Ghosts as Sink}
use Rattle.gate_io.specs.declared.byte_streams.Source.{Ghosts as Source}
use Rattle.gate_io.specs.declared.byte_streams.Got.{Got}
use Rattle.gate_io.specs.declared.byte_streams.Got.TheVariants as got
use Rattle.gate_start.specs.Endings.{last_line}
use Rattle.gate_start.specs.declared.page.Page.{Page}
use Rattle.gate_start.specs.declared.status.Ending.{Ending}
use Rattle.gate_start.specs.declared.status.Ending.TheVariants as endings
use Rattle.gate_streams.specs.Progress.{Moment, Goes, GoesToEnd, Breaks, BreaksBefore, IsStreamLine}
use Rattle.gate_streams.specs.Lines.{left_text}
use Rattle.gate_streams.specs.Terms.{Terms}
use Rattle.gate_streams.specs.Handling.{Treated, Passes, Fails, outputs, lines, is_passed, bytes_for, line_for}
use Rattle.gate_streams.specs.Rooms.{framed_room}
use Rattle.gate_streams.specs.declared.task.Doing.{Doing}
use Rattle.gate_streams.specs.declared.task.Doing.TheVariants.{Convert, Show, Conform}
use Rattle.gate_streams.specs.declared.handler.Handler.{Handler}
use Rattle.gate_streams.specs.declared.handler.Handler.TheVariants as handlers
use Rattle.gate_streams.specs.declared.frame.WriteFault.{WriteFault}
use Rattle.gate_streams.specs.declared.frame.Treatment.{Treatment}
use Rattle.gate_streams.specs.declared.frame.Treatment.TheVariants as treatment
use Rattle.gate_streams.specs.declared.stream.Broken.{Broken}
use Rattle.gate_streams.specs.declared.stream.Broken.TheVariants as streams
use Rattle.gate_streams.specs.declared.stream.TheConstants.{LINES_ROOM, MOST_BYTES}
use Rattle.gate_streams.specs.declared.stream.Work.{Work}

-- ---- one frame

-- what is written of the frame waits behind what waited, of which a front may have been written; or nothing has changed; or a
-- front of all this was written before the output failed
abbrev pub Treats : Treatment → Treated → Option (List ℕ) → List ℕ → Option (List ℕ) → List ℕ → Type 0
Treats treatment.Passed (Passes bytes) written waiting written' waiting' = Flushed written (waiting ++ bytes) written' waiting'
Treats (treatment.Refused cause) (Fails own) written waiting written' waiting' = (cause ≡ own) × (written' ≡ written) × (waiting' ≡ waiting)
Treats treatment.WriteFault (Passes bytes) written waiting written' waiting' = AppendsFront written written' (waiting ++ bytes)
Treats answer t written waiting written' waiting' = ⊥

-- The frame of this number passed or did not; what is written of it waits behind what waited, of which a front may have been written, and its
-- line waits for the report. Or the output failed, and a front of what waited and of what is written of the frame was written.
abbrev pub IsHandled : ℕ → Result Bool WriteFault → Treated → Option (List ℕ) → List ℕ → Buffer → Option (List ℕ) → List ℕ → Buffer → Type 0
IsHandled number (Ok passed) t written waiting told written' waiting' told' =
    (passed ≡ is_passed t) × Flushed written (waiting ++ bytes_for number t) written' waiting' × (told' ≡ record told { bytes = told.bytes ++ line_for number t })
IsHandled number (Err fault) t written waiting told written' waiting' told' = AppendsFront written written' (waiting ++ bytes_for number t)

-- what was treated is handled so, whatever was written
abbrev pub IsSettled : Treatment → ℕ → Result Bool WriteFault → Buffer → Buffer → Type 0
IsSettled answer number result told told' =
    (t : Treated) (written written' : Option (List ℕ)) (waiting waiting' : List ℕ) → Treats answer t written waiting written' waiting'
    → IsHandled number result t written waiting told written' waiting' told'

-- both with what waits on a page for an output, as that tells of itself
abbrev pub TreatsOn : {O : Type 0} → Sink O → Treatment → Treated → O → Page → O → Page → Type 0
TreatsOn outputs answer t output page output' page' = Treats answer t (outputs.written output) page.out.bytes (outputs.written output') page'.out.bytes

abbrev pub HandlesOn : {O : Type 0} → Sink O → ℕ → Result Bool WriteFault → Treated → O → Page → Buffer → O → Page → Buffer → Type 0
HandlesOn outputs number result t output page told output' page' told' =
    IsHandled number result t (outputs.written output) page.out.bytes told (outputs.written output') page'.out.bytes told'

-- what handles the frames does what the terms say, by what they declare
abbrev pub IsHandler : Terms → Handler → Type 0
IsHandler k (handlers.Convert from to) = k.doing ≡ Convert from to
IsHandler k (handlers.Show from) = k.doing ≡ Show from
IsHandler k (handlers.Conform c) = (k.doing ≡ Conform c.from) × (c.check.schema ≡ k.declarations)

-- a page has room for all that may be sent of a frame of so many bytes; a line goes past the page where it doesn't fit
abbrev pub HasRoom : Doing → ℕ → Buffer → Type 0
HasRoom (Convert from to) n page = (length page.bytes + framed_room n ≤ page.room) × (page.room < 2 ^ 31)
HasRoom (Show from) n page = ⊤
HasRoom (Conform from) n page = length page.bytes + framed_room n ≤ page.room

-- so an empty page has for frames of this limit
abbrev pub IsRoomy : Doing → ℕ → ℕ → Type 0
IsRoomy (Convert from to) limit room = room ≡ framed_room limit
IsRoomy (Show from) limit room = ⊤
IsRoomy (Conform from) limit room = room ≡ framed_room limit

-- ---- the work

-- its rooms serve for frames of the limit, and its counts are at most the bytes taken and the LF that the last line lacks
pub record IsReady (k : Terms) (work : Work) : Type 0 where
  pub limit_is : work.inbox.limit ≡ k.limit
  pub transport_is : work.inbox.transport ≡ k.input
  pub page : IsRoomy k.doing k.limit work.page.out.room
  pub lines : work.lines.room ≡ LINES_ROOM
  pub handler : IsHandler k work.handler
  pub counted : work.number + length work.inbox.held ≤ work.taken + 1
  pub taken : work.taken < 2 ^ 63

-- the counts are at most the bytes taken
abbrev pub IsCounted : Work → Type 0
IsCounted work = work.number + length work.inbox.held ≤ work.taken

-- nothing waits to be written
pub record IsFlushed (work : Work) : Type 0 where
  pub page : work.page.out.bytes ≡ []
  pub lines : work.lines.bytes ≡ []

pub record IsStart (work : Work) : Type 0 where
  pub held : work.inbox.held ≡ []
  pub number : work.number ≡ 0
  pub taken : work.taken ≡ 0
  pub refused : work.refused ≡ false
  pub flushed : IsFlushed work

-- less than a frame is held, and there is room for more
pub record IsWaiting (k : Terms) (held : List ℕ) : Type 0 where
  pub part : front k.input k.limit held ≡ Part
  pub room : length held < k.limit + 4

abbrev pub moment : Work → Option (List ℕ) → Option (List ℕ) → Option (List ℕ) → Moment
moment work left written reported =
    record { left = left; written = written; reported = reported; held = work.inbox.held; frames = work.number; taken = work.taken; refused = work.refused }

-- from one moment to a later one, in which these bytes wait for the output and for the report: all that is to be written and
-- reported of the first frames was, and nothing was reported of the others
pub record Waits (k : Terms) (a b : Moment) (out waiting : List ℕ) : Type 0 where
  pub goes : Goes k a (record b { written = append_known b.written out; reported = append_known b.reported waiting })
  pub done : List (List ℕ)
  pub others : List (List ℕ)
  pub is : goes.frames ≡ done ++ others
  pub some : List ℕ
  pub written : Appends a.written b.written (outputs k a.frames done ++ some)
  pub reported : Appends a.reported b.reported (lines k a.frames done)

-- the work went on over frames that it holds, whatever was before: what comes of them waits, and nothing was written or reported
abbrev pub Gathers : Terms → Work → Work → Type 0
Gathers k work work' =
    (a : Moment) (left written reported : Option (List ℕ)) → Waits k a (moment work left written reported) work.page.out.bytes work.lines.bytes
    → Waits k a (moment work' left written reported) work'.page.out.bytes work'.lines.bytes

-- ---- what is gathered is written

-- the page was written and then the lines were reported, or a stream failed in between
abbrev pub WritesBoth : Result (Unit {0}) Broken → List ℕ → List ℕ → Option (List ℕ) → Option (List ℕ) → Option (List ℕ) → Option (List ℕ) → Type 0
WritesBoth (Ok done) page waiting written written' reported reported' = Appends written written' page × Appends reported reported' waiting
WritesBoth (Err streams.Output) page waiting written written' reported reported' = AppendsFront written written' page × (reported' ≡ reported)
WritesBoth (Err streams.Report) page waiting written written' reported reported' = Appends written written' page × AppendsFront reported reported' waiting

-- all stays as it was
pub record Stays (page page' waiting waiting' : List ℕ) (written written' reported reported' : Option (List ℕ)) : Type 0 where
  pub page_stays : page' ≡ page
  pub waiting_stays : waiting' ≡ waiting
  pub written_stays : written' ≡ written
  pub reported_stays : reported' ≡ reported

-- all that was gathered was written and reported
pub record Empties (page page' waiting waiting' : List ℕ) (written written' reported reported' : Option (List ℕ)) : Type 0 where
  pub page_empty : page' ≡ []
  pub waiting_empty : waiting' ≡ []
  pub page_written : Appends written written' page
  pub all_reported : Appends reported reported' waiting

-- there is room: nothing was written for it, or all that was gathered was
abbrev pub MakesRoom : Result (Unit {0}) Broken → List ℕ → List ℕ → List ℕ → List ℕ → Option (List ℕ) → Option (List ℕ) → Option (List ℕ) → Option (List ℕ) → Type 0
MakesRoom (Ok done) page page' waiting waiting' written written' reported reported' =
    Stays page page' waiting waiting' written written' reported reported' ⊎ Empties page page' waiting waiting' written written' reported reported'
MakesRoom (Err broken) page page' waiting waiting' written written' reported reported' = WritesBoth (Err broken) page waiting written written' reported reported'

-- both, as the sinks tell of themselves
abbrev pub WritesBothOn : {O E : Type 0} → Sink O → Sink E → Result (Unit {0}) Broken → Page → Buffer → O → E → O → E → Type 0
WritesBothOn outputs reports result page lines output report output' report' =
    WritesBoth result page.out.bytes lines.bytes (outputs.written output) (outputs.written output') (reports.written report) (reports.written report')

abbrev pub MakesRoomOn : {O E : Type 0} → Sink O → Sink E → Result (Unit {0}) Broken → Page → Buffer → O → E → Page → Buffer → O → E → Type 0
MakesRoomOn outputs reports result page lines output report page' lines' output' report' =
    MakesRoom result page.out.bytes page'.out.bytes lines.bytes lines'.bytes (outputs.written output) (outputs.written output') (reports.written report) (reports.written report')

-- ---- the frames that are held

-- less than a frame is held, or what none may begin with; what there was room for waits
abbrev pub Handles : Terms → Moment → Moment → List ℕ → List ℕ → Result (Option Excess) Broken → Type 0
Handles k a b out waiting (Ok None) = Waits k a b out waiting × IsWaiting k b.held
Handles k a b out waiting (Ok (Some e)) = Waits k a b out waiting × (front k.input k.limit b.held ≡ Exceeds e)
Handles k a b out waiting (Err broken) = BreaksBefore broken k a b

-- the same with all of it written
abbrev pub Drains : Terms → Moment → Moment → Result (Option Excess) Broken → Type 0
Drains k a b (Ok None) = Goes k a b × IsWaiting k b.held
Drains k a b (Ok (Some e)) = Goes k a b × (front k.input k.limit b.held ≡ Exceeds e)
Drains k a b (Err broken) = BreaksBefore broken k a b

abbrev pub Takes : Terms → Moment → Moment → Got → Type 0
Takes k a b (got.Bytes n) = Goes k a b × (a.taken < b.taken)
Takes k a b got.End = Goes k a b × IsWaiting k b.held × IsAtEnd b.left
Takes k a b got.Failed = Goes k a b × IsWaiting k b.held

-- ---- how the work ends

-- less than a frame is held, and not nothing
abbrev pub IsLeft : Moment → Type 0
IsLeft a = a.held ≡ [] → ⊥

-- the line of the rest was written after all the others
pub record EndsInRest (k : Terms) (a b : Moment) : Type 0 where
  pub mid : Moment
  pub line : List ℕ
  pub goes : Goes k a mid
  pub line_is : IsStreamLine k.input k.limit mid.frames mid.held line
  pub written : b.written ≡ mid.written
  pub reported : Appends mid.reported b.reported line
  pub left : b.left ≡ mid.left
  pub at_end : ((e : Excess) × (front k.input k.limit mid.held ≡ Exceeds e)) ⊎ ((k.input ≡ Frames) × IsAtEnd mid.left)

-- the last line of a read fault and of a spent budget was reported, or a front of it; other endings have none
abbrev pub Closes : Ending → Option (List ℕ) → Option (List ℕ) → ℕ → ℕ → Type 0
Closes endings.ReadFault old new before now = AppendsFront old new (last_line endings.ReadFault) × (Appends old new (last_line endings.ReadFault) ⊎ Rose before now)
Closes endings.BudgetSpent old new before now = AppendsFront old new (last_line endings.BudgetSpent) × (Appends old new (last_line endings.BudgetSpent) ⊎ Rose before now)
Closes endings.Done old new before now = new ≡ old
Closes endings.Refused old new before now = new ≡ old
Closes endings.StreamFault old new before now = new ≡ old
Closes endings.Usage old new before now = new ≡ old
Closes endings.WriteFault old new before now = new ≡ old
Closes endings.FileFault old new before now = new ≡ old
Closes endings.HubFault old new before now = new ≡ old
Closes endings.OutOfMemory old new before now = new ≡ old

abbrev pub Ends : Terms → Moment → Moment → Result Ending Broken → Type 0
Ends k a b (Ok endings.Done) = GoesToEnd k a b × (b.refused ≡ false)
Ends k a b (Ok endings.Refused) = GoesToEnd k a b × (b.refused ≡ true)
Ends k a b (Ok endings.StreamFault) = EndsInRest k a b
Ends k a b (Ok endings.ReadFault) = Goes k a b × IsWaiting k b.held
Ends k a b (Ok endings.BudgetSpent) = Goes k a b × IsWaiting k b.held × (b.taken ≡ MOST_BYTES)
Ends k a b (Ok endings.Usage) = ⊥
Ends k a b (Ok endings.WriteFault) = ⊥
Ends k a b (Ok endings.FileFault) = ⊥
Ends k a b (Ok endings.HubFault) = ⊥
Ends k a b (Ok endings.OutOfMemory) = ⊥
Ends k a b (Err broken) = Breaks broken k a b

-- ---- the calls of the work, as sources and sinks tell of themselves

-- it reads once, whatever the sinks are
abbrev pub TakesFrom : {I : Type 0} → Source I → Terms → Work → I → Work → I → Got → Type 0
TakesFrom sources k work input work' input' got =
    (written reported : Option (List ℕ)) → Takes k (moment work (sources.left input) written reported) (moment work' (sources.left input') written reported) got

-- it handles the frames that are held, whatever the input is
abbrev pub HandlesHeld : {O E : Type 0} → Sink O → Sink E → Terms → Work → O → E → Work → O → E → Result (Option Excess) Broken → Type 0
HandlesHeld outputs reports k work output report work' output' report' result =
    (left : Option (List ℕ)) →
    Handles k (moment work left (outputs.written output) (reports.written report)) (moment work' left (outputs.written output') (reports.written report'))
    work'.page.out.bytes work'.lines.bytes result

abbrev pub DrainsHeld : {O E : Type 0} → Sink O → Sink E → Terms → Work → O → E → Work → O → E → Result (Option Excess) Broken → Type 0
DrainsHeld outputs reports k work output report work' output' report' result =
    (left : Option (List ℕ)) →
    Drains k (moment work left (outputs.written output) (reports.written report)) (moment work' left (outputs.written output') (reports.written report')) result

-- it ends with a line of the report, whatever else there is
abbrev pub EndsOn : {E : Type 0} → Sink E → Terms → Work → E → Work → E → Result Ending Broken → Type 0
EndsOn reports k work report work' report' result =
    (left written : Option (List ℕ)) → Ends k (moment work left written (reports.written report)) (moment work' left written (reports.written report')) result

-- the input is at its end, and its last line is handled
abbrev pub FinishesOn : {O E : Type 0} → Sink O → Sink E → Terms → Work → O → E → Work → O → E → Result Ending Broken → Type 0
FinishesOn outputs reports k work output report work' output' report' result =
    (left : Option (List ℕ)) → IsAtEnd left →
    Ends k (moment work left (outputs.written output) (reports.written report)) (moment work' left (outputs.written output') (reports.written report')) result

-- nothing is held, and nothing more was written and reported; or less than a frame is held, which was reported, or a front of that line was
abbrev pub Concludes : Moment → Moment → Result Ending Broken → Type 0
Concludes a b (Ok endings.Done) = (b ≡ a) × (a.held ≡ []) × (a.refused ≡ false)
Concludes a b (Ok endings.Refused) = (b ≡ a) × (a.held ≡ []) × (a.refused ≡ true)
Concludes a b (Ok endings.StreamFault) = IsLeft a × (b.left ≡ a.left) × (b.written ≡ a.written) × Appends a.reported b.reported (left_text a.frames (length a.held))
Concludes a b (Err streams.Report) = IsLeft a × (b.left ≡ a.left) × (b.written ≡ a.written) × AppendsFront a.reported b.reported (left_text a.frames (length a.held))
Concludes a b (Err streams.Output) = ⊥
Concludes a b (Ok ending) = ⊥

abbrev pub ConcludesOn : {E : Type 0} → Sink E → Work → E → Work → E → Result Ending Broken → Type 0
ConcludesOn reports work report work' report' result =
    (left written : Option (List ℕ)) → Concludes (moment work left written (reports.written report)) (moment work' left written (reports.written report')) result

-- it reads to the end or to a fault
abbrev pub Processes : {I O E : Type 0} → Source I → Sink O → Sink E → Terms → Work → I → O → E → Work → I → O → E → Result Ending Broken → Type 0
Processes sources outputs reports k work input output report work' input' output' report' result =
    Ends k (moment work (sources.left input) (outputs.written output) (reports.written report))
    (moment work' (sources.left input') (outputs.written output') (reports.written report')) result

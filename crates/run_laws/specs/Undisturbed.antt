-- What the laws say of commands that nothing disturbs: what they start from, which faults there are not, and how they end.
use Rattle.std.specs.Prelude.{◌≡◌, ◌^◌, ◌<◌, ◌⊎◌, ℕ, List, true, false, Option, None, Some, Ok, length}
use Rattle.std.specs.Io.KnownBytes.{Appends}
use Rattle.gate_base.specs.Causes.{Rose}
use Rattle.line_transport.specs.Cuts.{CutsAll}
use Rattle.gate_hub.specs.Hubs.{NotStarted}
use Rattle.gate_hub.specs.Meaning.{Meaning}
use Rattle.gate_hub.specs.declared.hub.Hub.{Ghosts as Hub}
use Rattle.type_tables.specs.Declarations.{Declarations}
use Rattle.gate_idl.specs.Opening.{IsOpened}
use Rattle.gate_words.specs.declared.options.Declared.{Declared}
use Rattle.gate_words.specs.declared.peers.Sides.{Sides}
use Rattle.gate_words.specs.declared.serving.Serving.{Serving}
use Rattle.gate_start.specs.Streams.{Streams}
use Rattle.gate_start.specs.Outside.{Outside}
use Rattle.gate_start.specs.Starting.{Holds, IsStart}
use Rattle.gate_start.specs.declared.start.Start.{Start}
use Rattle.gate_start.specs.declared.status.Ending.{Ending}
use Rattle.gate_start.specs.declared.status.Ending.TheVariants.{Done, BudgetSpent, OutOfMemory}
use Rattle.gate_streams.specs.Checking.{declared_text}
use Rattle.gate_streams.specs.Handling.{any_refused}
use Rattle.gate_streams.specs.Outcome.{WriteFailed, Streamed}
use Rattle.gate_streams.specs.Streaming.{GoesThrough}
use Rattle.gate_streams.specs.Terms.{Terms}
use Rattle.gate_streams.specs.declared.stream.TheConstants.{MOST_BYTES}
use Rattle.gate_serve.specs.Peers.{Unframed, unframed_tells, ServesSides}
use Rattle.gate_serve.specs.Posts.{Posting, posting_tells, ServesByWords, ServesByPosts}
use Rattle.gate_serve.specs.Serving.{ServesHub, HasServed, GoesOn}
use Rattle.gate_run.specs.Running.{RunsServer}

-- ---- streams and files

-- the input is fewer than 2^63 - 1 bytes of whole frames, or of lines, of which none is refused
pub record IsGoodStream (k : Terms) (left : Option (List ℕ)) : Type 0 where
  pub bytes : List ℕ
  pub frames : List (List ℕ)
  pub small : k.limit < 2 ^ 31
  pub told : left ≡ Some bytes
  pub few : length bytes < MOST_BYTES
  pub cuts : CutsAll k.input k.limit bytes frames
  pub passed : any_refused k frames ≡ false

-- neither the output nor the report failed
abbrev pub HasWritten : Streams → Streams → Type 0
HasWritten a b = WriteFailed a b → ⊥

-- none of the three streams failed
abbrev pub HasNotFailed : Streams → Streams → Type 0
HasNotFailed a b = (Rose a.input_faults b.input_faults → ⊥) × HasWritten a b

-- the command is done, or its memory was not found
abbrev pub IsDone : Ending → Type 0
IsDone ending = (ending ≡ Done) ⊎ (ending ≡ OutOfMemory)

-- this is what the IDL in the file and all that it includes declare, and neither the files nor the output or the report failed
pub record CanCheck (file : List ℕ) (d : Declarations) (x y : Outside) : Type 0 where
  pub holds : Holds
  pub told : x.holds ≡ Some holds
  pub is : IsOpened holds file (Ok d)
  pub files : Rose x.file_faults y.file_faults → ⊥
  pub writes : HasWritten x.streams y.streams

-- the check is done and its line written, or its memory was not found
abbrev pub HasChecked : Declarations → Outside → Outside → Ending → Type 0
HasChecked d x y ending = ((ending ≡ Done) × Appends x.streams.written y.streams.written (declared_text d)) ⊎ (ending ≡ OutOfMemory)

-- the IDL that the words name is good and knows their service, and the files didn't fail: the command can start from this
pub record CanStart (words : Declared) (start : Start) (x y : Outside) : Type 0 where
  pub holds : Holds
  pub told : x.holds ≡ Some holds
  pub is : IsStart holds words (Ok start)
  pub files : Rose x.file_faults y.file_faults → ⊥

-- a command that goes through the input on these terms, from its words to its ending
pub record StreamRun : Type 0 where
  pub task : Start → Terms
  pub declared : Declared
  pub before : Outside
  pub behind : Outside
  pub ending : Ending

abbrev pub IsStreamRun : StreamRun → Type 0
IsStreamRun x = GoesThrough x.task x.declared x.before x.behind x.ending

-- the stream was gone through from this start, or its memory was not found
abbrev pub HasGoneThrough : Start → StreamRun → Type 0
HasGoneThrough start x = Streamed (x.task start) x.before.streams x.behind.streams x.ending ⊎ (x.ending ≡ OutOfMemory)

-- ---- servers

-- a server from its words to its ending, with the hub and all else that the command worked on, before it and behind it
pub record ServerRun (H : Type 0) : Type 0 where
  pub serving : Serving
  pub declared : Declared
  pub before : Outside
  pub behind : Outside
  pub hub : H
  pub hub_behind : H
  pub ending : Ending

-- the command did this by its words
abbrev pub IsRunOf : {H : Type 0} → Hub H → ServerRun H → Type 0
IsRunOf hubs x = RunsServer hubs x.serving x.declared x.before x.behind x.hub x.hub_behind x.ending

-- and this from its start on: over the hub itself, over a wrapping hub, or over one whose clients send POSTs; or by its words over one of these
abbrev pub RunsHub : {H : Type 0} → Hub H → Start → ServerRun H → Type 0
RunsHub hubs start x = ServesHub hubs x.serving start x.hub x.hub_behind x.before.streams x.behind.streams x.ending

abbrev pub RunsSides : {H : Type 0} → Hub H → Sides → Start → ServerRun H → Type 0
RunsSides hubs sides start x = ServesSides hubs sides x.serving start x.hub x.hub_behind x.before.streams x.behind.streams x.ending

abbrev pub RunsPosts : {H : Type 0} → Hub H → Start → ServerRun H → Type 0
RunsPosts hubs start x = ServesByPosts hubs x.serving start x.hub x.hub_behind x.before.streams x.behind.streams x.ending

abbrev pub RunsFrom : {H : Type 0} → Hub H → Start → ServerRun H → Type 0
RunsFrom hubs start x = ServesByWords hubs x.serving start x.hub x.hub_behind x.before.streams x.behind.streams x.ending

-- the server served from this start, or its memory was not found
abbrev pub HasServedFrom : {H : Type 0} → Hub H → Start → ServerRun H → Type 0
HasServedFrom hubs start x = RunsFrom hubs start x ⊎ (x.ending ≡ OutOfMemory)

-- the hub was not started, and no session was announced
pub record IsUntouched (m : Meaning) : Type 0 where
  pub unstarted : NotStarted m
  pub none : (k : ℕ) → (m.session k).announced ≡ true → ⊥

-- before the server the hub was not used, and while it ran neither the hub nor the output or the report failed
pub record IsUndisturbed {H : Type 0} (hubs : Hub H) (x : ServerRun H) : Type 0 where
  pub meaning : Meaning
  pub told : hubs.tells x.hub meaning
  pub untouched : IsUntouched meaning
  pub hub : Rose (hubs.counts x.hub).faults (hubs.counts x.hub_behind).faults → ⊥
  pub writes : HasWritten x.before.streams x.behind.streams

-- done, with each session that was announced closed with an outcome, or settled; or the budget is spent, and the hub goes on; or the
-- memory was not found
abbrev pub HasStopped : {H : Type 0} → (Meaning → Type 0) → Start → ServerRun H → Type 0
HasStopped told start x = ((x.ending ≡ Done) × HasServed told x.serving start) ⊎ ((x.ending ≡ BudgetSpent) × GoesOn told) ⊎ (x.ending ≡ OutOfMemory)

-- the same of what a hub over this one tells, some of whose sides have no frames
abbrev pub HasStoppedOver : {K H : Type 0} → (K → Meaning → Type 0) → K → Start → ServerRun H → Type 0
HasStoppedOver {K} tells hub start x = (u : Unframed K) × (u.inner ≡ hub) × HasStopped (unframed_tells tells u) start x

abbrev pub HasStoppedBySides : {K H : Type 0} → Option Sides → (K → Meaning → Type 0) → K → Start → ServerRun H → Type 0
HasStoppedBySides None tells hub start x = HasStopped (tells hub) start x
HasStoppedBySides (Some sides) tells hub start x = HasStoppedOver tells hub start x

-- and of one whose clients send POSTs
abbrev pub HasStoppedPosts : {H : Type 0} → (H → Meaning → Type 0) → H → Start → ServerRun H → Type 0
HasStoppedPosts {H} tells hub start x = (p : Posting H) × (p.inner ≡ hub) × HasStoppedBySides x.serving.unframed (posting_tells tells) p start x

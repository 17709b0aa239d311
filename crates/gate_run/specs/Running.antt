-- What the one call does, by the words of its command.
use Rattle.std.specs.Prelude.{◌≡◌, ◌⊎◌, ℕ, List, Option, Some, None, Bool, true, false, is_some}
use Rattle.gate_io.specs.declared.byte_streams.Sink.{Ghosts as Sink}
use Rattle.gate_io.specs.declared.byte_streams.Source.{Ghosts as Source}
use Rattle.gate_io.specs.declared.files.Files.{Ghosts as Files}
use Rattle.gate_hub.specs.declared.hub.Hub.{Ghosts as Hub}
use Rattle.gate_words.specs.Commands.{command}
use Rattle.gate_words.specs.Peers.{is_http}
use Rattle.gate_words.specs.declared.command.Command.{Command}
use Rattle.gate_words.specs.declared.command.Command.TheVariants as commands
use Rattle.gate_words.specs.declared.options.Declared.{Declared}
use Rattle.gate_words.specs.declared.serving.Serving.{Serving}
use Rattle.gate_start.specs.Outside.{Outside, StartsWith, outside}
use Rattle.gate_start.specs.Endings.{code_of}
use Rattle.gate_start.specs.Lines.{usage_text}
use Rattle.gate_start.specs.Streams.{streams}
use Rattle.gate_start.specs.Starting.{Halts, Says, SaysLast}
use Rattle.gate_start.specs.Writing.{Tells}
use Rattle.gate_start.specs.declared.status.Ending.{Ending}
use Rattle.gate_start.specs.declared.status.Ending.TheVariants as endings
use Rattle.gate_start.specs.declared.status.Status.{Status}
use Rattle.gate_streams.specs.Streaming.{GoesThrough}
use Rattle.gate_streams.specs.Checking.{Checks}
use Rattle.gate_streams.specs.Drilling.{Drills}
use Rattle.gate_streams.specs.Terms.{converting, showing, conforming}
use Rattle.gate_serve.specs.Posts.{ServesByWords}
use Rattle.gate_run.specs.declared.server.ServerJob.{ServerJob}
use Rattle.gate_run.specs.Lines.{help_text}

-- what each command does with the files and the streams
abbrev pub Obeys : Command → Outside → Outside → Ending → Type 0
Obeys (commands.Check file) x y ending = Checks x.holds file x.file_faults y.file_faults x.streams y.streams ending
Obeys (commands.Convert k words) x y ending = GoesThrough (λ start. converting start k) words x y ending
Obeys (commands.Show k words) x y ending = GoesThrough (λ start. showing start k) words x y ending
Obeys (commands.Conform k words) x y ending = GoesThrough (λ start. conforming start k) words x y ending
Obeys (commands.Drill k) x y ending = Drills k x.streams y.streams ending
Obeys commands.Help x y ending = Tells help_text x.streams y.streams ending ⊎ SaysLast endings.OutOfMemory x.streams y.streams ending
-- a server reads no input; what it does is said below, over its hub
Obeys (commands.Serve s words) x y ending = y.streams.left ≡ x.streams.left
-- so does a router, over its fan
Obeys (commands.Route r words) x y ending = y.streams.left ≡ x.streams.left

-- each command does what its words ask for; other words are answered with the usage; or there was no memory to read the words
abbrev pub Runs : Option Command → Outside → Outside → Ending → Type 0
Runs (Some command) x y ending = Obeys command x y ending
Runs None x y ending = Says usage_text endings.Usage x.streams y.streams ending ⊎ SaysLast endings.OutOfMemory x.streams y.streams ending

-- a server started from what these words declare, and served over the hub; or it did not start, and left the hub as it was
abbrev pub RunsServer : {H : Type 0} → Hub H → Serving → Declared → Outside → Outside → H → H → Ending → Type 0
RunsServer hubs s words x y hub hub' ending =
    StartsWith x y words (λ start. ServesByWords hubs s start hub hub' x.streams y.streams ending) (λ stop. Halts stop x.streams y.streams ending × (hub' ≡ hub))

-- only these commands read the input
abbrev pub reads_input : Option Command → Bool
reads_input (Some (commands.Convert k words)) = true
reads_input (Some (commands.Show k words)) = true
reads_input (Some (commands.Conform k words)) = true
reads_input (Some (commands.Check file)) = false
reads_input (Some (commands.Serve s words)) = false
reads_input (Some (commands.Route r words)) = false
reads_input (Some (commands.Drill k)) = false
reads_input (Some commands.Help) = false
reads_input None = false

-- a server whose clients send POSTs
abbrev pub has_posts : Option Command → Bool
has_posts (Some (commands.Serve s words)) = is_http s.front
has_posts (Some (commands.Check file)) = false
has_posts (Some (commands.Convert k words)) = false
has_posts (Some (commands.Show k words)) = false
has_posts (Some (commands.Conform k words)) = false
has_posts (Some (commands.Route r words)) = false
has_posts (Some (commands.Drill k)) = false
has_posts (Some commands.Help) = false
has_posts None = false

-- a server of whose peers some send no frames
abbrev pub is_unframed : Option Command → Bool
is_unframed (Some (commands.Serve s words)) = is_some s.unframed
is_unframed (Some (commands.Check file)) = false
is_unframed (Some (commands.Convert k words)) = false
is_unframed (Some (commands.Show k words)) = false
is_unframed (Some (commands.Conform k words)) = false
is_unframed (Some (commands.Route r words)) = false
is_unframed (Some (commands.Drill k)) = false
is_unframed (Some commands.Help) = false
is_unframed None = false

-- ---- the same by what files, sources, sinks and hubs tell of themselves

-- where the words of the command are read
abbrev pub HasObeyed : {F I O E : Type 0} → Files F → Source I → Sink O → Sink E → Command → F → I → O → E → F → I → O → E → Ending → Type 0
HasObeyed drives sources outputs reports command files input output report files' input' output' report' ending =
    let at = outside drives sources outputs reports in
    Obeys command (at files input output report) (at files' input' output' report') ending

-- and with the words, ended with this exit code
abbrev pub IsRun : {F I O E : Type 0} → Files F → Source I → Sink O → Sink E → List (List ℕ) → F → I → O → E → F → I → O → E → Status → Type 0
IsRun drives sources outputs reports words files input output report files' input' output' report' status =
    let at = outside drives sources outputs reports in
    (ending : Ending) × (status.code ≡ code_of ending) × Runs (command words) (at files input output report) (at files' input' output' report') ending

-- a server leaves the input alone, whatever that is
abbrev pub StartsServing : {F O E H : Type 0} → Files F → Sink O → Sink E → Hub H → Serving → Declared → F → O → E → H → F → O → E → H → Ending → Type 0
StartsServing drives outputs reports hubs s words files output report hub files' output' report' hub' ending =
    (left : Option (List ℕ)) (input : ℕ) →
    let before = streams left (outputs.written output) (reports.written report) input (outputs.faults output) (reports.faults report) in
    let behind = streams left (outputs.written output') (reports.written report') input (outputs.faults output') (reports.faults report') in
    RunsServer hubs s words (record { holds = drives.holds files; file_faults = drives.faults files; streams = before })
    (record { holds = drives.holds files'; file_faults = drives.faults files'; streams = behind }) hub hub' ending

abbrev pub StartsServer : {F O E H : Type 0} → Files F → Sink O → Sink E → Hub H → ServerJob → F → O → E → H → F → O → E → H → Ending → Type 0
StartsServer drives outputs reports hubs job = StartsServing drives outputs reports hubs job.serving.now job.declared.now

abbrev pub ServesCommand : {F O E H : Type 0} → Files F → Sink O → Sink E → Hub H → Command → F → O → E → H → F → O → E → H → Ending → Type 0
ServesCommand drives outputs reports hubs command files output report hub files' output' report' hub' ending =
    (s : Serving) (words : Declared) → command ≡ commands.Serve s words →
    StartsServing drives outputs reports hubs s words files output report hub files' output' report' hub' ending

abbrev pub IsServerRun : {F O E H : Type 0} → Files F → Sink O → Sink E → Hub H → List (List ℕ) → F → O → E → H → F → O → E → H → Status → Type 0
IsServerRun drives outputs reports hubs words files output report hub files' output' report' hub' status =
    (s : Serving) (declared : Declared) → command words ≡ Some (commands.Serve s declared) →
    (ending : Ending) × (status.code ≡ code_of ending) × StartsServing drives outputs reports hubs s declared files output report hub files' output' report' hub' ending

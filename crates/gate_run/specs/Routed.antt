-- What the command that routes does, from its words on.
use Rattle.std.specs.Prelude.{◌≡◌, ℕ, List, Option, Some}
use Rattle.gate_fan.specs.declared.fan.Fan.{Ghosts as Fan}
use Rattle.gate_io.specs.declared.byte_streams.Sink.{Ghosts as Sink}
use Rattle.gate_io.specs.declared.files.Files.{Ghosts as Files}
use Rattle.gate_words.specs.Commands.{command}
use Rattle.gate_words.specs.declared.command.Command.{Command}
use Rattle.gate_words.specs.declared.command.Command.TheVariants as commands
use Rattle.gate_words.specs.declared.options.Declared.{Declared}
use Rattle.gate_words.specs.declared.routing.Routing.{Routing}
use Rattle.gate_start.specs.Endings.{code_of}
use Rattle.gate_start.specs.Streams.{streams}
use Rattle.gate_start.specs.Outside.{Outside, StartsWith}
use Rattle.gate_start.specs.Starting.{Halts}
use Rattle.gate_start.specs.declared.status.Ending.{Ending}
use Rattle.gate_start.specs.declared.status.Status.{Status}
use Rattle.gate_route.specs.Routes.{RoutesAll}
use Rattle.gate_run.specs.declared.router.RouterJob.{RouterJob}

-- a router started from what these words declare, and led calls over the fan; or it did not start, and left the fan as it was
abbrev pub RunsRouter : {M : Type 0} → Fan M → Routing → Declared → Outside → Outside → M → M → Ending → Type 0
RunsRouter fans r words x y fan fan' ending =
    StartsWith x y words (λ start. RoutesAll fans r start fan fan' x.streams y.streams ending) (λ stop. Halts stop x.streams y.streams ending × (fan' ≡ fan))

-- a router leaves the input alone, whatever that is
abbrev pub StartsRouting : {F O E M : Type 0} → Files F → Sink O → Sink E → Fan M → Routing → Declared → F → O → E → M → F → O → E → M → Ending → Type 0
StartsRouting drives outputs reports fans r words files output report fan files' output' report' fan' ending =
    (left : Option (List ℕ)) (input : ℕ) →
    let before = streams left (outputs.written output) (reports.written report) input (outputs.faults output) (reports.faults report) in
    let behind = streams left (outputs.written output') (reports.written report') input (outputs.faults output') (reports.faults report') in
    RunsRouter fans r words (record { holds = drives.holds files; file_faults = drives.faults files; streams = before })
    (record { holds = drives.holds files'; file_faults = drives.faults files'; streams = behind }) fan fan' ending

abbrev pub StartsRouter : {F O E M : Type 0} → Files F → Sink O → Sink E → Fan M → RouterJob → F → O → E → M → F → O → E → M → Ending → Type 0
StartsRouter drives outputs reports fans job = StartsRouting drives outputs reports fans job.routing.now job.declared.now

abbrev pub RoutesCommand : {F O E M : Type 0} → Files F → Sink O → Sink E → Fan M → Command → F → O → E → M → F → O → E → M → Ending → Type 0
RoutesCommand drives outputs reports fans command files output report fan files' output' report' fan' ending =
    (r : Routing) (words : Declared) → command ≡ commands.Route r words →
    StartsRouting drives outputs reports fans r words files output report fan files' output' report' fan' ending

abbrev pub IsRouterRun : {F O E M : Type 0} → Files F → Sink O → Sink E → Fan M → List (List ℕ) → F → O → E → M → F → O → E → M → Status → Type 0
IsRouterRun drives outputs reports fans words files output report fan files' output' report' fan' status =
    (r : Routing) (declared : Declared) → command words ≡ Some (commands.Route r declared) →
    (ending : Ending) × (status.code ≡ code_of ending) × StartsRouting drives outputs reports fans r declared files output report fan files' output' report' fan' ending

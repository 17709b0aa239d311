-- What a look tells, with the session's word on why a side halts.
use Rattle.std.specs.Prelude.{Option, Some, None}
use Rattle.session_core.specs.declared.outcome.Halt.{Halt}
use Rattle.session_core.specs.declared.state.Look.{Look}
use Rattle.session_core.specs.declared.state.Look.TheVariants as look
use Rattle.session_core.specs.declared.state.Stop.{Stop}
use Rattle.session_core.specs.declared.state.Stop.TheVariants as stop
use Rattle.session_core.specs.declared.state.SessionStep.{SessionStep}
use Rattle.session_core.specs.declared.state.SessionStep.TheVariants as step
use Rattle.session_core.specs.declared.state.Standstill.{Standstill}
use Rattle.session_core.specs.declared.state.Standstill.TheVariants as still

abbrev pub came : Look → Halt → SessionStep
came look.Waits halt = step.Waits
came look.Halts halt = step.Halts halt
came look.Takes halt = step.Takes

abbrev pub stopped : Stop → Halt → Standstill
stopped stop.Upstream halt = still.Upstream halt
stopped stop.Client halt = still.Client halt
stopped stop.Waits halt = still.Waits

-- None: a frame was taken
abbrev pub stopped_by : Option Stop → Halt → Option Standstill
stopped_by None halt = None
stopped_by (Some why) halt = Some (stopped why halt)

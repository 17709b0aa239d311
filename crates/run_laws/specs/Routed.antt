-- What the laws say of routers that nothing disturbs.
use Rattle.std.specs.Prelude.{◌≡◌, ◌⊎◌, ℕ, true}
use Rattle.gate_base.specs.Causes.{Rose}
use Rattle.gate_fan.specs.Meaning.{Meaning}
use Rattle.gate_fan.specs.Fans.{NotStarted}
use Rattle.gate_fan.specs.declared.fan.Fan.{Ghosts as Fan}
use Rattle.gate_words.specs.declared.options.Declared.{Declared}
use Rattle.gate_words.specs.declared.routing.Routing.{Routing}
use Rattle.gate_start.specs.Outside.{Outside}
use Rattle.gate_start.specs.declared.start.Start.{Start}
use Rattle.gate_start.specs.declared.status.Ending.{Ending}
use Rattle.gate_start.specs.declared.status.Ending.TheVariants.{Done, BudgetSpent, OutOfMemory}
use Rattle.gate_route.specs.Routes.{RoutesAll, HasRouted, RoutesOn}
use Rattle.gate_run.specs.Routed.{RunsRouter}
use Rattle.run_laws.specs.Undisturbed.{HasWritten}

-- a router from its words to its ending, with the fan and all else that the command worked on, before it and behind it
pub record RouterRun (M : Type 0) : Type 0 where
  pub routing : Routing
  pub declared : Declared
  pub before : Outside
  pub behind : Outside
  pub fan : M
  pub fan_behind : M
  pub ending : Ending

-- the command did this by its words
abbrev pub IsRoutingOf : {M : Type 0} → Fan M → RouterRun M → Type 0
IsRoutingOf fans x = RunsRouter fans x.routing x.declared x.before x.behind x.fan x.fan_behind x.ending

-- and this from its start on
abbrev pub RoutesFrom : {M : Type 0} → Fan M → Start → RouterRun M → Type 0
RoutesFrom fans start x = RoutesAll fans x.routing start x.fan x.fan_behind x.before.streams x.behind.streams x.ending

-- the router led calls from this start, or its memory was not found
abbrev pub HasRoutedFrom : {M : Type 0} → Fan M → Start → RouterRun M → Type 0
HasRoutedFrom fans start x = RoutesFrom fans start x ⊎ (x.ending ≡ OutOfMemory)

-- the fan was not started, and no session was announced
pub record IsFanUntouched (m : Meaning) : Type 0 where
  pub unstarted : NotStarted m
  pub none : (k : ℕ) → (m.session k).announced ≡ true → ⊥

-- before the router the fan was not used, and while it ran neither the fan nor the output or the report failed
pub record IsFanUndisturbed {M : Type 0} (fans : Fan M) (x : RouterRun M) : Type 0 where
  pub meaning : Meaning
  pub told : fans.tells x.fan meaning
  pub untouched : IsFanUntouched meaning
  pub fan : Rose (fans.counts x.fan).faults (fans.counts x.fan_behind).faults → ⊥
  pub writes : HasWritten x.before.streams x.behind.streams

-- done, with each session that was announced closed with an outcome, or settled; or the budget is spent, and the fan goes on; or the
-- memory was not found
abbrev pub HasStoppedFan : {M : Type 0} → (Meaning → Type 0) → Start → RouterRun M → Type 0
HasStoppedFan told start x = ((x.ending ≡ Done) × HasRouted told x.routing start) ⊎ ((x.ending ≡ BudgetSpent) × RoutesOn told) ⊎ (x.ending ≡ OutOfMemory)

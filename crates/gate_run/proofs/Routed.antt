-- A router whose fan has stopped.
use Rattle.std.proofs.Common.{◌≡◌, ℕ, Bool, true, false, true≢false, Option, refl, sym, ap, ◌∙◌, subst}
use Rattle.gate_fan.specs.declared.fan.Fan.{Ghosts as Fan}
use Rattle.gate_words.specs.declared.command.Command.{Command}
use Rattle.gate_words.specs.declared.command.Command.TheVariants as commands
use Rattle.gate_words.specs.declared.options.Declared.{Declared}
use Rattle.gate_words.specs.declared.routing.Routing.{Routing}
use Rattle.gate_start.specs.Streams.{Streams}
use Rattle.gate_start.specs.Outside.{Outside}
use Rattle.gate_start.specs.Starting.{Holds, Halts, Stops}
use Rattle.gate_start.specs.declared.start.NoStart.TheVariants as stops
use Rattle.gate_start.specs.declared.status.Ending.{Ending}
use Rattle.gate_run.specs.Routed.{RunsRouter}

-- ---- the words

abbrev at : Option Holds → ℕ → Streams → Outside
at told faults a = record { holds = told; file_faults = faults; streams = a }

-- where there is no memory for the words, a router doesn't start
pub unread_router : {M : Type 0} (fans : Fan M) (r : Routing) (words : Declared) (told : Option Holds) (faults : ℕ) (a b : Streams) (fan : M) (ending : Ending) →
    Halts stops.OutOfMemory a b ending → RunsRouter fans r words (at told faults a) (at told faults b) fan fan ending
unread_router fans r words told faults a b fan ending h = Stops stops.OutOfMemory (λ _ _. tt) refl (h, refl)

-- a command is a router in one way
same_words : (r r' : Routing) (d d' : Declared) → commands.Route r d ≡ commands.Route r' d' → (r ≡ r') × (d ≡ d')
same_words r r' d d' e = (cc, cc)

pub by_router : (P : Routing → Declared → Type 0) (r : Routing) (d : Declared) (r' : Routing) (d' : Declared) → commands.Route r d ≡ commands.Route r' d' → P r d → P r' d'
by_router P r d r' d' e p =
    let same = same_words r r' d d' e in
    subst (λ (t : Routing). P t d') same.0 (subst (λ (w : Declared). P r w) same.1 p)

-- another command is no router
abbrev pub is_router : Command → Bool
is_router (commands.Route r words) = true
is_router (commands.Serve s words) = false
is_router (commands.Check file) = false
is_router (commands.Convert k words) = false
is_router (commands.Show k words) = false
is_router (commands.Conform k words) = false
is_router (commands.Drill k) = false
is_router commands.Help = false

pub no_router : {P : Type 0} (x : Command) (r : Routing) (words : Declared) → x ≡ commands.Route r words → is_router x ≡ false → P
no_router x r words e none = absurd (true≢false (sym (ap is_router e) ∙ none))

-- Why a command doesn't start.
use Rattle.std.proofs.Common.{◌≡◌, ℕ, Bool, true, false, true≢false, Option, None, Some, inr, refl, sym, ap, ◌∙◌, subst}
use Rattle.gate_hub.specs.declared.hub.Hub.{Ghosts as Hub}
use Rattle.gate_words.specs.declared.command.Command.{Command}
use Rattle.gate_words.specs.declared.command.Command.TheVariants as commands
use Rattle.gate_words.specs.declared.options.Declared.{Declared}
use Rattle.gate_words.specs.declared.serving.Serving.{Serving}
use Rattle.gate_start.specs.Streams.{Streams}
use Rattle.gate_start.specs.Outside.{Outside}
use Rattle.gate_start.specs.Starting.{Holds, Halts, Stops}
use Rattle.gate_start.specs.declared.start.NoStart.TheVariants as stops
use Rattle.gate_start.specs.declared.status.Ending.{Ending}
use Rattle.gate_streams.specs.Checking.{Bad}
use Rattle.gate_streams.specs.Drilling.{NoMemory}
use Rattle.gate_run.specs.Running.{Runs, RunsServer}

abbrev pub at : Option Holds → ℕ → Streams → Outside
at told faults a = record { holds = told; file_faults = faults; streams = a }

-- where there is no memory for the words, each command ends for want of it
pub unread : (command : Option Command) (told : Option Holds) (faults : ℕ) (a b : Streams) (ending : Ending) →
    Halts stops.OutOfMemory a b ending → Runs command (at told faults a) (at told faults b) ending
unread (Some (commands.Check file)) told faults a b ending h = Bad stops.OutOfMemory (λ _ _. tt) refl h
unread (Some (commands.Convert k words)) told faults a b ending h = Stops stops.OutOfMemory (λ _ _. tt) refl h
unread (Some (commands.Show k words)) told faults a b ending h = Stops stops.OutOfMemory (λ _ _. tt) refl h
unread (Some (commands.Serve s words)) told faults a b ending h = h.left
unread (Some (commands.Route r words)) told faults a b ending h = h.left
unread (Some (commands.Conform k words)) told faults a b ending h = Stops stops.OutOfMemory (λ _ _. tt) refl h
unread (Some (commands.Drill k)) told faults a b ending h = NoMemory h
unread (Some commands.Help) told faults a b ending h = inr h
unread None told faults a b ending h = inr h

pub unread_server : {H : Type 0} (hubs : Hub H) (s : Serving) (words : Declared) (told : Option Holds) (faults : ℕ) (a b : Streams) (hub : H) (ending : Ending) →
    Halts stops.OutOfMemory a b ending → RunsServer hubs s words (at told faults a) (at told faults b) hub hub ending
unread_server hubs s words told faults a b hub ending h = Stops stops.OutOfMemory (λ _ _. tt) refl (h, refl)

-- a command is a server in one way
same_words : (s s' : Serving) (d d' : Declared) → commands.Serve s d ≡ commands.Serve s' d' → (s ≡ s') × (d ≡ d')
same_words s s' d d' e = (cc, cc)

pub by_server : (P : Serving → Declared → Type 0) (s : Serving) (d : Declared) (s' : Serving) (d' : Declared) → commands.Serve s d ≡ commands.Serve s' d' → P s d → P s' d'
by_server P s d s' d' e p =
    let same = same_words s s' d d' e in
    subst (λ (t : Serving). P t d') same.0 (subst (λ (w : Declared). P s w) same.1 p)

-- another command is no server
abbrev pub is_server : Command → Bool
is_server (commands.Serve s words) = true
is_server (commands.Route r words) = false
is_server (commands.Check file) = false
is_server (commands.Convert k words) = false
is_server (commands.Show k words) = false
is_server (commands.Conform k words) = false
is_server (commands.Drill k) = false
is_server commands.Help = false

pub no_server : {P : Type 0} (x : Command) (s : Serving) (words : Declared) → x ≡ commands.Serve s words → is_server x ≡ false → P
no_server x s words e none = absurd (true≢false (sym (ap is_server e) ∙ none))

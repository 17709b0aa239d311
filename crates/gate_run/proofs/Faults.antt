-- Where a command ends by a fault of the files.
use Rattle.std.proofs.Common.{◌≡◌, ℕ, ◌⊎◌, inl, inr, List, Option, Err, ◌∙◌, ap}
use Rattle.type_tables.specs.Declarations.{Declarations}
use Rattle.gate_words.specs.declared.options.Declared.{Declared}
use Rattle.gate_start.specs.Endings.{code_of}
use Rattle.gate_start.specs.Streams.{Streams}
use Rattle.gate_start.specs.Starting.{Holds, Starting, Goes, Stops, HasCause, Halts}
use Rattle.gate_start.specs.declared.start.Start.{Start}
use Rattle.gate_start.specs.declared.start.NoStart.{NoStart}
use Rattle.gate_start.specs.declared.start.NoStart.TheVariants as stops
use Rattle.gate_start.specs.declared.status.Ending.{Ending}
use Rattle.gate_start.specs.declared.status.Ending.TheVariants.{FileFault}
use Rattle.gate_streams.specs.Checking.{Checks, Good, Bad}

stopped : (X : Type 0) (stop : NoStart) (before now : ℕ) (a b : Streams) (ending : Ending) → HasCause {X = X} (Err stop) before now → Halts stop a b ending → (ending ≡ FileFault) ⊎ (now ≡ before)
stopped X (stops.Refused r) before now a b ending cause halts = inr cause
stopped X stops.UnknownService before now a b ending cause halts = inr cause
stopped X stops.FileFault before now a b ending cause halts = inl halts.is
stopped X stops.OutOfMemory before now a b ending cause halts = inr cause

pub checked_faults : {told : Option Holds} {file : List ℕ} {before now : ℕ} {a b : Streams} {ending : Ending} → Checks told file before now a b ending → (ending ≡ FileFault) ⊎ (now ≡ before)
checked_faults (Good d told cause tells) = inr cause
checked_faults {before = before} {now = now} {a = a} {b = b} {ending = ending} (Bad stop told cause halts) = stopped Declarations stop before now a b ending cause halts

pub stream_faults : {told : Option Holds} {words : Declared} {before now : ℕ} {a b : Streams} {ending : Ending} {Then : Start → Type 0} → Starting told words before now Then (λ stop. Halts stop a b ending) → (ending ≡ FileFault) ⊎ (now ≡ before)
stream_faults (Goes s told cause did) = inr cause
stream_faults {before = before} {now = now} {a = a} {b = b} {ending = ending} (Stops stop told cause halts) = stopped Start stop before now a b ending cause halts

pub server_faults : {H : Type 0} {h h' : H} {told : Option Holds} {words : Declared} {before now : ℕ} {a b : Streams} {ending : Ending} {Then : Start → Type 0} → Starting told words before now Then (λ stop. Halts stop a b ending × (h' ≡ h)) → (ending ≡ FileFault) ⊎ (now ≡ before)
server_faults (Goes s told cause did) = inr cause
server_faults {before = before} {now = now} {a = a} {b = b} {ending = ending} (Stops stop told cause halts) = stopped Start stop before now a b ending cause halts.0

-- the same by the exit code
pub by_code : (code : ℕ) (ending : Ending) (before now : ℕ) → code ≡ code_of ending → (ending ≡ FileFault) ⊎ (now ≡ before) → (code ≡ code_of FileFault) ⊎ (now ≡ before)
by_code code ending before now e (inl f) = inl (e ∙ ap code_of f)
by_code code ending before now e (inr same) = inr same

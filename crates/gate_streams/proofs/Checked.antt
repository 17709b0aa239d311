-- An IDL that is checked.
use Rattle.std.proofs.Common.{◌≡◌, ℕ, List, Option, Some, Ok, inl, inr}
use Rattle.type_tables.specs.Declarations.{Declarations}
use Rattle.gate_start.specs.Starting.{Holds, IsRead, HasCause}
use Rattle.gate_start.specs.Streams.{Streams}
use Rattle.gate_start.specs.declared.start.NoStart.TheVariants as stops
use Rattle.gate_start.specs.declared.status.Ending.{Ending}
use Rattle.gate_streams.specs.Checking.{Checks, Good, Bad, TellsDeclared}

-- an IDL that is good is checked, and how much it declares was written or its memory not found
pub checked_by : {told : Option Holds} {file : List ℕ} {before now : ℕ} {a b : Streams} {ending : Ending} (d : Declarations) → ((holds : Holds) → told ≡ Some holds → IsRead holds file (Ok d)) → HasCause {X = Declarations} (Ok d) before now
    → TellsDeclared d a b ending → Checks told file before now a b ending
checked_by d known cause (inl tells) = Good d known cause tells
checked_by d known cause (inr says) = Bad stops.OutOfMemory (λ holds is. tt) cause says

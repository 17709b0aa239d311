-- Why a command doesn't start.
use Rattle.std.proofs.Common.{ℕ, List, Option, None, Some, Err}
use Rattle.gate_words.specs.declared.options.Declared.{Declared}
use Rattle.gate_start.specs.Starting.{Holds, IsDeclared, IsStart}
use Rattle.gate_start.specs.declared.start.NoStart.{NoStart}
use Rattle.gate_start.specs.declared.start.NoStart.TheVariants as stops

-- an IDL is read without a look at services
not_of_services : (holds : Holds) (idl : Option (List ℕ)) → IsDeclared holds idl (Err stops.UnknownService) → ⊥
not_of_services holds None h = h
not_of_services holds (Some name) h = h

pub stays : (holds : Holds) (words : Declared) (stop : NoStart) → IsDeclared holds words.idl (Err stop) → IsStart holds words (Err stop)
stays holds words (stops.Refused refusal) h = h
stays holds words stops.UnknownService h = absurd (not_of_services holds words.idl h)
stays holds words stops.FileFault h = tt
stays holds words stops.OutOfMemory h = tt

-- What an adding call answers.
use Rattle.std.specs.Prelude.{◌≡◌, ℕ, Option, Some, None, Result, Ok, Err}
use Rattle.type_tables.specs.declared.declared.AddFault.{AddFault}
use Rattle.type_tables.specs.declared.declared.AddFault.TheVariants as faults

-- `there` is the place of the thing that is there already. A fault changes nothing; a duplicate is told by its place, and only then.
abbrev pub Adds : {R X : Type 0} → Option ℕ → X → X → (R → X) → Result R AddFault → Type 0
Adds there old new added (Ok r) = (there ≡ None) × (new ≡ added r)
Adds there old new added (Err (faults.Duplicate first)) = (there ≡ Some first) × (new ≡ old)
Adds there old new added (Err faults.OutOfMemory) = (there ≡ None) × (new ≡ old)

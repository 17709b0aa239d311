-- The items of an answer stand where each schema declares them.
use Rattle.std.proofs.Common.{◌≡◌, ℕ, ℤ, List, [], ◌∷◌, Some, take, refl, ap}
use Rattle.std.specs.Prelude.{slice_get}
use Rattle.type_tables.specs.declared.tables.StructDecl.{StructDecl}
use Rattle.type_tables.specs.Declarations.{Declarations}
use Rattle.type_tables.specs.Known.{IsBuilt, failure_struct}
use Rattle.type_walk.specs.Positions.{start}
use Rattle.translate_verdicts.specs.Routes.{failure}
use Rattle.translate_core.specs.Answers.{failure_items, marked, plain_items}

first_of_one : (structs : List StructDecl) → take 1 structs ≡ failure_struct ∷ [] → slice_get structs 0 ≡ Some failure_struct
first_of_one [] e = absurd (cc)
first_of_one (t ∷ ts) e = let same : t ≡ failure_struct = cc in ap Some same

pub declared_failure : (d : Declarations) (message : List ℕ) (kind : ℤ) → IsBuilt d → failure_items message kind ≡ marked (start d (Some failure)) (plain_items message kind)
declared_failure d message kind built = rw (first_of_one d.structs built.failure) refl

use Rattle.std.proofs.Common.{◌≡◌, ◌<◌, subst, length, Some}
use Rattle.std.specs.Prelude.{slice_get}
use Rattle.type_tables.specs.Declarations.{Declarations}
use Rattle.type_tables.specs.Known.{failure_struct}
use Rattle.type_tables.proofs.Looked.{first_is}
use Rattle.type_tables.proofs.schema.Schema.failure.Goals as goal

pub returns-clause-known : goal.returns-clause-known
returns-clause-known c =
    let first = first_is c.self.inside.tables.structs failure_struct c.self.invariant.built.failure in
    subst (λ (d : Declarations). 0 < length d.structs) c.self.view_is first.0

pub returns-clause-value : goal.returns-clause-value
returns-clause-value c =
    let first = first_is c.self.inside.tables.structs failure_struct c.self.invariant.built.failure in
    subst (λ (d : Declarations). slice_get d.structs 0 ≡ Some failure_struct) c.self.view_is first.1

use Rattle.std.proofs.Common.{ℕ, ◌<◌, get_or}
use Rattle.type_tables.specs.declared.declared.Ty.{Ty}
use Rattle.type_tables.specs.Known.{IsKnown}
use Rattle.type_tables.proofs.closing.types_closed.Given as goal

abbrev pub invariant-loop-ty : goal.invariant-loop-ty
invariant-loop-ty l = (k : ℕ) (d : Ty) → k < l.ty-index → IsKnown l.tables (get_or l.types k d)

use Rattle.std.proofs.Common.{ℕ, ◌<◌, get_or}
use Rattle.type_tables.specs.declared.declared.FieldInfo.{FieldInfo}
use Rattle.type_tables.specs.Known.{IsKnown}
use Rattle.type_tables.proofs.closing.fields_closed.Given as goal

abbrev pub invariant-loop-field : goal.invariant-loop-field
invariant-loop-field l = (k : ℕ) (d : FieldInfo) → k < l.field-index → IsKnown l.tables (get_or l.field-items k d).ty

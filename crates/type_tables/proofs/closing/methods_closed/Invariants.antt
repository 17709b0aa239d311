use Rattle.std.proofs.Common.{ℕ, ◌<◌, List, get_or}
use Rattle.type_tables.specs.declared.declared.MethodInfo.{MethodInfo}
use Rattle.type_tables.specs.Known.{IsKnownMethod}
use Rattle.type_tables.proofs.closing.methods_closed.Given as goal

abbrev pub invariant-loop-at : goal.invariant-loop-at
invariant-loop-at l = (k : ℕ) (d : List ℕ × MethodInfo) → k < l.at → IsKnownMethod l.tables (get_or l.methods k d).1

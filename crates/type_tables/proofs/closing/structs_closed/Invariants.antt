use Rattle.std.proofs.Common.{ℕ, ◌<◌, get_or}
use Rattle.std.specs.List.{All}
use Rattle.type_tables.specs.declared.tables.StructDecl.{StructDecl}
use Rattle.type_tables.specs.Known.{IsKnown}
use Rattle.type_tables.proofs.closing.structs_closed.Given as goal

abbrev pub invariant-loop-decl : goal.invariant-loop-decl
invariant-loop-decl l = (k : ℕ) (d : StructDecl) → k < l.decl-index → All (λ f. IsKnown l.tables f.ty) (get_or l.structs k d).fields

use Rattle.std.proofs.Common.{ℕ, ◌<◌, get_or}
use Rattle.std.specs.List.{All}
use Rattle.type_tables.specs.declared.services.ServiceDecl.{ServiceDecl}
use Rattle.type_tables.specs.Known.{IsKnownMethod, IsKnownBase}
use Rattle.type_tables.proofs.closing.services_closed.Given as goal

abbrev pub invariant-loop-decl : goal.invariant-loop-decl
invariant-loop-decl l = record {
  methods : (k : ℕ) (d : ServiceDecl) → k < l.decl-index → All (λ m. IsKnownMethod l.tables m.1) (get_or l.services k d).methods;
  bases : (k : ℕ) (d : ServiceDecl) → k < l.decl-index → IsKnownBase l.tables (get_or l.services k d).base;
}

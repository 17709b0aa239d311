use Rattle.std.proofs.Common.{◌≡◌, drop}
use Rattle.type_tables.specs.Structs.{widest_from}
use Rattle.type_tables.proofs.schema.widest.Given as goal

abbrev pub invariant-loop-decl : goal.invariant-loop-decl
invariant-loop-decl l = widest_from l.most (drop l.decl-index l.structs) ≡ widest_from 0 l.structs

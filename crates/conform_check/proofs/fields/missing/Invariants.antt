use Rattle.std.proofs.Common.{◌≡◌, drop}
use Rattle.type_tables.specs.Structs.{fields_of}
use Rattle.conform_check.specs.Breaches.{missing}
use Rattle.conform_check.proofs.fields.missing.Given as goal

-- what is missing of all is missing of those that weren't looked at yet
abbrev pub invariant-loop-place : goal.invariant-loop-place
invariant-loop-place l = missing (drop l.place (fields_of l.schema.structs l.s.0)) l.seen ≡ missing (fields_of l.schema.structs l.s.0) l.seen

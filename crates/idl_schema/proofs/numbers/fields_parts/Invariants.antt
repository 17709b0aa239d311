use Rattle.std.proofs.Common.{◌≡◌, ◌+◌, drop}
use Rattle.idl_document.specs.Trees.{field_trees}
use Rattle.idl_schema.specs.Numbers.{fields_parts}
use Rattle.idl_schema.proofs.numbers.fields_parts.Given as goal

abbrev pub invariant-loop-field : goal.invariant-loop-field
invariant-loop-field l = l.n + fields_parts (field_trees (drop l.field-index l.fields)) ≡ fields_parts (field_trees l.fields)

use Rattle.std.proofs.Common.{◌≡◌, ◌+◌, drop}
use Rattle.idl_document.specs.Trees.{function_trees}
use Rattle.idl_schema.specs.Numbers.{methods_parts}
use Rattle.idl_schema.proofs.numbers.methods_parts.Given as goal

abbrev pub invariant-loop-method : goal.invariant-loop-method
invariant-loop-method l = l.n + methods_parts (function_trees (drop l.method-index l.methods)) ≡ methods_parts (function_trees l.methods)

use Rattle.std.proofs.Common.{◌≡◌, ◌++◌, drop}
use Rattle.idl_document.specs.Trees.{definition_trees}
use Rattle.idl_schema.specs.Numbers.{numbers_in, after_all}
use Rattle.idl_schema.proofs.numbers.numbers_in.Given as goal

abbrev pub invariant-loop-definition : goal.invariant-loop-definition
invariant-loop-definition l = record {
  numbers : l.list ++ numbers_in l.n (definition_trees (drop l.definition-index l.definitions)) ≡ numbers_in l.fn.first (definition_trees l.definitions);
  next : after_all l.n (definition_trees (drop l.definition-index l.definitions)) ≡ after_all l.fn.first (definition_trees l.definitions);
}

use Rattle.std.proofs.Common.{◌≡◌, ◌<◌, length, drop}
use Rattle.idl_document.specs.Trees.{function_trees}
use Rattle.type_tables.specs.Services.{methods_of}
use Rattle.idl_schema.specs.Adding.{with_methods}
use Rattle.idl_schema.specs.Kept.{AreNew}
use Rattle.idl_schema.specs.Methods.{methods_from}
use Rattle.idl_schema.proofs.methods.add_methods.Given as goal

abbrev pub invariant-loop-method : goal.invariant-loop-method
invariant-loop-method l = record {
  within : l.service.0 < length l.builder.services;
  new : AreNew (methods_of l.builder.services l.service.0) (function_trees (drop l.method-index l.methods));
  exact : with_methods l.builder l.service.0 (methods_from l.n (function_trees (drop l.method-index l.methods))) ≡ with_methods l.initial.builder l.service.0 (methods_from l.fn.first (function_trees l.methods));
}

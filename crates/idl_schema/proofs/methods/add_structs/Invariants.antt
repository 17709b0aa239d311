use Rattle.std.proofs.Common.{◌≡◌, length, drop}
use Rattle.idl_document.specs.Trees.{function_trees}
use Rattle.idl_schema.specs.Adding.{with_structs}
use Rattle.idl_schema.specs.Methods.{methods_structs, methods_types}
use Rattle.idl_schema.specs.Indexes.{files_of}
use Rattle.idl_schema.specs.Types.{ty_in}
use Rattle.idl_schema.proofs.methods.add_structs.Given as goal

abbrev pub invariant-loop-method : goal.invariant-loop-method
invariant-loop-method l =
    let ty = ty_in (files_of l.index) l.file in
    let rest = function_trees (drop l.method-index l.methods) in
    let all = function_trees l.methods in
    let n = length l.builder.types in
    let m = length l.initial.builder.types in
    with_structs l.builder (methods_types ty n rest) (methods_structs ty n rest) ≡ with_structs l.initial.builder (methods_types ty m all) (methods_structs ty m all)

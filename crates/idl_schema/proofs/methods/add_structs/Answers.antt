use Rattle.std.proofs.Common.{◌+◌, ◌∙◌, ap, sym, drop, length, List}
use Rattle.idl_document.specs.declared.document.Function.{Function}
use Rattle.idl_document.specs.Trees.{function_tree, function_trees}
use Rattle.idl_schema.specs.Adding.{with_structs}
use Rattle.idl_schema.specs.Methods.{methods_structs, methods_types}
use Rattle.idl_schema.specs.Indexes.{files_of}
use Rattle.idl_schema.specs.Types.{ty_in}
use Rattle.idl_schema.proofs.Kept.{method_kept}
use Rattle.idl_schema.proofs.Listing.{next, method_added}
use Rattle.idl_schema.proofs.methods.add_structs.Goals as goal

pub loop-method-preserved : goal.loop-method-preserved
loop-method-preserved c =
    let ty = ty_in (files_of c.args.index.now) c.args.file in
    let fs = c.args.methods.now in
    let i = c.loop-method.method-index in
    let f = c.method-item.result in
    let b = c.loop-method.builder in
    let all = function_trees fs in
    let m = length c.args.builder.now.types in
    let open_list = next fs i f c.loop-method-test.true c.method-item.is in
    method_added ty b c.add_args.new.builder c.add_result.new.builder (function_tree f) (function_trees (drop (i + 1) fs)) c.in_ok-add_args.ensures c.in_ok-add_result.ensures
    (with_structs c.args.builder.now (methods_types ty m all) (methods_structs ty m all))
    (ap (λ (l : List Function). with_structs b (methods_types ty (length b.types) (function_trees l)) (methods_structs ty (length b.types) (function_trees l))) (sym open_list) ∙ c.loop-method.invariant)

pub add_args-requires : goal.add_args-requires
add_args-requires c = method_kept c.args.methods.now c.loop-method.method-index c.method-item.result c.loop-method-test.true c.method-item.is c.requires

pub add_result-requires : goal.add_result-requires
add_result-requires c = method_kept c.args.methods.now c.loop-method.method-index c.method-item.result c.loop-method-test.true c.method-item.is c.requires

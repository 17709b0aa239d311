use Rattle.std.proofs.Common.{◌++◌, refl, List, subst}
use Rattle.idl_document.specs.declared.document.Function.{Function}
use Rattle.idl_document.specs.declared.document.FieldDecl.{FieldDecl}
use Rattle.idl_document.specs.Trees.{function_trees, field_trees}
use Rattle.idl_consts.specs.Told.{IsLeast, function_values, presets}
use Rattle.idl_consts.proofs.Judged.{one_judged, least_append}
use Rattle.idl_consts.specs.Views.{files_of}
use Rattle.idl_consts.proofs.check.functions_fault.Goals as goal

pub loop-function-preserved : goal.loop-function-preserved
loop-function-preserved c =
    let d = files_of c.args.view.now in
    let f = c.function-item.result in
    let least = c.loop-function.least in
    let args = subst (λ (fs : List FieldDecl). IsLeast d c.args.place least (presets (field_trees fs)) c.in_ok-args.args) c.as_slice.ensures c.in_ok-args.ensures.told in
    let throws = subst (λ (fs : List FieldDecl). IsLeast d c.args.place c.in_ok-args.args (presets (field_trees fs)) c.in_ok-least.least) c.as_slice-in-loop-function.ensures c.in_ok-least.ensures.told in
    record {
      told = one_judged (λ (fs : List Function). function_values (function_trees fs)) (λ (g : Function). presets (field_trees g.args) ++ presets (field_trees g.throws)) (λ y ys. refl)
          d c.args.place c.args.functions.now c.loop-function.function-index f c.loop-function-test.true c.function-item.is least c.in_ok-least.least c.args.before c.loop-function.invariant.told
          (least_append d c.args.place least c.in_ok-args.args c.in_ok-least.least (presets (field_trees f.args)) (presets (field_trees f.throws)) args throws);
      known = c.in_ok-least.ensures.known;
    }

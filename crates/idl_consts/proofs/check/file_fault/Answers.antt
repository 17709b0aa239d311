use Rattle.std.proofs.Common.{refl, List, None}
use Rattle.idl_document.specs.declared.document.Definition.{Definition}
use Rattle.idl_document.specs.Trees.{definition_tree, definition_trees}
use Rattle.idl_consts.specs.Told.{all_values, definition_values}
use Rattle.idl_consts.proofs.Judged.{one_judged}
use Rattle.idl_consts.specs.Views.{files_of}
use Rattle.idl_consts.proofs.check.file_fault.Goals as goal

pub loop-definition-preserved : goal.loop-definition-preserved
loop-definition-preserved c =
    record {
      told = one_judged (λ (ds : List Definition). all_values (definition_trees ds)) (λ (x : Definition). definition_values (definition_tree x)) (λ y ys. refl)
          (files_of c.args.view.now) c.args.place c.as_slice-definition-items.result.now c.loop-definition.definition-index c.definition-item.result c.loop-definition-test.true c.definition-item.is
          c.loop-definition.least c.in_ok-least.least None c.loop-definition.invariant.told c.in_ok-least.ensures.told;
      known = c.in_ok-least.ensures.known;
    }

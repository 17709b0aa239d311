use Rattle.std.proofs.Common.{drop, Option, None}
use Rattle.idl_document.specs.Trees.{definition_trees}
use Rattle.idl_consts.specs.Following.{Fault}
use Rattle.idl_consts.specs.Knowing.{IsSound}
use Rattle.idl_consts.specs.Told.{IsLeast, all_values}
use Rattle.idl_consts.specs.Views.{files_of}
use Rattle.idl_consts.proofs.check.file_fault.Given as goal

abbrev pub invariant-loop-definition : goal.invariant-loop-definition
invariant-loop-definition l =
    let d = files_of l.view in
    record {
      told : (told : Option Fault) → IsLeast d l.place l.least (all_values (definition_trees (drop l.definition-index l.definition-items))) told
          → IsLeast d l.place None (all_values (definition_trees l.definition-items)) told;
      known : IsSound d l.known;
    }

use Rattle.std.proofs.Common.{drop, Option}
use Rattle.idl_document.specs.Trees.{function_trees}
use Rattle.idl_consts.specs.Following.{Fault}
use Rattle.idl_consts.specs.Knowing.{IsSound}
use Rattle.idl_consts.specs.Told.{IsLeast, function_values}
use Rattle.idl_consts.specs.Views.{files_of}
use Rattle.idl_consts.proofs.check.functions_fault.Given as goal

abbrev pub invariant-loop-function : goal.invariant-loop-function
invariant-loop-function l =
    let d = files_of l.view in
    record {
      told : (told : Option Fault) → IsLeast d l.place l.least (function_values (function_trees (drop l.function-index l.functions))) told
          → IsLeast d l.place l.fn.before (function_values (function_trees l.functions)) told;
      known : IsSound d l.known;
    }

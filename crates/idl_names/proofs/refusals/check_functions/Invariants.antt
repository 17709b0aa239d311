use Rattle.std.proofs.Common.{◌≡◌, drop}
use Rattle.idl_document.specs.Trees.{function_trees}
use Rattle.idl_rules.specs.Order.{lesser, least_of}
use Rattle.idl_names.specs.Files.{file_trees}
use Rattle.idl_names.specs.Refusals.{functions_refusals}
use Rattle.idl_names.proofs.refusals.check_functions.Given as goal

abbrev pub invariant-loop-function : goal.invariant-loop-function
invariant-loop-function l =
    lesser l.least (least_of (functions_refusals (file_trees l.names.files.now) l.cycles l.file (function_trees (drop l.function-index l.functions))))
    ≡ lesser l.initial.least (least_of (functions_refusals (file_trees l.names.files.now) l.cycles l.file (function_trees l.functions)))

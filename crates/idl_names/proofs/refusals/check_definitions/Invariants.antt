use Rattle.std.proofs.Common.{◌≡◌, drop}
use Rattle.idl_document.specs.Trees.{definition_trees}
use Rattle.idl_rules.specs.Order.{lesser, least_of}
use Rattle.idl_names.specs.Files.{file_trees}
use Rattle.idl_names.specs.Refusals.{definitions_refusals}
use Rattle.idl_names.proofs.refusals.check_definitions.Given as goal

abbrev pub invariant-loop-place : goal.invariant-loop-place
invariant-loop-place l =
    lesser l.least (least_of (definitions_refusals (file_trees l.names.files.now) l.cycles l.file l.place (definition_trees (drop l.place l.definitions))))
    ≡ lesser l.initial.least (least_of (definitions_refusals (file_trees l.names.files.now) l.cycles l.file 0 (definition_trees l.definitions)))

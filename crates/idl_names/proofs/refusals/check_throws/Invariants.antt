use Rattle.std.proofs.Common.{◌≡◌, drop}
use Rattle.idl_document.specs.Trees.{field_trees}
use Rattle.idl_rules.specs.Order.{lesser, least_of}
use Rattle.idl_names.specs.Files.{file_trees}
use Rattle.idl_names.specs.Refusals.{throws_refusals}
use Rattle.idl_names.proofs.refusals.check_throws.Given as goal

abbrev pub invariant-loop-field : goal.invariant-loop-field
invariant-loop-field l =
    lesser l.least (least_of (throws_refusals (file_trees l.names.files.now) l.cycles l.file (field_trees (drop l.field-index l.fields))))
    ≡ lesser l.initial.least (least_of (throws_refusals (file_trees l.names.files.now) l.cycles l.file (field_trees l.fields)))

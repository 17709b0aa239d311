use Rattle.std.proofs.Common.{◌≡◌}
use Rattle.idl_document.specs.Trees.{type_tree}
use Rattle.idl_names.specs.Files.{file_trees}
use Rattle.idl_names.specs.Targets.{chased, target_of}
use Rattle.idl_names.proofs.targets.resolve_type.Given as goal

abbrev pub invariant-typedefs : goal.invariant-typedefs
invariant-typedefs l = chased (file_trees l.names.files.now) l.left l.file (type_tree l.ty) ≡ target_of (file_trees l.fn.names.files.now) l.fn.file (type_tree l.fn.ty)

abbrev pub decreases-typedefs : goal.decreases-typedefs
decreases-typedefs l = l.left

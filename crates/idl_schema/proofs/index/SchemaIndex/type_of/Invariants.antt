use Rattle.std.proofs.Common.{◌≡◌}
use Rattle.idl_document.specs.Trees.{type_tree}
use Rattle.idl_schema.specs.Indexes.{files_of}
use Rattle.idl_schema.specs.Types.{followed, ty_in}
use Rattle.idl_schema.proofs.index.SchemaIndex.type_of.Given as goal

abbrev pub invariant-typedefs : goal.invariant-typedefs
invariant-typedefs l = followed l.left (files_of l.self) l.at.file l.at.base (type_tree l.at.tree.now) ≡ ty_in (files_of l.self) l.fn.file l.fn.base (type_tree l.fn.tree)

abbrev pub decreases-typedefs : goal.decreases-typedefs
decreases-typedefs l = l.left

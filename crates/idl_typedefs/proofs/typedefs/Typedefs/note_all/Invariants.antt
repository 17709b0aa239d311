use Rattle.idl_names.specs.Files.{file_trees}
use Rattle.idl_typedefs.specs.AliasLinks.{Follows, IsAliasLink}
use Rattle.idl_typedefs.proofs.typedefs.Typedefs.note_all.Given as goal

abbrev pub invariant-names : goal.invariant-names
invariant-names l = record {
  kept : Follows (file_trees l.names.files.now) l.self;
  link : IsAliasLink (file_trees l.names.files.now) l.left;
}

abbrev pub decreases-names : goal.decreases-names
decreases-names l = l.left.steps

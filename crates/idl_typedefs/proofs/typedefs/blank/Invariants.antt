use Rattle.std.proofs.Common.{List}
use Rattle.idl_names.specs.Files.{FileTree}
use Rattle.idl_typedefs.specs.AliasLinks.{AreAliasLinks}
use Rattle.idl_typedefs.proofs.typedefs.blank.Given as goal

abbrev pub invariant-links : goal.invariant-links
invariant-links l = (files : List FileTree) → AreAliasLinks files l.links.items

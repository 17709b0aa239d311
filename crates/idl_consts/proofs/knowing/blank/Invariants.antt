use Rattle.std.proofs.Common.{List}
use Rattle.idl_names.specs.Files.{FileTree}
use Rattle.idl_consts.specs.Knowing.{AreRows}
use Rattle.idl_consts.proofs.knowing.blank.Given as goal

abbrev pub invariant-rows : goal.invariant-rows
invariant-rows l = (d : List FileTree) → AreRows d l.rows.items

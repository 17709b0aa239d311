use Rattle.std.proofs.Common.{◌≡◌, ◌≤◌, ◌*◌, take}
use Rattle.idl_names.specs.Files.{file_trees}
use Rattle.idl_names.specs.Targets.{definition_count}
use Rattle.idl_names.proofs.names.count_of.Given as goal

abbrev pub invariant-loop-file : goal.invariant-loop-file
invariant-loop-file l = record {
  exact : l.count ≡ definition_count (file_trees (take l.file-index l.files));
  bounded : l.count ≤ l.file-index * 4294967295;
}

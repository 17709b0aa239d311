use Rattle.std.proofs.Common.{◌≡◌, ◌++◌, drop}
use Rattle.idl_names.specs.Files.{file_trees}
use Rattle.idl_schema.specs.Numbers.{files_numbers, start}
use Rattle.idl_schema.proofs.numbers.numbers_of.Given as goal

abbrev pub invariant-loop-file : goal.invariant-loop-file
invariant-loop-file l = l.list ++ files_numbers l.n (file_trees (drop l.file-index l.files)) ≡ files_numbers start (file_trees l.files)

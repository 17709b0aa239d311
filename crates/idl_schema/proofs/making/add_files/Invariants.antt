use Rattle.std.proofs.Common.{◌≡◌, drop}
use Rattle.idl_names.specs.Files.{file_trees}
use Rattle.idl_schema.specs.Adding.{firsts}
use Rattle.idl_schema.specs.Shares.{files_shares, with_share}
use Rattle.idl_schema.specs.Indexes.{files_of}
use Rattle.idl_schema.proofs.making.add_files.Given as goal

abbrev pub invariant-loop-at : goal.invariant-loop-at
invariant-loop-at l =
    with_share l.builder (files_shares (files_of l.index) l.at (firsts l.builder) (file_trees (drop l.at l.files)))
    ≡ with_share l.initial.builder (files_shares (files_of l.index) 0 (firsts l.initial.builder) (file_trees l.files))

use Rattle.std.proofs.Common.{◌≡◌, drop}
use Rattle.idl_names.specs.Files.{file_trees}
use Rattle.idl_resolve.specs.Refused.{first_from}
use Rattle.idl_resolve.proofs.resolving.first_refusal.Given as goal

abbrev pub invariant-loop-place : goal.invariant-loop-place
invariant-loop-place l = first_from (file_trees l.names.files.now) l.cycles l.place (drop l.place (file_trees l.names.files.now)) ≡ first_from (file_trees l.names.files.now) l.cycles 0 (file_trees l.names.files.now)

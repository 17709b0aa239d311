use Rattle.std.proofs.Common.{◌≡◌, ◌++◌, drop}
use Rattle.idl_files.specs.Names.{behind, spelled}
use Rattle.idl_files.proofs.segments.Segments.spelled.Given as goal

abbrev pub invariant-loop-segment : goal.invariant-loop-segment
invariant-loop-segment l = l.name.items ++ behind (drop l.segment-index l.rest) ≡ spelled l.fn.self

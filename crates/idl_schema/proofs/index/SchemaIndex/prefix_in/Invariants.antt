use Rattle.std.proofs.Common.{◌≡◌, drop}
use Rattle.idl_schema.specs.Indexes.{files_of}
use Rattle.idl_schema.specs.Shares.{prefix_in}
use Rattle.idl_schema.proofs.index.SchemaIndex.prefix_in.Given as goal

abbrev pub invariant-loop-path : goal.invariant-loop-path
invariant-loop-path l = prefix_in (files_of l.self) l.file (drop l.path-index l.paths) ≡ prefix_in (files_of l.self) l.file l.paths

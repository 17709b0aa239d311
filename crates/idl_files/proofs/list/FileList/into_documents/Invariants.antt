use Rattle.std.proofs.Common.{◌≡◌}
use Rattle.idl_files.proofs.list.FileList.into_documents.Given as goal

abbrev pub invariant-loop-file : goal.invariant-loop-file
invariant-loop-file l = l.documents ≡ l.yielded

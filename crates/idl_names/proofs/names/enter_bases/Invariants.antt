use Rattle.std.proofs.Common.{take}
use Rattle.idl_names.specs.Paths.{base_name}
use Rattle.idl_names.specs.Places.{TellsFirst}
use Rattle.idl_names.proofs.names.enter_bases.Given as goal

abbrev pub invariant-loop-place : goal.invariant-loop-place
invariant-loop-place l = TellsFirst (λ path. base_name path.text) (take l.place l.includes) l.places

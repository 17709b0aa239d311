use Rattle.std.proofs.Common.{drop, Option}
use Rattle.idl_consts.specs.Views.{files_of}
use Rattle.idl_consts.specs.Knowing.{IsSound}
use Rattle.idl_consts.specs.Told.{Told, IsTold}
use Rattle.idl_consts.proofs.check.check_files.Given as goal

abbrev pub invariant-loop-place : goal.invariant-loop-place
invariant-loop-place l =
    let d = files_of l.view in
    record {
      told : (told : Option Told) → IsTold d l.place (drop l.place d) told → IsTold d 0 d told;
      known : IsSound d l.known;
    }

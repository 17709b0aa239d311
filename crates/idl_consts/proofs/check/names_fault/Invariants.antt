use Rattle.std.proofs.Common.{drop, Option}
use Rattle.idl_consts.specs.Following.{Fault, IsFirst}
use Rattle.idl_consts.specs.Knowing.{IsSound}
use Rattle.idl_consts.specs.Pieces.{chained, ending}
use Rattle.idl_consts.specs.Views.{files_of}
use Rattle.idl_consts.proofs.check.names_fault.Given as goal

abbrev pub invariant-loop-name : goal.invariant-loop-name
invariant-loop-name l =
    let d = files_of l.view in
    record {
      told : (told : Option Fault) → IsFirst d (chained d (drop l.name-index l.names) (ending l.fault)) told → IsFirst d (chained d l.names (ending l.fault)) told;
      known : IsSound d l.known;
    }

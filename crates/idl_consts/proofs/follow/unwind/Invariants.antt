use Rattle.std.proofs.Common.{length}
use Rattle.idl_consts.specs.Knowing.{IsSound}
use Rattle.idl_consts.specs.Meant.{meant_at}
use Rattle.idl_consts.specs.Trails.{IsHalted}
use Rattle.idl_consts.specs.Views.{files_of}
use Rattle.idl_consts.proofs.follow.unwind.Given as goal

abbrev pub invariant-frames : goal.invariant-frames
invariant-frames l =
    let d = files_of l.view in
    record {
      halted : IsHalted d l.fn.name.constant (meant_at d l.fn.name.ty) l.trail l.row;
      known : IsSound d l.known;
    }

abbrev pub decreases-frames : goal.decreases-frames
decreases-frames l = length l.trail.outer.items

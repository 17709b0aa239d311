use Rattle.idl_consts.specs.Knowing.{IsSound}
use Rattle.idl_consts.specs.Meant.{meant_at}
use Rattle.idl_consts.specs.Trails.{IsTrail}
use Rattle.idl_consts.specs.Views.{files_of}
use Rattle.idl_consts.proofs.follow.name_row.Given as goal

abbrev pub invariant-names : goal.invariant-names
invariant-names l = record {
  trail : IsTrail (files_of l.view) l.fn.name.constant (meant_at (files_of l.view) l.fn.name.ty) l.trail;
  known : IsSound (files_of l.view) l.known;
}

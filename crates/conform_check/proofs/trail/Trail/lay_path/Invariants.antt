use Rattle.std.proofs.Common.{◌≡◌, [], length}
use Rattle.std.specs.Vec.{vec_capacity}
use Rattle.conform_check.specs.Inside.{path_to}
use Rattle.conform_check.specs.Fitting.{first_levels}
use Rattle.conform_check.proofs.trail.Trail.lay_path.Given as goal

abbrev pub invariant-loop-at : goal.invariant-loop-at
invariant-loop-at l = record {
  path : l.path.items ≡ path_to (first_levels l.self-inside.shelves.items l.at) [];
  long : length l.path.items ≡ l.at;
  room : vec_capacity l.path ≡ vec_capacity l.fn.path;
}

use Rattle.std.proofs.Common.{◌≡◌, ◌≤◌, length}
use Rattle.std.specs.Prelude.{All}
use Rattle.conform_check.specs.Fitting.{Shelved}
use Rattle.conform_check.proofs.trail.Trail.new.Given as goal

abbrev pub invariant-loop : goal.invariant-loop
invariant-loop l = record { levels : length l.shelves.items ≡ l.counter; rooms : All (λ (shelf : Shelved). l.width ≤ shelf.room) l.shelves.items }

use Rattle.std.proofs.Common.{◌≡◌, ◌≤◌, ℕ, [], List, Option, Some, length, drop, ◌+◌, ◌*◌}
use Rattle.idl_names.specs.Files.{file_trees}
use Rattle.idl_files.specs.Answers.{AllBelow, Extends}
use Rattle.idl_files.specs.Walk.{included, loaded}
use Rattle.idl_files.proofs.walk.+walk.Given as goal

abbrev pub decreases-include : goal.decreases-include
decreases-include g l = 4 * l.levels + 1

abbrev pub decreases-include_all : goal.decreases-include_all
decreases-include_all g l = 4 * l.levels + 2

abbrev pub decreases-load : goal.decreases-load
decreases-load g l = 4 * l.levels

abbrev pub decreases-open : goal.decreases-open
decreases-open g l = 4 * l.levels + 3

abbrev pub invariant-include_all-loop-mention : goal.invariant-include_all-loop-mention
invariant-include_all-loop-mention g l = record {
  same : g.F.Files.holds l.files ≡ g.F.Files.holds l.fn.files;
  later : g.F.Files.faults l.fn.files ≤ g.F.Files.faults l.files;
  steady : g.F.Files.faults l.files ≡ g.F.Files.faults l.fn.files;
  exact : (holds : List ℕ → Option (List ℕ)) → g.F.Files.holds l.fn.files ≡ Some holds →
      included (loaded holds l.levels) l.file (drop l.mention-index l.mentions) (file_trees l.list) l.places ≡ included (loaded holds l.levels) l.file l.mentions (file_trees l.fn.list) [];
  extends : Extends (file_trees l.fn.list) (file_trees l.list);
  count : length l.places ≡ l.mention-index;
  below : AllBelow (length (file_trees l.list)) l.places;
}

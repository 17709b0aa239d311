use Rattle.std.proofs.Common.{◌≡◌, ◌≤◌, List, [], length, None}
use Rattle.std.specs.Vec.{vec_capacity}
use Rattle.translate_verdicts.specs.Positions.{typed}
use Rattle.translate_verdicts.specs.Body.{whole, source_of, going}
use Rattle.conform_check.specs.Inside.{Inside}
use Rattle.conform_check.specs.Checking.{begun, body_from, check_target, checking, kept_broken}
use Rattle.conform_check.specs.Fitting.{AreFitting}
use Rattle.conform_check.proofs.check.look_through.Given as goal

-- from here on the body is checked as from its beginning; behind a breach the open levels don't matter
abbrev pub invariant-events : goal.invariant-events
invariant-events g l =
    let source = source_of g.R.ReadRules.begun g.R.ReadRules.reads_head g.R.ReadRules.reads g.R.ReadRules.reads_end g.R.ReadRules.value_place g.R.ReadRules.ahead in
    let first = begun l.schema l.fn.body in
    record {
      told : (open_levels : List Inside) × (l.found ≡ None → open_levels ≡ l.trail.levels)
          × (whole source typed (check_target first) (going l.reader l.walk (checking l.walk open_levels (kept_broken l.found l.path.items)) (length l.walk.levels) None []) ≡ body_from source l.fn.reader first);
      fitting : l.found ≡ None → AreFitting l.schema l.walk.levels l.trail.levels;
      schema : l.walk.schema ≡ l.schema;
      depth_is : length l.walk.levels ≡ g.R.ReadRules.depth l.reader;
      shallow : length l.walk.levels ≤ 256;
      width : l.trail.width ≡ l.fn.trail.width;
      room : vec_capacity l.path ≡ vec_capacity l.fn.path;
    }

abbrev pub decreases-events : goal.decreases-events
decreases-events g l = g.R.ReadRules.ahead l.reader

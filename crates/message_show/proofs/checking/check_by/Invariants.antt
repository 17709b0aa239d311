use Rattle.std.proofs.Common.{◌≡◌, ◌≤◌, List, ℕ, length, None}
use Rattle.translate_verdicts.specs.Positions.{typed}
use Rattle.translate_verdicts.specs.Body.{whole, source_in, going}
use Rattle.message_show.specs.Line.{Levels, begun}
use Rattle.message_show.specs.Shown.{place, line_target, body_from}
use Rattle.message_show.proofs.checking.check_by.Given as goal

-- from here on the body is read as from its beginning, whatever was told
abbrev pub invariant-events : goal.invariant-events
invariant-events g l =
    let source = source_in g.R.ReadRules in
    let first = g.K.Walking.at l.fn.walk in
    let at = g.K.Walking.at l.walk in
    record {
      told : (text : List ℕ) → (levels : Levels) × (bytes : List ℕ) × (whole source typed (line_target (place first begun)) (going l.reader at (place at levels) (length at.levels) None bytes) ≡ body_from source l.fn.reader first text);
      depth_is : length at.levels ≡ g.R.ReadRules.depth l.reader;
      shallow : length at.levels ≤ 256;
    }

abbrev pub decreases-events : goal.decreases-events
decreases-events g l = g.R.ReadRules.ahead l.reader

use Rattle.std.proofs.Common.{◌≡◌, ◌≤◌, List, ℕ, length, None}
use Rattle.type_walk.specs.Positions.{Position}
use Rattle.translate_verdicts.specs.Positions.{typed}
use Rattle.translate_verdicts.specs.Body.{whole, source_in, going}
use Rattle.message_show.specs.Line.{Levels, begun}
use Rattle.message_show.specs.Shown.{place, line_target, body_from}
use Rattle.message_show.proofs.checking.check_any.Given as goal

-- from here on the body is read as from its beginning, whatever was told
abbrev pub invariant-events : goal.invariant-events
invariant-events g l =
    let source = source_in g.R.ReadRules in
    record {
      told : (first : Position) (text : List ℕ) → (at : Position) × (levels : Levels) × (bytes : List ℕ) × (whole source typed (line_target (place first begun)) (going l.reader at (place at levels) (length l.walk.levels) None bytes) ≡ body_from source l.fn.reader first text);
      depth_is : length l.walk.levels ≡ g.R.ReadRules.depth l.reader;
      shallow : length l.walk.levels ≤ 256;
    }

abbrev pub decreases-events : goal.decreases-events
decreases-events g l = g.R.ReadRules.ahead l.reader

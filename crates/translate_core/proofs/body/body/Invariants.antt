use Rattle.std.proofs.Common.{◌≡◌, ◌+◌, ◌≤◌, ◌++◌, List, [], ℕ, length, false}
use Rattle.std.specs.Prelude.{is_some}
use Rattle.translate_verdicts.specs.Positions.{typed}
use Rattle.translate_verdicts.specs.Body.{whole, source_in, target_in, going}
use Rattle.translate_core.proofs.body.body.Given as goal

abbrev pub invariant-events : goal.invariant-events
invariant-events g l =
    let source = source_in g.R.ReadRules in
    let target = target_in g.W.WireWrite in
    let at = g.K.Walking.at l.walk in
    record {
      told : (added : List ℕ) × (l.out.bytes ≡ l.fn.out.bytes ++ added) × (whole source typed target (going l.reader at l.writer (length at.levels) l.cause added) ≡ whole source typed target (going l.fn.reader (g.K.Walking.at l.fn.walk) l.fn.writer 1 l.fn.barred []));
      depth_is : length at.levels ≡ g.R.ReadRules.depth l.reader;
      open_is : is_some l.cause ≡ false → g.W.WireWrite.depth l.writer ≡ length at.levels;
      shallow : length at.levels ≤ 256;
      grown : length l.out.bytes + g.R.ReadRules.ahead l.reader ≤ length l.fn.out.bytes + g.R.ReadRules.ahead l.fn.reader;
      room : l.out.room ≡ l.fn.out.room;
    }

abbrev pub decreases-events : goal.decreases-events
decreases-events g l = g.R.ReadRules.ahead l.reader

use Rattle.std.proofs.Common.{arith}
use Rattle.kept_forms.proofs.Beginnings.{none_kept, pairs_kept}
use Rattle.kept_forms.proofs.compact.CompactReadFormKeepCompactWrite.keep_pairs.Goals as goal

pub returns-then-pairs-eq0-clause-keeps : goal.returns-then-pairs-eq0-clause-keeps
returns-then-pairs-eq0-clause-keeps c = none_kept c.args.frame.now c.args.at c.args.stand c.in_ok-pairs.pairs c.if-pairs-eq0.true c.in_ok-pairs.ensures.steps

pub returns-clause-keeps : goal.returns-clause-keeps
returns-clause-keeps c =
    let found = c.in_ok-pairs in
    pairs_kept c.args.frame.now c.args.at c.args.stand found.pairs c.type_inv.frame (omega (arith, found.ensures.long (omega (arith, c.if-pairs-eq0.false)))) (omega (arith, c.if-pairs-eq0.false)) (c.is_own_head.ensures c.if-not-is_own_head.false) found.ensures.steps

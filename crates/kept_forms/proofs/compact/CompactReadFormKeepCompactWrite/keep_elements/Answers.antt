use Rattle.std.proofs.Common.{arith}
use Rattle.kept_forms.proofs.Beginnings.{elements_kept}
use Rattle.kept_forms.proofs.compact.CompactReadFormKeepCompactWrite.keep_elements.Goals as goal

pub returns-clause-keeps : goal.returns-clause-keeps
returns-clause-keeps c =
    let found = c.in_ok-kind in
    elements_kept c.args.frame.now c.args.at found.behind c.args.stand c.args.container found.kind found.size c.type_inv.frame c.requires.no_map found.ensures.past (λ two. absurd (omega (arith, two, c.if-frame-at-eq-OTHER_BOOL.false))) (c.is_own_size.ensures c.if-not-is_own_size.false) found.ensures.steps

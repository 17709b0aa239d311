use Rattle.std.proofs.Common.{arith}
use Rattle.kept_forms.proofs.InCompact.{text_kept}
use Rattle.kept_forms.proofs.compact.CompactReadFormKeepCompactWrite.keep_text.Goals as goal

pub returns-clause-keeps : goal.returns-clause-keeps
returns-clause-keeps c =
    let found = c.in_ok-size in
    text_kept c.args.frame.now c.args.at found.size found.begin c.args.stand c.type_inv.frame c.requires found.ensures.exact (omega arith) (omega (arith, found.ensures.within)) found.ensures.tight

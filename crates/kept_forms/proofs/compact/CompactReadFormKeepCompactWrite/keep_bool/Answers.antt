use Rattle.std.proofs.Common.{arith}
use Rattle.kept_forms.proofs.InCompact.{bool_kept}
use Rattle.kept_forms.proofs.compact.CompactReadFormKeepCompactWrite.keep_bool.Goals as goal

pub returns-clause-keeps : goal.returns-clause-keeps
returns-clause-keeps c = bool_kept c.args.frame.now c.args.at c.args.stand (omega arith) c.requires.apart (omega (arith, c.if-frame-at-eq0.false)) (omega arith)

use Rattle.std.proofs.Common.{arith}
use Rattle.kept_forms.proofs.InCompact.{double_kept}
use Rattle.kept_forms.proofs.compact.CompactReadFormKeepCompactWrite.keep_double.Goals as goal

pub returns-clause-keeps : goal.returns-clause-keeps
returns-clause-keeps c = double_kept c.args.frame.now c.args.at c.args.stand (omega arith)

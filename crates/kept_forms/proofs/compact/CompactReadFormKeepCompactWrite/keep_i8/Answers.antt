use Rattle.std.proofs.Common.{arith}
use Rattle.kept_forms.proofs.InCompact.{i8_kept}
use Rattle.kept_forms.proofs.compact.CompactReadFormKeepCompactWrite.keep_i8.Goals as goal

pub returns-clause-keeps : goal.returns-clause-keeps
returns-clause-keeps c = i8_kept c.args.frame.now c.args.at c.args.stand c.type_inv.frame (omega arith)

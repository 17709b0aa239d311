use Rattle.std.proofs.Common.{arith}
use Rattle.kept_forms.proofs.InCompact.{uuid_kept}
use Rattle.kept_forms.proofs.compact.CompactReadFormKeepCompactWrite.keep_uuid.Goals as goal

pub returns-clause-keeps : goal.returns-clause-keeps
returns-clause-keeps c = uuid_kept c.args.frame.now c.args.at c.args.stand (omega arith)

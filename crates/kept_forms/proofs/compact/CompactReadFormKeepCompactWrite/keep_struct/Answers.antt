use Rattle.kept_forms.proofs.InCompact.{struct_kept}
use Rattle.kept_forms.proofs.compact.CompactReadFormKeepCompactWrite.keep_struct.Goals as goal

pub returns-clause-keeps : goal.returns-clause-keeps
returns-clause-keeps c = struct_kept c.args.frame.now c.args.at c.args.stand

use Rattle.kept_forms.proofs.InCompact.{end_kept}
use Rattle.kept_forms.proofs.compact.CompactReadFormKeepCompactWrite.keep_end.Goals as goal

pub returns-clause-keeps : goal.returns-clause-keeps
returns-clause-keeps c = end_kept c.args.frame.now c.args.at c.args.container

use Rattle.kept_forms.proofs.InCompact.{i32_stands}
use Rattle.kept_forms.proofs.compact.CompactReadFormKeepCompactWrite.keep_i32.Goals as goal

pub returns-in-Some-clause-keeps : goal.returns-in-Some-clause-keeps
returns-in-Some-clause-keeps c = i32_stands c.args.frame.now c.args.at c.in-Some.count c.args.stand c.in-Some.ensures.stands

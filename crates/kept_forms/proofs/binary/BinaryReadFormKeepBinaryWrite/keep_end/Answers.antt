use Rattle.kept_forms.proofs.InBinary.{end_kept}
use Rattle.kept_forms.proofs.binary.BinaryReadFormKeepBinaryWrite.keep_end.Goals as goal

pub returns-clause-keeps : goal.returns-clause-keeps
returns-clause-keeps c = end_kept c.args.frame.now c.args.at c.args.container c.end.result c.type_inv.frame c.end.ensures.within c.end.ensures.steps

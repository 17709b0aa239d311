use Rattle.kept_forms.proofs.InBinary.{pairs_kept}
use Rattle.kept_forms.proofs.binary.BinaryReadFormKeepBinaryWrite.keep_pairs.Goals as goal

pub returns-clause-keeps : goal.returns-clause-keeps
returns-clause-keeps c = pairs_kept c.args.frame.now c.args.at c.args.stand c.pairs.result c.type_inv.frame c.pairs.ensures.past c.pairs.ensures.steps

use Rattle.kept_forms.proofs.InBinary.{elements_kept}
use Rattle.kept_forms.proofs.binary.BinaryReadFormKeepBinaryWrite.keep_elements.Goals as goal

pub returns-clause-keeps : goal.returns-clause-keeps
returns-clause-keeps c = elements_kept c.args.frame.now c.args.at c.args.stand c.args.container c.elements.result c.type_inv.frame c.requires.no_map c.elements.ensures.past c.elements.ensures.steps

use Rattle.kept_forms.proofs.InBinary.{struct_kept}
use Rattle.kept_forms.proofs.binary.BinaryReadFormKeepBinaryWrite.keep_struct.Goals as goal

pub returns-clause-keeps : goal.returns-clause-keeps
returns-clause-keeps c = struct_kept c.args.frame.now c.args.at c.args.stand c.struct_begin.result c.type_inv.frame c.struct_begin.ensures.within c.struct_begin.ensures.steps

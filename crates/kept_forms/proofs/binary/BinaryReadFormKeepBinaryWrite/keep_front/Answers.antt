use Rattle.std.proofs.Common.{Some, arith}
use Rattle.kept_forms.proofs.HeaderInBinary.{front_kept}
use Rattle.kept_forms.proofs.binary.BinaryReadFormKeepBinaryWrite.keep_front.Goals as goal

pub returns-clause-own : goal.returns-clause-own
returns-clause-own c = front_kept c.args.frame.now (Some c.in_ok-front.front) c.type_inv.frame (omega arith) (omega arith) c.in_ok-front.ensures.reads

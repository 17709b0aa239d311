use Rattle.std.proofs.Common.{arith}
use Rattle.kept_forms.proofs.InBinary.{flag_kept}
use Rattle.kept_forms.proofs.binary.BinaryReadFormKeepBinaryWrite.keep_flag.Goals as goal

pub returns-clause-keeps : goal.returns-clause-keeps
returns-clause-keeps c =
    let found = c.in_ok-end in
    flag_kept c.args.frame.now c.args.at c.args.behind found.end c.args.opening c.args.last c.args.id found.field-0-0 c.type_inv.frame (omega (arith, c.requires.0)) found.ensures.steps

use Rattle.std.specs.Int.{w16}
use Rattle.std.proofs.lemmas.Int.{to_z-of_z}
use Rattle.kept_forms.proofs.InBinary.{next_kept}
use Rattle.kept_forms.proofs.binary.BinaryReadFormKeepBinaryWrite.keep_next.Goals as goal

pub returns-clause-keeps : goal.returns-clause-keeps
returns-clause-keeps c =
    next_kept c.args.frame.now c.args.at c.args.opening c.args.last c.next_field.result c.type_inv.frame c.next_field.ensures.past (rw (to_z-of_z w16 c.args.last c.ranges.last) at c.next_field.ensures.steps)

use Rattle.std.proofs.Common.{arith, length}
use Rattle.std.proofs.lemmas.Grind.{common_steps}
use Rattle.http_front.proofs.Heads.{refused_never}
use Rattle.http_front.proofs.head.refuses.Goals as goal

pub returns-in-Err-clause-never : goal.returns-in-Err-clause-never
returns-in-Err-clause-never c = λ is. refused_never c.args.bytes.now (length c.args.fields.now) c.in-Err.field-0 c.requires.short c.requires.room c.in-Err.ensures.invalid c.in-Err.ensures.too_many

pub returns-in-Ok-clause-open : goal.returns-in-Ok-clause-open
returns-in-Ok-clause-open c = grind (arith, common_steps)

pub returns-in-Err-clause-open : goal.returns-in-Err-clause-open
returns-in-Err-clause-open c = grind (arith, common_steps)

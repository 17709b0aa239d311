use Rattle.std.proofs.Common.{inr, length}
use Rattle.http_front.proofs.Heads.{refused_never}
use Rattle.http_front.proofs.head.read_head.Goals as goal

pub returns-in-Err : goal.returns-in-Err
returns-in-Err c = inr (refused_never c.args.bytes.now (length c.args.fields.now) c.in-Err.field-0 c.requires.short c.requires.room c.in-Err.ensures.invalid c.in-Err.ensures.too_many)

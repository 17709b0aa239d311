use Rattle.std.proofs.Common.{arith}
use Rattle.message_show.proofs.Bytes.{text_at, length_at}
use Rattle.message_show.proofs.printed.printed.Goals as goal

pub returns-clause-text : goal.returns-clause-text
returns-clause-text c = text_at c.args.byte (omega arith)

pub returns-clause-short : goal.returns-clause-short
returns-clause-short c = length_at c.args.byte (omega arith)

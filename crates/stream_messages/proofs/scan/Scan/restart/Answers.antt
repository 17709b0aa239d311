use Rattle.std.proofs.Common.{arith}
use Rattle.stream_messages.proofs.Taking.{begun}
use Rattle.stream_messages.proofs.scan.Scan.restart.Goals as goal

pub returns-clause-read : goal.returns-clause-read
returns-clause-read c = rw (c.first_part-self-inside.ensures, c.restart.ensures) (begun _ _ c.requires (omega arith))

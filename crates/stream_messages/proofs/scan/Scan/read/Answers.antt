use Rattle.std.proofs.Common.{arith, subst, sym}
use Rattle.stream_messages.specs.declared.scan.Taken.{Taken}
use Rattle.stream_messages.specs.Scanning.{Scanning}
use Rattle.stream_messages.specs.Feeding.{TakesOne}
use Rattle.stream_messages.proofs.Taking.{takes_law}
use Rattle.stream_messages.proofs.scan.Scan.read.Goals as goal

pub returns : goal.returns
returns c = λ front read.
    subst (λ (y : Taken × Scanning). TakesOne c.args.self.now front c.args.byte y.0 y.1) (sym c.take.ensures)
    (takes_law c.args.self.now front c.args.byte (omega (arith, c.ranges.byte)) read)

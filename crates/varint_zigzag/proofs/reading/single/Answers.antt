use Rattle.std.proofs.Common.{arith}
use Rattle.std.proofs.lemmas.Bool.Decides.{nat_tests}
use Rattle.varint_zigzag.proofs.Carrying.{single_front}
use Rattle.varint_zigzag.proofs.reading.single.Goals as goal

pub returns-then-first-lt128-clause-found : goal.returns-then-first-lt128-clause-found
returns-then-first-lt128-clause-found c = single_front c.args.bytes.now (grind (arith, nat_tests)) c.if-first-lt128.true

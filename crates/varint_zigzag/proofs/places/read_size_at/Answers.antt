use Rattle.std.proofs.Common.{arith}
use Rattle.varint_zigzag.proofs.Carrying.{single_there}
use Rattle.varint_zigzag.proofs.Fronts.{told_at}
use Rattle.varint_zigzag.proofs.places.read_size_at.Goals as goal

pub returns-then-first-lt128-clause-exact : goal.returns-then-first-lt128-clause-exact
returns-then-first-lt128-clause-exact c = rw (c.from.ensures) (told_at c.args.at _ _ _ (single_there c.args.at c.args.bytes.now (omega arith) (omega arith) 5 32 (omega arith) (omega arith)))

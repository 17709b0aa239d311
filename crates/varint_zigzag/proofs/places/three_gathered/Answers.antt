use Rattle.std.proofs.Common.{arith, ◌/◌}
use Rattle.std.proofs.lemmas.Nat.{and_mask}
use Rattle.std.proofs.lemmas.Nat.Bits.{and_high}
use Rattle.varint_zigzag.proofs.places.three_gathered.Goals as goal

pub returns : goal.returns
returns c = omega (arith, and_mask c.args.own 7, and_high (c.args.own / 2) 7 7, and_high (c.args.own / 4) 2 14)

use Rattle.std.proofs.Common.{arith}
use Rattle.varint_zigzag.proofs.Meaning.{found_of, short_of, bad_of}
use Rattle.varint_zigzag.proofs.reading.read_u64.Goals as goal
use Rattle.std.proofs.lemmas.Grind.{common_steps}

pub returns-clause-found : goal.returns-clause-found
returns-clause-found c = found_of 10 64 c.args.bytes.now c.read_groups.result (λ k. omega (arith, c.type_inv.bytes k)) c.read_groups.ensures

pub returns-clause-short : goal.returns-clause-short
returns-clause-short c = short_of 10 64 c.args.bytes.now c.read_groups.result (λ k. omega (arith, c.type_inv.bytes k)) c.read_groups.ensures

pub returns-clause-bad : goal.returns-clause-bad
returns-clause-bad c = bad_of 10 64 c.args.bytes.now c.read_groups.result (λ k. omega (arith, c.type_inv.bytes k)) c.read_groups.ensures

pub returns-clause-within : goal.returns-clause-within
returns-clause-within c = grind (arith, common_steps)

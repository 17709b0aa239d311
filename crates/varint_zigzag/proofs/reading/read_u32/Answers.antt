use Rattle.std.proofs.Common.{arith, Ok, Err}
use Rattle.varint_zigzag.proofs.Meaning.{found_of, short_of, bad_of}
use Rattle.varint_zigzag.proofs.reading.read_u32.Goals as goal

pub returns-in-Ok-clause-found : goal.returns-in-Ok-clause-found
returns-in-Ok-clause-found c = found_of 5 32 c.args.bytes.now (Ok (c.in-Ok.number, c.in-Ok.used)) (λ k. omega (arith, c.type_inv.bytes k)) c.in-Ok.ensures

pub returns-in-Err-clause-short : goal.returns-in-Err-clause-short
returns-in-Err-clause-short c = short_of 5 32 c.args.bytes.now (Err c.in-Err.fault) (λ k. omega (arith, c.type_inv.bytes k)) c.in-Err.ensures

pub returns-in-Err-clause-bad : goal.returns-in-Err-clause-bad
returns-in-Err-clause-bad c = bad_of 5 32 c.args.bytes.now (Err c.in-Err.fault) (λ k. omega (arith, c.type_inv.bytes k)) c.in-Err.ensures

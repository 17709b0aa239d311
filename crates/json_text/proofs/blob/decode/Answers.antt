use Rattle.std.proofs.Common.{arith, length-take, ℕ}
use Rattle.json_text.proofs.Blobs.{decoded_ok, decoded_err}
use Rattle.json_text.specs.Lengths.{decoded_long}
use Rattle.json_text.proofs.blob.decode.Goals as goal

pub returns-in-Ok-clause-value : goal.returns-in-Ok-clause-value
returns-in-Ok-clause-value c = (decoded_ok c.args.symbols.now _ (λ e. omega arith) c.in-Ok.ensures.ok.0, omega (arith, c.in-Ok.ensures.ok.2, c.decode_slice_unchecked.auto.output))

pub returns-in-Err-clause-value : goal.returns-in-Err-clause-value
returns-in-Err-clause-value c = decoded_err c.args.symbols.now _ (λ e. omega arith) c.in-Err.ensures.err

pub returns-in-Ok-clause-short : goal.returns-in-Ok-clause-short
returns-in-Ok-clause-short c =
    let long = decoded_long _ _ (decoded_ok c.args.symbols.now _ (λ e. omega arith) c.in-Ok.ensures.ok.0) in
    omega (arith, long, length-take {A = ℕ}, c.in-Ok.ensures.ok.2, c.decode_slice_unchecked.auto.output)

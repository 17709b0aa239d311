use Rattle.std.proofs.Common.{◌+◌, ◌-◌, ◌%◌, arith, cond, not, eqb, ℕ}
use Rattle.std.proofs.lemmas.Simd.{zip2_splat}
use Rattle.json_text.specs.Blob.{is_no_symbol}
use lib.Bits.{bit_and, bit_or}
use Rattle.json_text.proofs.Lanes.{at_most, lanes, with_splat, from_splat, masked}
use Rattle.json_text.proofs.run.no_symbols.Goals as goal

abbrev less : ℕ → ℕ → ℕ
less a b = (a + (256 - b)) % 256

abbrev other : ℕ → ℕ → ℕ
other a b = cond (not (eqb a b)) 255 0

pub returns : goal.returns
returns c =
    let v = c.args.block in
    let long = c.fits-block.0 in
    let letters = from_splat at_most _ 26 32 v long (with_splat less _ 97 32 v long (zip2_splat bit_or v 32 32 long)) in
    let digits = from_splat at_most _ 10 32 v long (zip2_splat less v 32 48 long) in
    masked _ is_no_symbol v _ (omega arith) c.fits-block.1
    (lanes bit_and _ _ v (lanes bit_and _ _ v (lanes bit_and _ _ v letters digits) (zip2_splat other v 32 43 long)) (zip2_splat other v 32 47 long)) tt

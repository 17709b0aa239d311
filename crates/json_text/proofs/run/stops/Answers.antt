use Rattle.std.proofs.Common.{arith}
use Rattle.std.proofs.lemmas.Simd.{zip2_splat}
use Rattle.json_text.specs.Text.{is_stop}
use lib.Bits.{bit_or}
use Rattle.json_text.proofs.Lanes.{hit, below, lanes, masked}
use Rattle.json_text.proofs.run.stops.Goals as goal

pub returns : goal.returns
returns c =
    let v = c.args.block in
    let long = c.fits-block.0 in
    masked _ is_stop v _ (omega arith) c.fits-block.1 (lanes bit_or _ _ v (lanes bit_or _ _ v (zip2_splat hit v 32 34 long) (zip2_splat hit v 32 92 long)) (zip2_splat below v 32 32 long)) tt

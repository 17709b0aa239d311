use Rattle.std.proofs.Common.{arith}
use Rattle.std.proofs.lemmas.Simd.{zip2_splat_left}
use Rattle.json_text.specs.Places.{is_high}
use Rattle.json_text.proofs.Lanes.{at_most, masked}
use Rattle.json_text.proofs.places.highs.Goals as goal

pub returns : goal.returns
returns c = let v = c.args.block in masked _ is_high v _ (omega arith) c.fits-block.1 (zip2_splat_left at_most 128 32 v c.fits-block.0) tt

use Rattle.json_text.proofs.DigitLanes.{digits_are}
use Rattle.json_text.proofs.lay.digits.Goals as goal

pub returns : goal.returns
returns c = digits_are c.args.pairs c.fits-pairs.0 c.requires

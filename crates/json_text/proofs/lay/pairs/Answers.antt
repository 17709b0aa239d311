use Rattle.json_text.proofs.DigitLanes.{pairs_are}
use Rattle.json_text.proofs.lay.pairs.Goals as goal

pub returns : goal.returns
returns c = pairs_are c.args.fours c.fits-fours.0 c.requires

use Rattle.std.proofs.Common.{◌/◌, ◌%◌, arith}
use Rattle.json_text.specs.Digits.{parted}
use Rattle.json_text.proofs.DigitLanes.{fours_are}
use Rattle.json_text.proofs.lay.fours.Goals as goal

pub returns : goal.returns
unfolding parted
returns c = fours_are (c.args.value / 100000000) (c.args.value % 100000000) (omega arith) (omega arith)

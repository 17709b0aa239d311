use Rattle.std.proofs.Common.{arith}
use Rattle.json_text.proofs.DigitCounts.{counted}
use Rattle.json_text.proofs.lay.digit_count.Goals as goal

pub returns : goal.returns
returns c = counted c.ilog10.result c.args.value c.ilog10.ensures.power_le c.ilog10.ensures.next_power_gt (omega arith)

use Rattle.json_text.proofs.PlainInts.{run_ends, number_made}
use Rattle.std.proofs.Common.{arith}
use Rattle.json_text.proofs.places.digits_here.Goals as goal

pub returns-clause-run : goal.returns-clause-run
returns-clause-run c = let d = c.read_digits-end in run_ends c.args.bytes.now c.args.at d.result.0 d.ensures.«end»

pub returns-clause-value : goal.returns-clause-value
returns-clause-value c = let d = c.read_digits-end in number_made c.args.bytes.now c.args.at d.result.0 d.result.1 (omega arith) d.ensures.«end» d.ensures.within (omega arith) d.ensures.value

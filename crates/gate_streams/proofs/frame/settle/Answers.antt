use Rattle.gate_streams.proofs.Treating.{passed_is_handled, broken_is_handled}
use Rattle.gate_streams.proofs.frame.settle.Goals as goal

pub returns-in-Passed-clause-handled : goal.returns-in-Passed-clause-handled
returns-in-Passed-clause-handled c t w w' p p' treated = passed_is_handled c.args.number t w w' p p' c.args.lines.now (rw c.in-Passed.is at treated)

pub returns-in-WriteFault-clause-handled : goal.returns-in-WriteFault-clause-handled
returns-in-WriteFault-clause-handled c t w w' p p' treated = broken_is_handled c.args.number t _ w w' p p' c.args.lines.now c.args.lines.now (rw c.in-WriteFault.is at treated)

use Rattle.std.proofs.Common.{arith, rules}
use Rattle.gate_io.proofs.Windows.{patched}
use Rattle.gate_io.proofs.buffer.write_four.Goals as goal

pub returns : goal.returns
returns c = rw c.copy_from_slice.ensures.after (patched c.args.cells.now c.args.four c.args.start c.args.len c.args.at _ c.requires.window c.requires.inside (omega arith) (search rules))

use Rattle.std.proofs.Common.{arith, refl}
use Rattle.gate_io.proofs.Windows.{pushed}
use Rattle.gate_io.proofs.buffer.append.Goals as goal

pub returns : goal.returns
returns c = rw c.copy_from_slice.ensures.after (record { appended = pushed c.args.cells.now c.args.from.now c.args.start c.args.len _ _ (omega (arith, c.requires.tail)) refl })

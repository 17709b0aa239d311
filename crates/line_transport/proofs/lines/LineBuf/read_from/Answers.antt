use Rattle.std.proofs.Common.{arith}
use Rattle.line_transport.proofs.Searching.{searched_on}
use Rattle.line_transport.proofs.lines.LineBuf.read_from.Goals as goal

pub invariant_of-self : goal.invariant_of-self
invariant_of-self g c = grind (arith, searched_on)

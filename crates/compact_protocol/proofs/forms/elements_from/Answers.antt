use Rattle.std.proofs.Common.{arith}
use Rattle.compact_protocol.specs.Forms.{short_elements, long_elements}
use Rattle.compact_protocol.proofs.forms.elements_from.Goals as goal

pub returns-then-short-lt15 : goal.returns-then-short-lt15
returns-then-short-lt15 c = short_elements c.args.frame.now c.args.at _ c.in_ok-kind.kind (omega arith) c.in_ok-kind.ensures (omega (arith, c.from.ensures)) (omega (arith, c.from.ensures))

pub returns : goal.returns
returns c = long_elements c.args.frame.now c.args.at c.in_ok-size.size c.in_ok-size.behind c.in_ok-kind.kind (omega arith) c.in_ok-kind.ensures (omega arith) c.in_ok-size.ensures.found

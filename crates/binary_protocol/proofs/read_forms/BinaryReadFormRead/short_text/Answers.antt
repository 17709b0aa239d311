use Rattle.std.proofs.Common.{arith}
use Rattle.protocol_traits.specs.Forms.{part}
use Rattle.binary_protocol.proofs.Places.{text_seen}
use Rattle.binary_protocol.proofs.read_forms.BinaryReadFormRead.short_text.Goals as goal

pub returns-clause-steps : goal.returns-clause-steps
returns-clause-steps c = λ opening nest known plain.
    text_seen c.args.frame.now (part c.args.frame.now c.in_ok-begin.begin c.in_ok-begin.behind) c.args.at c.in_ok-begin.behind c.args.stand (omega (arith, c.in_ok-begin.ensures.place.0, c.in_ok-begin.ensures.place.1))
    c.in_ok-begin.ensures.found opening nest known

use Rattle.std.proofs.Common.{arith}
use Rattle.protocol_traits.specs.Heads.{header_of}
use Rattle.json_protocol.specs.ReadForms.{front_read}
use Rattle.json_protocol.proofs.read_forms.JsonReadFormRead.front.Goals as goal

pub returns-clause-reads : goal.returns-clause-reads
returns-clause-reads c = front_read c.args.frame.now (header_of c.in_ok-head.head) c.in_ok-head.behind c.in_ok-head.ensures

pub returns-clause-sized : goal.returns-clause-sized
returns-clause-sized c = let h = c.in_ok-head.ensures in omega (arith, h.short, h.within, c.requires.size)

pub returns-clause-place : goal.returns-clause-place
returns-clause-place c = let h = c.in_ok-head.ensures in (h.short, omega (arith, h.within))

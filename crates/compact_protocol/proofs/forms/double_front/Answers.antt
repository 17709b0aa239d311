use Rattle.std.proofs.Common.{arith}
use Rattle.compact_protocol.specs.Forms.{double_there}
use Rattle.compact_protocol.proofs.forms.double_front.Goals as goal

pub returns : goal.returns
returns c = (double_there c.args.bytes.now c.from_le_bytes.result (omega arith) c.type_inv.bytes (omega (arith, c.from_le_bytes.ensures)), omega arith)

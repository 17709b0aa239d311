use Rattle.compact_protocol.specs.Forms.{struct_read}
use Rattle.compact_protocol.proofs.read_forms.CompactReadFormRead.struct_begin.Goals as goal

pub returns-clause-steps : goal.returns-clause-steps
returns-clause-steps c = struct_read c.args.frame.now c.args.at c.args.stand

use Rattle.binary_protocol.specs.Forms.{struct_read}
use Rattle.binary_protocol.proofs.read_forms.BinaryReadFormRead.struct_begin.Goals as goal

pub returns-clause-steps : goal.returns-clause-steps
returns-clause-steps c = struct_read c.args.frame.now c.args.at c.args.stand

use Rattle.compact_protocol.specs.Forms.{end_read}
use Rattle.compact_protocol.proofs.read_forms.CompactReadFormRead.end.Goals as goal

pub returns-clause-steps : goal.returns-clause-steps
returns-clause-steps c = end_read c.args.frame.now c.args.at c.args.container

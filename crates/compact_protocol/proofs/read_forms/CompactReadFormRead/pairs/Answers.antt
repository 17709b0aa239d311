use Rattle.compact_protocol.specs.Forms.{pairs_seen}
use Rattle.compact_protocol.proofs.read_forms.CompactReadFormRead.pairs.Goals as goal

pub returns-clause-steps : goal.returns-clause-steps
returns-clause-steps c = pairs_seen c.args.frame.now c.args.at c.args.stand c.pairs_from.result c.pairs_from.ensures.found

use Rattle.binary_protocol.proofs.Places.{pairs_long, pairs_past, pairs_seen}
use Rattle.binary_protocol.proofs.read_forms.BinaryReadFormRead.pairs.Goals as goal

pub returns-clause-past : goal.returns-clause-past
returns-clause-past c = pairs_past c.args.frame.now c.args.at c.pairs_from.result c.requires c.pairs_from.ensures.place c.pairs_from.ensures.found

pub returns-clause-long : goal.returns-clause-long
returns-clause-long c = pairs_long c.args.at c.pairs_from.result c.pairs_from.ensures.place

pub returns-clause-steps : goal.returns-clause-steps
returns-clause-steps c = pairs_seen c.args.frame.now c.args.at c.args.stand c.pairs_from.result c.pairs_from.ensures.place c.pairs_from.ensures.found

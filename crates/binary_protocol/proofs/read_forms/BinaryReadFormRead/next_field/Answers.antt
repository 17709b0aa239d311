use Rattle.binary_protocol.proofs.Places.{lead_goes, lead_seen}
use Rattle.binary_protocol.proofs.read_forms.BinaryReadFormRead.next_field.Goals as goal

pub returns-clause-past : goal.returns-clause-past
returns-clause-past c = lead_goes c.args.frame.now c.args.at c.lead_from.result c.requires c.lead_from.ensures.within c.lead_from.ensures.found

pub returns-clause-steps : goal.returns-clause-steps
returns-clause-steps c = lead_seen c.args.frame.now c.args.at c.args.opening c.args.last c.lead_from.result c.lead_from.ensures.within c.lead_from.ensures.found

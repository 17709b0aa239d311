use Rattle.binary_protocol.proofs.Places.{elements_past, elements_seen}
use Rattle.binary_protocol.proofs.read_forms.BinaryReadFormRead.elements.Goals as goal

pub returns-clause-past : goal.returns-clause-past
returns-clause-past c = elements_past c.args.frame.now c.args.at c.elements_from.result c.requires.place c.elements_from.ensures.place c.elements_from.ensures.found

pub returns-clause-steps : goal.returns-clause-steps
returns-clause-steps c =
    elements_seen c.args.frame.now c.args.at c.args.stand c.args.container c.elements_from.result c.requires.no_map c.elements_from.ensures.place c.elements_from.ensures.found

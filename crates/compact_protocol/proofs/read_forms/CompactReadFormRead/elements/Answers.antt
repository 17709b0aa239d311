use Rattle.compact_protocol.specs.Forms.{elements_seen}
use Rattle.compact_protocol.proofs.read_forms.CompactReadFormRead.elements.Goals as goal

pub returns-clause-steps : goal.returns-clause-steps
returns-clause-steps c = elements_seen c.args.container c.args.frame.now c.args.at c.args.stand c.elements_from.result c.requires.no_map c.elements_from.ensures

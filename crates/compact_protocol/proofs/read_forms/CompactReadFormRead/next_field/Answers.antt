use Rattle.std.specs.Int.{w16}
use Rattle.std.proofs.lemmas.Int.{to_z-of_z}
use Rattle.compact_protocol.specs.Forms.{field_seen}
use Rattle.compact_protocol.proofs.read_forms.CompactReadFormRead.next_field.Goals as goal

pub returns-clause-steps : goal.returns-clause-steps
returns-clause-steps c = field_seen c.args.frame.now c.args.at c.args.opening c.args.last c.lead_from.result (rw (to_z-of_z w16 c.args.last c.ranges.last) at c.lead_from.ensures)

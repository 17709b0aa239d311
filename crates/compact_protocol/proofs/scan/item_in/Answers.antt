use Rattle.compact_protocol.specs.Laws.{seen_sized, sized_value, sized_next, sized_field_value}
use Rattle.compact_protocol.proofs.scan.item_in.Goals as goal

pub returns-in-Value-clause-sized : goal.returns-in-Value-clause-sized
returns-in-Value-clause-sized c = λ small. seen_sized c.field_value.result _ c.field_value.ensures.exact (sized_field_value _ _ _ _ small)

pub returns-in-Elements-clause-sized : goal.returns-in-Elements-clause-sized
returns-in-Elements-clause-sized c = λ small. seen_sized c.next_of.result _ c.next_of.ensures.exact (sized_next _ _ _ _ small)

pub returns-in-Keys-clause-sized : goal.returns-in-Keys-clause-sized
returns-in-Keys-clause-sized c = λ small. seen_sized c.next_of-in-Keys.result _ c.next_of-in-Keys.ensures.exact (sized_next _ _ _ _ small)

pub returns-in-Values-clause-sized : goal.returns-in-Values-clause-sized
returns-in-Values-clause-sized c = λ small. seen_sized c.value_in.result _ c.value_in.ensures.exact (sized_value _ _ _ small)

-- The fields that an item in the code has.
use Rattle.std.specs.Prelude.{List, map}
use Rattle.drill_messages.specs.declared.item.Item.{Item}
use Rattle.drill_messages.specs.Events.{Events, body_events}
use Rattle.drill_messages.specs.Messages.{Fields}

abbrev pub fields_of : Item → Fields
fields_of i = record { id = i.id; name = i.name.items; raw = i.raw.items; marks = i.marks.items; flags = i.flags.items }

abbrev pub all_fields : List Item → List Fields
all_fields items = map fields_of items

-- the events of a message with these items
abbrev pub events_of : List Item → Events
events_of items = body_events (all_fields items)

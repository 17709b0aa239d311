-- What is known of the positions of a body's items.
use Rattle.thrift_value.specs.Items.{Item}
use Rattle.protocol_traits.specs.declared.proto.Hint.{Hint}
use Rattle.protocol_traits.specs.declared.proto.Mark.{Mark}
use Rattle.type_walk.specs.Positions.{Position, hint_of, mark_of, after}

-- how a string that stands next is read, what is known where an item stands, and the position behind it
pub record Positions (P : Type 0) : Type 0 where
  pub hint : P → Hint
  pub mark : P → Item → Mark
  pub after : P → Item → P

-- the positions that an IDL declares
abbrev pub typed : Positions Position
typed = record { hint = hint_of; mark = mark_of; after = after }

-- The plain spellings of a message in the three protocols.
use Rattle.std.specs.Prelude.{ℕ, pos, List, [], ◌∷◌, ◌++◌}
use Rattle.thrift_value.specs.Items.{Item}
use Rattle.protocol_traits.specs.declared.proto.Mark.{Mark}
use Rattle.protocol_traits.specs.Follow.{depth_after}
use Rattle.binary_protocol.specs.declared.writer.BinaryWrite.{BinaryWrite}
use Rattle.binary_protocol.specs.Plain as binary
use Rattle.compact_protocol.specs.Plain as compact
use Rattle.json_protocol.specs.Writing as json
use Rattle.drill_messages.specs.Events.{Events, call, body_events}
use Rattle.drill_messages.specs.Messages.{Put}

module _ {T : Type 0} (plain : T → Item → Mark → List ℕ) (after : T → Item → Mark → T) where
  -- events one after another, by a writer that begins as it is here, and the writer behind them
  abbrev pub spelled : T → Events → List ℕ
  spelled writer [] = []
  spelled writer (e ∷ es) = plain writer e.0 e.1 ++ spelled (after writer e.0 e.1) es

  abbrev pub behind : T → Events → T
  behind writer [] = writer
  behind writer (e ∷ es) = behind (after writer e.0 e.1) es

-- each protocol's header and events, by its own definitions
unfoldable pub binary_of : Put → List ℕ
binary_of m =
    let begun : BinaryWrite = record { depth = 1 } in
    binary.plain_head (call (pos m.seq))
    ++ spelled (λ s item mark. binary.plain item mark) (λ s item mark. record { depth = depth_after item s.depth }) begun (body_events m.items)

unfoldable pub compact_of : Put → List ℕ
compact_of m =
    compact.head_spelling (call (pos m.seq))
    ++ spelled (λ w item mark. compact.spelling w item) (λ w item mark. compact.follows w item) compact.begun (body_events m.items)

unfoldable pub json_of : Put → List ℕ
json_of m = json.plain_head (call (pos m.seq)) ++ spelled json.plain json.after json.begun (body_events m.items)

-- The first thing in a message that a protocol can't hold, and where it stands in the frame.
use Rattle.std.specs.Prelude.{◌≡◌, ◌⊎◌, ℕ, pos, ◌+◌, ◌*◌, List, [], ◌∷◌, ◌++◌, length, Option, None, Some}
use Rattle.std.specs.Int.{w32, cast_unsigned}
use Rattle.varint_zigzag.specs.Varint.{Spells}
use Rattle.thrift_value.specs.Items.{Item}
use Rattle.thrift_value.specs.Trees.{Message, items_of_members}
use Rattle.protocol_traits.specs.declared.fault.Bar.{Bar}
use Rattle.protocol_traits.specs.declared.nest.Slot.{Slot}
use Rattle.protocol_traits.specs.declared.nest.Slot.TheVariants as slots
use Rattle.protocol_traits.specs.declared.proto.Mark.{Mark}
use Rattle.protocol_traits.specs.declared.proto.Proto.{Proto}
use Rattle.protocol_traits.specs.declared.proto.Proto.TheVariants as protocols
use Rattle.type_tables.specs.Declarations.{Declarations}
use Rattle.type_walk.specs.Positions.{Position, mark_of}
use Rattle.translate_verdicts.specs.declared.route.Route.{Route}
use Rattle.translate_verdicts.specs.Routes.{start_of}
use Rattle.translate_core.specs.Answers.{TakesAll, marked}
use Rattle.binary_protocol.specs.Grammar.{SpellsStrictHeader, SpellsOldHeader}
use Rattle.binary_protocol.specs.Plain as binary
use Rattle.compact_protocol.specs.Codes.{type_code}
use Rattle.compact_protocol.specs.Grammar.{IsString, SpellsHeader}
use Rattle.compact_protocol.specs.Plain as compact
use Rattle.json_protocol.specs.Writing as json
use Rattle.binary_laws.specs.Called.{width_of_all}
use Rattle.binary_laws.specs.Reads.{header_of_message}
use Rattle.compact_laws.specs.Fronts.{Leads}
use Rattle.json_laws.specs.Fronts.{NameStands, ValueStands}
use Rattle.verdict_laws.specs.Following.{behind}

-- the name of a message, or the item of its body that stands behind these
pub data Spot : Type 0 where
  the_name : Spot
  behind_items : List Item → Spot

-- what a protocol can't hold of a name
abbrev pub name_bar_in : Proto → List ℕ → Option Bar
name_bar_in protocols.Binary name = None
name_bar_in protocols.Compact name = None
name_bar_in protocols.Json name = json.name_bar name

-- and of an item, where this is known of its position
abbrev pub bar_in : Proto → Item → Mark → Option Bar
bar_in protocols.Binary item mark = binary.bar item mark
bar_in protocols.Compact item mark = compact.bar item
bar_in protocols.Json item mark = json.bar item mark

-- what is known of the beginning of the message's body
abbrev pub body_start : Declarations → Route → Message → Position
body_start d route m = start_of d route (header_of_message m)

-- the protocol holds the whole message
abbrev pub HoldsAll : Proto → Declarations → Route → Message → Type 0
HoldsAll to d route m = (name_bar_in to m.name ≡ None) × TakesAll (bar_in to) (marked (body_start d route m) (items_of_members m.body))

-- the first spot of the message that the protocol can't hold: the name goes before the items, and these in order
pub data IsFirstBar (to : Proto) (d : Declarations) (route : Route) (m : Message) : Spot → Bar → Type 0 where
  OfName : (bar : Bar) → name_bar_in to m.name ≡ Some bar → IsFirstBar to d route m the_name bar
  OfItem : (before rest : List Item) (item : Item) (bar : Bar) → name_bar_in to m.name ≡ None → items_of_members m.body ≡ before ++ item ∷ rest
      → TakesAll (bar_in to) (marked (body_start d route m) before) → bar_in to item (mark_of (behind (body_start d route m) before) item) ≡ Some bar
      → IsFirstBar to d route m (behind_items before) bar

-- In a frame of Binary a name stands behind the first four bytes of a strict header, or at the front of an old one; an item stands behind
-- the header and the items before it.
abbrev pub BinaryPlace : Message → List ℕ → Spot → ℕ → Type 0
BinaryPlace m frame the_name place =
    (header : List ℕ) × (body : List ℕ) × (frame ≡ header ++ body) × ((SpellsStrictHeader m header × (place ≡ 4)) ⊎ (SpellsOldHeader m header × (place ≡ 0)))
BinaryPlace m frame (behind_items before) place =
    (header : List ℕ) × (body : List ℕ) × (frame ≡ header ++ body) × (SpellsStrictHeader m header ⊎ SpellsOldHeader m header) × (place ≡ length header + width_of_all before)

-- In one of Compact a name stands behind the first two bytes of the header and the sequence number, and an item likewise.
abbrev pub CompactPlace : Message → List ℕ → Spot → ℕ → Type 0
CompactPlace m frame the_name place =
    (header : List ℕ) × (body : List ℕ) × (number : List ℕ) × (text : List ℕ) × (frame ≡ header ++ body) × Spells 5 32 number (cast_unsigned w32 m.seq) × IsString m.name text
    × (header ≡ 130 ∷ (32 * type_code m.mtype + 1) ∷ (number ++ text)) × (place ≡ length number + 2)
CompactPlace m frame (behind_items before) place =
    (header : List ℕ) × (front : List ℕ) × (left : List ℕ) × (levels : List Slot) × (frame ≡ header ++ (front ++ left)) × SpellsHeader m header
    × Leads (slots.Fields (pos 0) ∷ []) before front levels × (place ≡ length header + length front)

-- In one of JSON a name stands behind the bracket, the version and a comma. An item of which something is barred is a value, or begins one: it
-- stands behind the header, the items before it, and the marks that lead to it.
abbrev pub JsonPlace : Declarations → Route → Message → List ℕ → Spot → ℕ → Type 0
JsonPlace d route m frame the_name place = NameStands m.name frame place
JsonPlace d route m frame (behind_items before) place = ValueStands (body_start d route m) (header_of_message m) before frame place

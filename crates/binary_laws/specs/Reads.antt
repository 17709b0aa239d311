-- A whole frame that is read, call by call: a header, the items of a body, and the end.
use Rattle.std.specs.Prelude.{◌≡◌, ℕ, List, [], ◌∷◌, Ok}
use Rattle.thrift_value.specs.Items.{Item}
use Rattle.thrift_value.specs.Trees.{Message, items_of_members}
use Rattle.protocol_traits.specs.Heads.{Header}
use Rattle.binary_protocol.specs.Reading.{State, begun, reads, reads_head, reads_end}

abbrev pub header_of_message : Message → Header
header_of_message m = record { name = m.name; mtype = m.mtype; seq = m.seq }

-- item after item, from one state to another
abbrev pub Reads : State → List Item → State → Type 0
Reads s [] last = s ≡ last
Reads s (item ∷ items) last = (next : State) × (reads s ≡ Ok (item, next)) × Reads next items last

-- the header, the items and the end, and nothing behind
abbrev pub IsRead : List ℕ → Header → List Item → Type 0
IsRead frame header items =
    (first : State) × (last : State) × (reads_head (begun frame) ≡ Ok (header, first)) × Reads first items last × (reads_end last ≡ Ok (tt, last))

-- the header and the items of this message
abbrev pub IsReadAs : Message → List ℕ → Type 0
IsReadAs m frame = IsRead frame (header_of_message m) (items_of_members m.body)

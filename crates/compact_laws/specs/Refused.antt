-- A frame that is refused, and a front of a message.
use Rattle.std.specs.Prelude.{◌≡◌, ◌⊎◌, ℕ, List, [], ◌++◌, Ok, Err}
use Rattle.thrift_value.specs.Items.{Item}
use Rattle.thrift_value.specs.Trees.{Message}
use Rattle.protocol_traits.specs.declared.fault.Fault.{Fault}
use Rattle.protocol_traits.specs.Heads.{Header}
use Rattle.compact_protocol.specs.Grammar.{CompactSpells}
use Rattle.compact_protocol.specs.Reading.{State, begun, reads, reads_head, reads_end}
use Rattle.compact_laws.specs.Reads.{Reads}

-- some message, of any depth, begins with these bytes
abbrev pub IsViable : List ℕ → Type 0
IsViable front = (more : List ℕ) × (m : Message) × CompactSpells m (front ++ more)

-- the next call answers a fault: for an item where a level is open, else for the end
abbrev pub Refuses : State → Fault → Type 0
Refuses s f = ((s.nest ≡ [] → ⊥) × (reads s ≡ Err f)) ⊎ ((s.nest ≡ []) × (reads_end s ≡ Err f))

-- the header is a fault, or a call behind it is
abbrev pub IsRefused : List ℕ → Fault → Type 0
IsRefused frame f =
    (reads_head (begun frame) ≡ Err f)
    ⊎ ((header : Header) × (items : List Item) × (first : State) × (last : State) × (reads_head (begun frame) ≡ Ok (header, first)) × Reads first items last × Refuses last f)

-- What a front of a stream is, as the protocol's own reader finds it: a message and nothing more, the beginning of one, or
-- neither. The laws of the protocols say what these are in the words of their grammars.
use Rattle.std.specs.Prelude.{◌≡◌, ◌⊎◌, ℕ, pos, List, [], ◌∷◌, length, drop, Ok, Err, Bool, false}
use Rattle.thrift_value.specs.Items.{Item}
use Rattle.protocol_traits.specs.declared.fault.Fault.{Fault}
use Rattle.protocol_traits.specs.declared.fault.Reason.TheVariants as reasons
use Rattle.protocol_traits.specs.declared.nest.Slot.{Slot}
use Rattle.protocol_traits.specs.declared.nest.Slot.TheVariants as slots
use Rattle.protocol_traits.specs.Follow.{after}
use Rattle.protocol_traits.specs.Heads.{Header}
use Rattle.protocol_traits.specs.Stack.{first_of}
use Rattle.protocol_traits.specs.Steps.{Step}
use Rattle.binary_protocol.specs.Heads as of_binary
use Rattle.binary_protocol.specs.Reading as binary_items
use Rattle.compact_protocol.specs.Scan.{◌>>=◌, front_at, shifted, string_at, flag_of}
use Rattle.compact_protocol.specs.Reading as compact_items
use Rattle.stream_messages.specs.declared.scan.Wire.{Wire}
use Rattle.stream_messages.specs.declared.scan.Wire.TheVariants as wires

-- A whole message with nothing behind it; the beginning of a message, which lacks some bytes; or what no message begins with, or
-- what calls for a value that lies too deep.
pub data Found : Type 0 where
  whole : Found
  cut : Found
  bad : Found

-- the header that bytes begin with, and how many bytes it has, or its fault
abbrev pub head_at : Wire → List ℕ → Step ℕ Header
head_at wires.Binary bytes = of_binary.head_at bytes
head_at wires.Compact bytes =
    front_at bytes >>= λ front.
    shifted front.1 (string_at (drop front.1 bytes)) >>= λ name.
    Ok (record { name = name.0; mtype = front.0.0; seq = front.0.1 }, name.1)

-- The item that bytes begin with where these levels are open, and how many bytes it has, or its fault. In the Compact protocol
-- the byte of a field before has told the flag.
abbrev pub item_at : Wire → List Slot → Bool → List ℕ → Step ℕ Item
item_at wires.Binary nest flag bytes = binary_items.scan_at (first_of nest) (length nest) bytes
item_at wires.Compact nest flag bytes = compact_items.scan_at (first_of nest) (length nest) flag bytes

-- what the byte of a field tells of its value
abbrev pub told_by : Wire → List ℕ → Bool
told_by wires.Binary bytes = false
told_by wires.Compact bytes = flag_of bytes

-- Item after item the bytes lead from these levels to others, and leave the rest.
abbrev pub Leads : Wire → List Slot → Bool → List ℕ → List Item → List Slot → Bool → List ℕ → Type 0
Leads wire nest flag bytes [] last last_flag rest = (nest ≡ last) × (flag ≡ last_flag) × (bytes ≡ rest)
Leads wire nest flag bytes (item ∷ items) last last_flag rest =
    (size : ℕ) × (item_at wire nest flag bytes ≡ Ok (item, size)) × Leads wire (after item nest) (told_by wire bytes) (drop size bytes) items last last_flag rest

-- the fault of what the bytes end inside, or another one
abbrev pub IsFault : Found → Fault → Type 0
IsFault whole f = ⊥
IsFault cut f = f.reason ≡ reasons.Truncated
IsFault bad f = f.reason ≡ reasons.Truncated → ⊥

-- the body is at its end and so are the bytes; or what is called for next has a fault
abbrev pub Stops : Wire → Found → List Slot → Bool → List ℕ → Type 0
Stops wire whole nest flag rest = (nest ≡ []) × (rest ≡ [])
Stops wire cut nest flag rest = (nest ≡ [] → ⊥) × ((f : Fault) × (item_at wire nest flag rest ≡ Err f) × IsFault cut f)
Stops wire bad nest flag rest = (nest ≡ [] → ⊥) × ((f : Fault) × (item_at wire nest flag rest ≡ Err f) × IsFault bad f)

-- what the bytes are as the rest of a body of which these levels are open
pub record IsBody (wire : Wire) (found : Found) (nest : List Slot) (flag : Bool) (bytes : List ℕ) : Type 0 where
  pub items : List Item
  pub last : List Slot
  pub last_flag : Bool
  pub rest : List ℕ
  pub leads : Leads wire nest flag bytes items last last_flag rest
  pub stops : Stops wire found last last_flag rest

-- what the bytes are as the front of a stream
abbrev pub IsFront : Wire → Found → List ℕ → Type 0
IsFront wire found bytes =
    ((f : Fault) × (head_at wire bytes ≡ Err f) × IsFault found f)
    ⊎ ((header : Header) × (size : ℕ) × (head_at wire bytes ≡ Ok (header, size)) × IsBody wire found (slots.Fields (pos 0) ∷ []) false (drop size bytes))

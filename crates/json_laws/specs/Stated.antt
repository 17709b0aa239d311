-- What is stated of a frame by the grammar and the reader, where an IDL declares something of its body or nothing.
use Rattle.std.specs.Prelude.{◌≡◌, ℕ, ◌+◌, ◌<◌, ◌≤◌, List, ◌++◌, length, take, Option}
use Rattle.thrift_value.specs.Items.{Item}
use Rattle.thrift_value.specs.Trees.{Message, depth_of_members, items_of_members}
use Rattle.protocol_traits.specs.declared.fault.Fault.{Fault}
use Rattle.protocol_traits.specs.declared.fault.Reason.TheVariants as reasons
use Rattle.protocol_traits.specs.Heads.{Header}
use Rattle.type_tables.specs.declared.declared.StructId.{StructId}
use Rattle.type_tables.specs.Declarations.{Declarations}
use Rattle.type_walk.specs.Positions.{start}
use Rattle.json_protocol.specs.Grammar.{SpellsMessage}
use Rattle.binary_laws.specs.Reads.{header_of_message}
use Rattle.json_laws.specs.Positions.{declared_of, body_of}
use Rattle.json_laws.specs.Fronts.{SpellsByItems}
use Rattle.json_laws.specs.Reads as reading
use Rattle.json_laws.specs.Refused as refusing

-- what an IDL declares, and which of its structs the body is, if that is known
pub record Known : Type 0 where
  pub declared : Declarations
  pub body : Option StructId

-- the bytes spell the message
abbrev pub JsonSpells : Known → Message → List ℕ → Type 0
JsonSpells k m bytes = SpellsMessage (declared_of k.declared) (body_of k.body) m bytes

-- they are read whole, as this header and these items
abbrev pub IsRead : Known → List ℕ → Header → List Item → Type 0
IsRead k bytes header items = reading.IsRead (start k.declared k.body) bytes header items

-- as some header and items
abbrev pub IsReadWhole : Known → List ℕ → Type 0
IsReadWhole k bytes = (header : Header) × (items : List Item) × IsRead k bytes header items

-- as this message
abbrev pub IsReadAs : Known → Message → List ℕ → Type 0
IsReadAs k m bytes = IsRead k bytes (header_of_message m) (items_of_members m.body)

-- they are refused with this fault
abbrev pub IsRefused : Known → List ℕ → Fault → Type 0
IsRefused k bytes f = refusing.IsRefused (start k.declared k.body) bytes f

-- they spell a message of depth at most 256, with this header and these items
pub record IsSpelled (k : Known) (bytes : List ℕ) (header : Header) (items : List Item) : Type 0 where
  pub message : Message
  pub header_is : header ≡ header_of_message message
  pub items_are : items ≡ items_of_members message.body
  pub shallow : depth_of_members message.body < 256
  pub spelled : JsonSpells k message bytes

-- they spell the message item by item
abbrev pub SpellsItems : Known → Message → List ℕ → Type 0
SpellsItems k m bytes = SpellsByItems (start k.declared k.body) (header_of_message m) (items_of_members m.body) bytes

-- they spell no message of depth at most 256
abbrev pub NoMessage : Known → List ℕ → Type 0
NoMessage k bytes = (m : Message) → depth_of_members m.body < 256 → JsonSpells k m bytes → ⊥

-- they are refused for a value that lies too deep
abbrev pub IsTooDeep : Known → List ℕ → Type 0
IsTooDeep k bytes = (f : Fault) × IsRefused k bytes f × (f.reason ≡ reasons.TooDeep)

-- they are refused, and not as truncated
abbrev pub IsBad : Known → List ℕ → Fault → Type 0
IsBad k bytes f = IsRefused k bytes f × (f.reason ≡ reasons.Truncated → ⊥)

-- the frame is refused with this fault, whatever stands behind it
abbrev pub StaysRefused : Known → List ℕ → Fault → Type 0
StaysRefused k bytes f = (more : List ℕ) → IsRefused k (bytes ++ more) f

-- the same fault; of one that does not stand before the end of so many bytes, the same reason
abbrev pub IsSame : ℕ → Fault → Fault → Type 0
IsSame size f g = (g.reason ≡ f.reason) × (f.place < size → g ≡ f)

-- with more bytes behind they are refused with the same fault
abbrev pub StaysBad : Known → List ℕ → List ℕ → Fault → Type 0
StaysBad k bytes more f = (g : Fault) × IsRefused k (bytes ++ more) g × IsSame (length bytes) f g

-- some message of depth at most 256 begins with them
pub record Begins (k : Known) (bytes : List ℕ) : Type 0 where
  pub more : List ℕ
  pub message : Message
  pub shallow : depth_of_members message.body < 256
  pub spelled : JsonSpells k message (bytes ++ more)

-- some message, of any depth, begins with them
abbrev pub IsViable : Known → List ℕ → Type 0
IsViable k front = (more : List ℕ) × (m : Message) × JsonSpells k m (front ++ more)

-- the fault stands at their end, and some message, of any depth, begins with them
abbrev pub IsCutShort : Known → List ℕ → Fault → Type 0
IsCutShort k bytes f = (f.place ≡ length bytes) × IsViable k bytes

-- The first byte that no message allows stands at this place: what stands before it begins a message, of any depth, and with it none begins.
pub record IsFirstBad (k : Known) (bytes : List ℕ) (place : ℕ) : Type 0 where
  pub within : place < length bytes
  pub before : IsViable k (take place bytes)
  pub behind : IsViable k (take (place + 1) bytes) → ⊥

-- The first byte that no message allows tells the fault: what stands up to it, and it, is refused with the same fault, which stands there or
-- before it.
pub record FirstTells (k : Known) (bytes : List ℕ) (f : Fault) : Type 0 where
  pub place : ℕ
  pub first : IsFirstBad k bytes place
  pub refused : IsRefused k (take (place + 1) bytes) f
  pub before : f.place ≤ place

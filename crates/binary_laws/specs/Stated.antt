-- What is stated of a frame by the grammar and the reader of any protocol.
use Rattle.std.specs.Prelude.{◌≡◌, ◌≢◌, ℕ, ◌<◌, List}
use Rattle.thrift_value.specs.Items.{Item}
use Rattle.thrift_value.specs.Trees.{Message, depth_of_members, items_of_members}
use Rattle.protocol_traits.specs.Heads.{Header}
use Rattle.protocol_traits.specs.declared.nest.TheConstants.{DEPTH}
use Rattle.protocol_traits.specs.declared.fault.Fault.{Fault}
use Rattle.protocol_traits.specs.declared.fault.Reason.{Reason}
use Rattle.protocol_traits.specs.declared.fault.Reason.TheVariants as reasons
use Rattle.binary_laws.specs.Reads.{header_of_message}

-- the bytes spell a message of depth at most `DEPTH`, with this header and these items
pub record IsSpelled (Spells : Message → List ℕ → Type 0) (bytes : List ℕ) (header : Header) (items : List Item) : Type 0 where
  pub message : Message
  pub header_is : header ≡ header_of_message message
  pub items_are : items ≡ items_of_members message.body
  pub shallow : depth_of_members message.body < DEPTH
  pub spelled : Spells message bytes

-- the bytes spell no message of depth at most `DEPTH`
abbrev pub NoMessage : (Message → List ℕ → Type 0) → List ℕ → Type 0
NoMessage Spells bytes = (m : Message) → depth_of_members m.body < DEPTH → Spells m bytes → ⊥

-- the frame is refused for this reason
abbrev pub IsRefusedAs : (List ℕ → Fault → Type 0) → Reason → List ℕ → Type 0
IsRefusedAs Refused reason bytes = (f : Fault) × Refused bytes f × (f.reason ≡ reason)

-- a fault of this reason stands in an item: the frame neither is cut, nor trails a message
abbrev pub IsInItem : Reason → Type 0
IsInItem reason = (reason ≢ reasons.Truncated) × (reason ≢ reasons.Trailing)

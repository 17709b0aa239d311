-- The fault that stands in a frame, by what the grammar spells: its place, its reason, and how far the item goes that it stands in.
use Rattle.std.specs.Prelude.{ℕ, ◌≡◌, ◌+◌, ◌<◌, ◌≤◌, List, length, take}
use Rattle.thrift_value.specs.Trees.{Message, depth_of_members}
use Rattle.protocol_traits.specs.declared.fault.Fault.{Fault}
use Rattle.protocol_traits.specs.declared.fault.Reason.{Reason}
use Rattle.protocol_traits.specs.declared.fault.Reason.TheVariants as reasons
use Rattle.binary_protocol.specs.Grammar.{BinarySpells}
use Rattle.binary_laws.specs.Called.{IsCalled}
use Rattle.binary_laws.specs.Refused.{IsViable}

-- The number of bytes of the item at fault: a version is the first two bytes, a type, a kind and a bool are one each, and a size is
-- four. The other faults stand in no item.
abbrev pub extent : Reason → ℕ
extent reasons.BadVersion = 2
extent reasons.BadType = 1
extent reasons.BadKind = 1
extent reasons.BadBool = 1
extent reasons.BadSize = 4
extent other = 0

-- the frame through the item at fault, as far as it has it
abbrev pub with_item : Reason → List ℕ → ℕ → List ℕ
with_item reason bytes place = take (place + extent reason) bytes

-- the bytes spell a message of depth at most 256, of which its body is one level
abbrev pub IsWhole : List ℕ → Type 0
IsWhole bytes = (m : Message) × BinarySpells m bytes × (depth_of_members m.body < 256)

-- at no place up to this one is a value called for that 256 levels lie around
abbrev pub IsShallow : List ℕ → ℕ → Type 0
IsShallow bytes place = (before : ℕ) → before ≤ place → IsCalled reasons.TooDeep bytes before → ⊥

-- TooDeep: the first place at which a value is called for that 256 levels lie around, whether or not a byte stands there. In the
-- other cases there is none up to the place.
-- Truncated: the frame begins a message and is none, and the place is its end.
-- Trailing: what stands before the place is a message, and a byte follows.
-- An item: what stands before the place calls for it, and so begins a message; and with the item, as far as the frame has it, it
-- begins none.
abbrev pub StandsAt : Reason → List ℕ → ℕ → Type 0
StandsAt reasons.TooDeep bytes place = (place ≤ length bytes) × IsCalled reasons.TooDeep bytes place × ((before : ℕ) → before < place → IsCalled reasons.TooDeep bytes before → ⊥)
StandsAt reasons.Truncated bytes place = (place ≡ length bytes) × IsShallow bytes place × IsViable bytes × (IsWhole bytes → ⊥)
StandsAt reasons.Trailing bytes place = (place < length bytes) × IsShallow bytes place × IsWhole (take place bytes)
StandsAt reason bytes place = (1 ≤ extent reason) × (place < length bytes) × IsShallow bytes place × IsCalled reason bytes place × (IsViable (with_item reason bytes place) → ⊥)

abbrev pub FaultAt : List ℕ → Fault → Type 0
FaultAt bytes f = StandsAt f.reason bytes f.place

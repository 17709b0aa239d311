-- The fault that stands in a frame, by what the grammar spells: its place and its reason.
use Rattle.std.specs.Prelude.{ℕ, ◌≡◌, ◌+◌, ◌<◌, ◌≤◌, List, length, take, drop}
use Rattle.thrift_value.specs.Trees.{Message, depth_of_members}
use Rattle.protocol_traits.specs.declared.fault.Fault.{Fault}
use Rattle.protocol_traits.specs.declared.fault.Reason.{Reason}
use Rattle.protocol_traits.specs.declared.fault.Reason.TheVariants as reasons
use Rattle.gate_base.specs.Bytes.{AreBytes}
use Rattle.compact_protocol.specs.Grammar.{CompactSpells}
use Rattle.compact_laws.specs.Called.{Part, level_part, IsCalled}
use Rattle.compact_laws.specs.Extent.{extent, part_end}
use Rattle.compact_laws.specs.Faulty.{IsFaulty}
use Rattle.compact_laws.specs.Refused.{IsViable, IsRefused}

-- the bytes spell a message of depth at most 256, of which its body is one level
abbrev pub IsWhole : List ℕ → Type 0
IsWhole bytes = (m : Message) × CompactSpells m bytes × (depth_of_members m.body < 256)

-- the frame through the item at fault, as far as it has it
abbrev pub with_item : Reason → List ℕ → ℕ → List ℕ
with_item reason bytes place = take (place + extent reason (drop place bytes)) bytes

-- the frame through the part that begins at this place, as far as it has it
abbrev pub with_part : Part → List ℕ → ℕ → List ℕ
with_part part bytes place = take (place + part_end part (drop place bytes)) bytes

-- at no place up to this one is a value called for that 256 levels lie around
abbrev pub IsShallow : List ℕ → ℕ → Type 0
IsShallow bytes place = (before : ℕ) → before ≤ place → IsCalled level_part bytes before → ⊥

-- TooDeep: the first place at which a value is called for that 256 levels lie around, whether or not a byte stands there. In the
-- other cases there is none up to the place.
-- Truncated: the frame begins a message and is none, and the place is its end.
-- Trailing: what stands before the place is a message, and a byte follows.
-- An item: what stands before the place calls for a part there, and what begins there, with a byte at least, is none of it for this reason.
abbrev pub StandsAt : Reason → List ℕ → ℕ → Type 0
StandsAt reasons.TooDeep bytes place = (place ≤ length bytes) × IsCalled level_part bytes place × ((before : ℕ) → before < place → IsCalled level_part bytes before → ⊥)
StandsAt reasons.Truncated bytes place = (place ≡ length bytes) × IsShallow bytes place × IsViable bytes × (IsWhole bytes → ⊥)
StandsAt reasons.Trailing bytes place = (place < length bytes) × IsShallow bytes place × IsWhole (take place bytes)
StandsAt reason bytes place = (place < length bytes) × IsShallow bytes place × ((part : Part) × IsCalled part bytes place × IsFaulty part reason (drop place bytes))

abbrev pub FaultAt : List ℕ → Fault → Type 0
FaultAt bytes f = StandsAt f.reason bytes f.place

-- with the item at fault, as far as the frame has it, it begins no message
abbrev pub ItemBeginsNone : List ℕ → Fault → Type 0
ItemBeginsNone bytes f = IsViable (with_item f.reason bytes f.place) → ⊥

-- ---- a part, by what the grammar spells

-- The part is called for at this place of some bytes. A byte stands there, and no value up to there lies too deep.
pub record IsPartAt (part : Part) (bytes : List ℕ) (place : ℕ) : Type 0 where
  pub are : AreBytes bytes
  pub within : place < length bytes
  pub shallow : IsShallow bytes place
  pub called : IsCalled part bytes place

-- what begins there is none of it
abbrev pub IsBadPart : Part → List ℕ → ℕ → Type 0
IsBadPart part bytes place = (reason : Reason) × IsFaulty part reason (drop place bytes)

-- with the part, as far as the frame has it, it begins no message
abbrev pub BeginsNone : Part → List ℕ → ℕ → Type 0
BeginsNone part bytes place = IsViable (with_part part bytes place) → ⊥

-- the frame is refused there, and not for what trails a message
abbrev pub IsRefusedAt : List ℕ → ℕ → Type 0
IsRefusedAt bytes place = (reason : Reason) × (reason ≡ reasons.Trailing → ⊥) × IsRefused bytes (record { place = place; reason = reason })

-- the later place lies behind the part's first byte, and before its end
pub record IsInside (part : Part) (bytes : List ℕ) (place later : ℕ) : Type 0 where
  pub after : place < later
  pub within : later ≤ length bytes
  pub before_end : later < place + part_end part (drop place bytes)

-- no part is called for there, and no message ends
abbrev pub HasNone : List ℕ → ℕ → Type 0
HasNone bytes place = ((part : Part) → IsCalled part bytes place → ⊥) × (IsWhole (take place bytes) → ⊥)

-- The items and headers of both protocols, byte by byte.
use Rattle.std.proofs.Common.{◌≡◌, ℕ, Bool, true, false, List, [], ◌∷◌, length, refl, ◌∙◌, ap, subst}
use Rattle.std.specs.Prelude.{ℤ, Some, nat_le, ◌&&◌}
use Rattle.gate_base.specs.Bytes.{AreBytes}
use Rattle.thrift_value.specs.declared.kind.Kind.{Kind}
use Rattle.thrift_value.specs.declared.kind.Kind.TheVariants as kinds
use Rattle.protocol_traits.specs.declared.nest.Slot.{Slot}
use Rattle.protocol_traits.specs.declared.nest.Slot.TheVariants as slots
use Rattle.binary_protocol.specs.Scan as scan_binary
use Rattle.compact_protocol.specs.Scan as scan_compact
use Rattle.stream_messages.specs.declared.scan.Wire.{Wire}
use Rattle.stream_messages.specs.declared.scan.Wire.TheVariants as wires
use Rattle.stream_messages.specs.declared.parts.Part.TheVariants as part
use Rattle.stream_messages.specs.Levels.{kind_called, nests, has_ended, is_field}
use Rattle.stream_messages.specs.Scanning.{first_part}
use Rattle.stream_messages.specs.Fronts.{head_at, item_at}
use Rattle.stream_messages.specs.Feeding.{run}
use Rattle.stream_messages.proofs.Bodies.{value_at, value_compact}
use Rattle.stream_messages.proofs.Settling.{IsReady, Waits}
use Rattle.stream_messages.proofs.Seen.{seen, seen_head, body_open}
use Rattle.stream_messages.proofs.BinaryItems as binary_items
use Rattle.stream_messages.proofs.BinaryHead.{head_binary}
use Rattle.stream_messages.proofs.CompactItems as compact_items

-- ---- Binary

same_binary : (slot : Slot) (up : List Slot) (bytes : List ℕ) (kind : Kind) → kind_called slot ≡ Some kind
    → binary_items.first_value wires.Binary slot up kind bytes ≡ run wires.Binary bytes part.Item (slot ∷ up)
same_binary slot up [] kind e = refl
same_binary (slots.Fields last) up (b ∷ more) kind e = absurd (cc)
same_binary (slots.Value k id) up (b ∷ more) kind e = let same : kind ≡ k = cc in rw same refl
same_binary (slots.Elements k left) up (b ∷ more) kind e = let same : kind ≡ k = cc in rw same refl
same_binary (slots.Keys k value left) up (b ∷ more) kind e = let same : kind ≡ k = cc in rw same refl
same_binary (slots.Values key k left) up (b ∷ more) kind e = let same : kind ≡ k = cc in rw same refl

nests_binary : (kind : Kind) → scan_binary.nests kind ≡ nests kind
nests_binary kinds.Struct = refl
nests_binary kinds.Map = refl
nests_binary kinds.Set = refl
nests_binary kinds.List = refl
nests_binary kind = refl

pub opened_binary : (depth : ℕ) (kind : Kind) (bytes : List ℕ) → (nests kind && nat_le 256 depth) ≡ false → scan_binary.value_in depth kind bytes ≡ scan_binary.value_at kind bytes
unfolding scan_binary.value_in
opened_binary depth kind bytes t = rw (nests_binary kind, t) refl

-- a value of any kind that has a byte
pub value_binary : (slot : Slot) (up : List Slot) (bytes : List ℕ) (kind : Kind) → has_ended slot ≡ false → kind_called slot ≡ Some kind → Waits wires.Binary slot (length (slot ∷ up)) (Some kind) → AreBytes bytes
    → seen (slot ∷ up) (item_at wires.Binary (slot ∷ up) false bytes) ≡ run wires.Binary bytes part.Item (slot ∷ up)
value_binary slot up bytes kind h e w are =
    ap (λ s. seen (slot ∷ up) s) (value_at slot up bytes kind h e ∙ opened_binary (length (slot ∷ up)) kind bytes w.0)
    ∙ binary_items.value_law wires.Binary slot up kind w.1 w.0 bytes are ∙ same_binary slot up bytes kind e

field_binary : (last : ℤ) (up : List Slot) (bytes : List ℕ) → seen (slots.Fields last ∷ up) (item_at wires.Binary (slots.Fields last ∷ up) false bytes) ≡ run wires.Binary bytes part.Item (slots.Fields last ∷ up)
field_binary last up bytes = binary_items.field_law wires.Binary (slots.Fields last) up bytes ∙ same bytes
  where
    same : (bytes : List ℕ) → binary_items.first_field wires.Binary (slots.Fields last) up bytes ≡ run wires.Binary bytes part.Item (slots.Fields last ∷ up)
    same [] = refl
    same (b ∷ more) = refl

-- ---- Compact

same_compact : (slot : Slot) (up : List Slot) (bytes : List ℕ) (kind : Kind) → kind_called slot ≡ Some kind
    → compact_items.first_value wires.Compact slot up kind bytes ≡ run wires.Compact bytes part.Item (slot ∷ up)
same_compact slot up [] kind e = refl
same_compact (slots.Fields last) up (b ∷ more) kind e = absurd (cc)
same_compact (slots.Value k id) up (b ∷ more) kind e = let same : kind ≡ k = cc in rw same refl
same_compact (slots.Elements k left) up (b ∷ more) kind e = let same : kind ≡ k = cc in rw same refl
same_compact (slots.Keys k value left) up (b ∷ more) kind e = let same : kind ≡ k = cc in rw same refl
same_compact (slots.Values key k left) up (b ∷ more) kind e = let same : kind ≡ k = cc in rw same refl

nests_compact : (kind : Kind) → scan_compact.opens kind ≡ nests kind
nests_compact kinds.Struct = refl
nests_compact kinds.Map = refl
nests_compact kinds.Set = refl
nests_compact kinds.List = refl
nests_compact kind = refl

opened_compact : (depth : ℕ) (kind : Kind) (bytes : List ℕ) → (nests kind && nat_le 256 depth) ≡ false → scan_compact.value_in depth kind bytes ≡ scan_compact.value_at kind bytes
unfolding scan_compact.value_in
opened_compact depth kind bytes t = rw (nests_compact kind, t) refl

-- no bool that was told
not_told : (b : Bool) (kind : Kind) → (kind ≡ kinds.Bool → b ≡ false) → (b && scan_compact.is_bool kind) ≡ false
not_told false kind h = refl
not_told true kinds.Bool h = h refl
not_told true kind h = refl

value_in_compact : (slot : Slot) (up : List Slot) (flag : Bool) (bytes : List ℕ) (kind : Kind) → has_ended slot ≡ false → kind_called slot ≡ Some kind → Waits wires.Compact slot (length (slot ∷ up)) (Some kind)
    → seen (slot ∷ up) (item_at wires.Compact (slot ∷ up) flag bytes) ≡ run wires.Compact bytes part.Item (slot ∷ up)
value_in_compact slot up flag bytes kind h e w =
    ap (λ s. seen (slot ∷ up) s) (value_compact slot up flag bytes kind h e (not_told (is_field slot) kind w.2) ∙ opened_compact (length (slot ∷ up)) kind bytes w.0)
    ∙ compact_items.value_law wires.Compact slot up kind w.1 w.0 bytes ∙ same_compact slot up bytes kind e

field_compact : (last : ℤ) (up : List Slot) (flag : Bool) (bytes : List ℕ) → seen (slots.Fields last ∷ up) (item_at wires.Compact (slots.Fields last ∷ up) flag bytes) ≡ run wires.Compact bytes part.Item (slots.Fields last ∷ up)
unfolding scan_compact.item_in
field_compact last up flag bytes = compact_items.field_law wires.Compact (slots.Fields last) up last bytes ∙ same bytes
  where
    same : (bytes : List ℕ) → compact_items.first_field wires.Compact (slots.Fields last) up last bytes ≡ run wires.Compact bytes part.Item (slots.Fields last ∷ up)
    same [] = refl
    same (b ∷ more) = refl

-- ---- both

value_law : (wire : Wire) (slot : Slot) (up : List Slot) (flag : Bool) (bytes : List ℕ) (kind : Kind) → kind_called slot ≡ Some kind → has_ended slot ≡ false → Waits wire slot (length (slot ∷ up)) (kind_called slot) → AreBytes bytes
    → seen (slot ∷ up) (item_at wire (slot ∷ up) flag bytes) ≡ run wire bytes part.Item (slot ∷ up)
value_law wires.Binary slot up flag bytes kind e h w are = value_binary slot up bytes kind h e (subst (λ k. Waits wires.Binary slot (length (slot ∷ up)) k) e w) are
value_law wires.Compact slot up flag bytes kind e h w are = value_in_compact slot up flag bytes kind h e (subst (λ k. Waits wires.Compact slot (length (slot ∷ up)) k) e w)

field_law : (wire : Wire) (last : ℤ) (up : List Slot) (flag : Bool) (bytes : List ℕ) → seen (slots.Fields last ∷ up) (item_at wire (slots.Fields last ∷ up) flag bytes) ≡ run wire bytes part.Item (slots.Fields last ∷ up)
field_law wires.Binary last up flag bytes = field_binary last up bytes
field_law wires.Compact last up flag bytes = field_compact last up flag bytes

pub item_law : (wire : Wire) (nest : List Slot) (flag : Bool) (bytes : List ℕ) → IsReady wire nest → AreBytes bytes → seen nest (item_at wire nest flag bytes) ≡ run wire bytes part.Item nest
item_law wire [] flag bytes ready are = absurd ready
item_law wire (slots.Fields last ∷ up) flag bytes ready are = field_law wire last up flag bytes
item_law wire (slots.Value k id ∷ up) flag bytes ready are = value_law wire (slots.Value k id) up flag bytes k refl ready.0 ready.1 are
item_law wire (slots.Elements k left ∷ up) flag bytes ready are = value_law wire (slots.Elements k left) up flag bytes k refl ready.0 ready.1 are
item_law wire (slots.Keys k value left ∷ up) flag bytes ready are = value_law wire (slots.Keys k value left) up flag bytes k refl ready.0 ready.1 are
item_law wire (slots.Values key k left ∷ up) flag bytes ready are = value_law wire (slots.Values key k left) up flag bytes k refl ready.0 ready.1 are

pub head_law : (wire : Wire) (bytes : List ℕ) → AreBytes bytes → seen_head (head_at wire bytes) ≡ run wire bytes (first_part wire) body_open
unfolding scan_compact.front_at
head_law wires.Binary bytes are = head_binary wires.Binary bytes are
head_law wires.Compact bytes are = compact_items.head_compact wires.Compact bytes

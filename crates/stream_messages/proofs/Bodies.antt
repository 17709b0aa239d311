-- A body goes on with an item, or stops.
use Rattle.std.proofs.Common.{◌≡◌, ℕ, Bool, true, false, cond, List, [], ◌∷◌, length, drop, Ok, refl}
use Rattle.std.specs.Prelude.{⊤, Some, ◌&&◌}
use Rattle.thrift_value.specs.declared.kind.Kind.{Kind}
use Rattle.thrift_value.specs.Items.{Item, end}
use Rattle.protocol_traits.specs.declared.nest.Slot.{Slot}
use Rattle.protocol_traits.specs.declared.nest.Slot.TheVariants as slots
use Rattle.protocol_traits.specs.Follow.{after}
use Rattle.binary_protocol.specs.Scan as scan_binary
use Rattle.compact_protocol.specs.Scan as scan_compact
use Rattle.stream_messages.specs.declared.scan.Wire.{Wire}
use Rattle.stream_messages.specs.declared.scan.Wire.TheVariants as wires
use Rattle.stream_messages.specs.Levels.{kind_called, has_ended, is_field, closed}
use Rattle.stream_messages.specs.Fronts.{Found, item_at, told_by, Stops, IsBody}

-- whatever the flag is
abbrev pub Bodies : Wire → Found → List Slot → List ℕ → Type 0
Bodies wire found nest bytes = (flag : Bool) → IsBody wire found nest flag bytes

pub one_item : (wire : Wire) (found : Found) (nest : List Slot) (flag : Bool) (bytes : List ℕ) (item : Item) (size : ℕ)
    → item_at wire nest flag bytes ≡ Ok (item, size) → Bodies wire found (after item nest) (drop size bytes) → IsBody wire found nest flag bytes
one_item wire found nest flag bytes item size e h =
    let b = h (told_by wire bytes) in
    record { items = item ∷ b.items; last = b.last; last_flag = b.last_flag; rest = b.rest; leads = (size, e, b.leads); stops = b.stops }

pub no_item : (wire : Wire) (found : Found) (nest : List Slot) (flag : Bool) (bytes : List ℕ) → Stops wire found nest flag bytes → IsBody wire found nest flag bytes
no_item wire found nest flag bytes h = record { items = []; last = nest; last_flag = flag; rest = bytes; leads = (refl, refl, refl); stops = h }

-- ---- ends

end_at : (wire : Wire) (slot : Slot) (up : List Slot) (flag : Bool) (bytes : List ℕ) → has_ended slot ≡ true → item_at wire (slot ∷ up) flag bytes ≡ Ok (end, 0)
unfolding scan_compact.item_in scan_compact.next_of
end_at wires.Binary (slots.Fields last) up flag bytes h = absurd (cc)
end_at wires.Binary (slots.Value kind id) up flag bytes h = absurd (cc)
end_at wires.Binary (slots.Elements kind left) up flag bytes h = rw h refl
end_at wires.Binary (slots.Keys key value left) up flag bytes h = rw h refl
end_at wires.Binary (slots.Values key value left) up flag bytes h = absurd (cc)
end_at wires.Compact (slots.Fields last) up flag bytes h = absurd (cc)
end_at wires.Compact (slots.Value kind id) up flag bytes h = absurd (cc)
end_at wires.Compact (slots.Elements kind left) up flag bytes h = rw h refl
end_at wires.Compact (slots.Keys key value left) up flag bytes h = rw h refl
end_at wires.Compact (slots.Values key value left) up flag bytes h = absurd (cc)

pub closed_body : (wire : Wire) (found : Found) (nest : List Slot) (bytes : List ℕ) → Bodies wire found (closed nest) bytes → Bodies wire found nest bytes
closed_body wire found [] bytes h = h
closed_body wire found (slot ∷ up) bytes h = by_test (closed_body wire found up bytes) (has_ended slot) refl h
  where
    by_test : (Bodies wire found (closed up) bytes → Bodies wire found up bytes) → (b : Bool) → has_ended slot ≡ b
        → Bodies wire found (cond b (closed up) (slot ∷ up)) bytes → Bodies wire found (slot ∷ up) bytes
    by_test above true e k = λ flag. one_item wire found (slot ∷ up) flag bytes end 0 (end_at wire slot up flag bytes e) (above k)
    by_test above false e k = k

-- the innermost level that is left hasn't ended
abbrev pub Lasts : List Slot → Type 0
Lasts [] = ⊤
Lasts (slot ∷ up) = has_ended slot ≡ false

pub closed_lasts : (nest : List Slot) → Lasts (closed nest)
closed_lasts [] = tt
closed_lasts (slot ∷ up) = by_test (closed_lasts up) (has_ended slot) refl
  where
    by_test : Lasts (closed up) → (b : Bool) → has_ended slot ≡ b → Lasts (cond b (closed up) (slot ∷ up))
    by_test above true e = above
    by_test above false e = e

-- ---- values that have no bytes, and those that lie too deep

-- what a level calls for is a value of this kind
pub value_at : (slot : Slot) (up : List Slot) (bytes : List ℕ) (kind : Kind) → has_ended slot ≡ false → kind_called slot ≡ Some kind
    → item_at wires.Binary (slot ∷ up) false bytes ≡ scan_binary.value_in (length (slot ∷ up)) kind bytes
value_at (slots.Fields last) up bytes kind h e = absurd (cc)
value_at (slots.Value k id) up bytes kind h e = let same : k ≡ kind = cc in rw same refl
value_at (slots.Elements k left) up bytes kind h e = let same : k ≡ kind = cc in rw (h, same) refl
value_at (slots.Keys k value left) up bytes kind h e = let same : k ≡ kind = cc in rw (h, same) refl
value_at (slots.Values key k left) up bytes kind h e = let same : k ≡ kind = cc in rw same refl

-- the same in the Compact protocol, where the value of a field that is a bool has stood before
pub value_compact : (slot : Slot) (up : List Slot) (flag : Bool) (bytes : List ℕ) (kind : Kind) → has_ended slot ≡ false → kind_called slot ≡ Some kind
    → (is_field slot && scan_compact.is_bool kind) ≡ false
    → item_at wires.Compact (slot ∷ up) flag bytes ≡ scan_compact.value_in (length (slot ∷ up)) kind bytes
unfolding scan_compact.item_in scan_compact.next_of scan_compact.field_value
value_compact (slots.Fields last) up flag bytes kind h e t = absurd (cc)
value_compact (slots.Value k id) up flag bytes kind h e t = let same : k ≡ kind = cc in rw (same, t) refl
value_compact (slots.Elements k left) up flag bytes kind h e t = let same : k ≡ kind = cc in rw (h, same) refl
value_compact (slots.Keys k value left) up flag bytes kind h e t = let same : k ≡ kind = cc in rw (h, same) refl
value_compact (slots.Values key k left) up flag bytes kind h e t = let same : k ≡ kind = cc in rw same refl

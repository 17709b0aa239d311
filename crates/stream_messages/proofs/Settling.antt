-- What has no bytes behind an item is read as the protocol's reader reads it.
use Rattle.std.proofs.Common.{◌≡◌, ℕ, Bool, true, false, cond, List, [], ◌∷◌, length, Ok, Err, refl, ◌∙◌}
use Rattle.std.specs.Prelude.{⊤, Some, None, Option, nat_le, ◌&&◌}
use Rattle.thrift_value.specs.declared.kind.Kind.{Kind}
use Rattle.thrift_value.specs.declared.kind.Kind.TheVariants as kinds
use Rattle.thrift_value.specs.Items.{struct_begin, bool_value}
use Rattle.protocol_traits.specs.declared.fault.Reason.TheVariants as reasons
use Rattle.protocol_traits.specs.declared.nest.Slot.{Slot}
use Rattle.protocol_traits.specs.declared.nest.Slot.TheVariants as slots
use Rattle.protocol_traits.specs.Follow.{spent}
use Rattle.binary_protocol.specs.Scan as scan_binary
use Rattle.compact_protocol.specs.Scan as scan_compact
use Rattle.stream_messages.specs.declared.scan.Wire.{Wire}
use Rattle.stream_messages.specs.declared.scan.Wire.TheVariants as wires
use Rattle.stream_messages.specs.declared.levels.Settled.{Settled}
use Rattle.stream_messages.specs.declared.levels.Settled.TheVariants as settled
use Rattle.stream_messages.specs.Levels.{kind_called, nests, has_ended, is_field, closed, opened_value, opened_kind, opened, settles}
use Rattle.stream_messages.specs.Scanning.{tells_bools}
use Rattle.stream_messages.specs.Fronts.{Found, whole, bad, item_at}
use Rattle.stream_messages.proofs.Bodies.{Bodies, one_item, no_item, closed_body, Lasts, closed_lasts, value_at, value_compact}

-- a struct, a bool that was told, or a value that lies too deep isn't called for
abbrev pub Waits : Wire → Slot → ℕ → Option Kind → Type 0
Waits wire slot depth None = ⊤
Waits wire slot depth (Some kind) = ((nests kind && nat_le 256 depth) ≡ false) × (kind ≡ kinds.Struct → ⊥) × (kind ≡ kinds.Bool → (tells_bools wire && is_field slot) ≡ false)

-- the item that the innermost level calls for has a byte
abbrev pub IsReady : Wire → List Slot → Type 0
IsReady wire [] = ⊥
IsReady wire (slot ∷ up) = (has_ended slot ≡ false) × Waits wire slot (length (slot ∷ up)) (kind_called slot)

-- what comes of it: the message is whole, a value lies too deep, or the bytes behind belong to the item that is called for
abbrev pub Outcome : Wire → List Slot → Settled × List Slot → Type 0
Outcome wire nest (settled.Whole, last) = Bodies wire whole nest []
Outcome wire nest (settled.TooDeep, last) = Bodies wire bad nest []
Outcome wire nest (settled.Item, last) = IsReady wire last × ((found : Found) (bytes : List ℕ) → Bodies wire found last bytes → Bodies wire found nest bytes)

-- a value that lies too deep is refused
deep_binary : (slot : Slot) (up : List Slot) (flag : Bool) (kind : Kind) → has_ended slot ≡ false → kind_called slot ≡ Some kind → (nests kind && nat_le 256 (length (slot ∷ up))) ≡ true
    → item_at wires.Binary (slot ∷ up) flag [] ≡ Err (record { place = 0; reason = reasons.TooDeep })
unfolding scan_binary.value_in
deep_binary slot up flag kind h e t = value_at slot up [] kind h e ∙ too_deep kind t
  where
    too_deep : (k : Kind) → (nests k && nat_le 256 (length (slot ∷ up))) ≡ true → scan_binary.value_in (length (slot ∷ up)) k [] ≡ Err (record { place = 0; reason = reasons.TooDeep })
    too_deep kinds.Bool t = absurd (cc)
    too_deep kinds.I8 t = absurd (cc)
    too_deep kinds.I16 t = absurd (cc)
    too_deep kinds.I32 t = absurd (cc)
    too_deep kinds.I64 t = absurd (cc)
    too_deep kinds.Double t = absurd (cc)
    too_deep kinds.Str t = absurd (cc)
    too_deep kinds.Uuid t = absurd (cc)
    too_deep kinds.Struct t = rw t refl
    too_deep kinds.Map t = rw t refl
    too_deep kinds.Set t = rw t refl
    too_deep kinds.List t = rw t refl

deep_compact : (slot : Slot) (up : List Slot) (flag : Bool) (kind : Kind) → has_ended slot ≡ false → kind_called slot ≡ Some kind → (nests kind && nat_le 256 (length (slot ∷ up))) ≡ true
    → item_at wires.Compact (slot ∷ up) flag [] ≡ Err (record { place = 0; reason = reasons.TooDeep })
unfolding scan_compact.value_in
deep_compact slot up flag kind h e t = value_compact slot up flag [] kind h e (no_bool (is_field slot) kind t) ∙ too_deep kind t
  where
    no_bool : (b : Bool) (k : Kind) → (nests k && nat_le 256 (length (slot ∷ up))) ≡ true → (b && scan_compact.is_bool k) ≡ false
    no_bool false k t = refl
    no_bool true kinds.Bool t = absurd (cc)
    no_bool true kinds.I8 t = refl
    no_bool true kinds.I16 t = refl
    no_bool true kinds.I32 t = refl
    no_bool true kinds.I64 t = refl
    no_bool true kinds.Double t = refl
    no_bool true kinds.Str t = refl
    no_bool true kinds.Uuid t = refl
    no_bool true kinds.Struct t = refl
    no_bool true kinds.Map t = refl
    no_bool true kinds.Set t = refl
    no_bool true kinds.List t = refl

    too_deep : (k : Kind) → (nests k && nat_le 256 (length (slot ∷ up))) ≡ true → scan_compact.value_in (length (slot ∷ up)) k [] ≡ Err (record { place = 0; reason = reasons.TooDeep })
    too_deep kinds.Bool t = absurd (cc)
    too_deep kinds.I8 t = absurd (cc)
    too_deep kinds.I16 t = absurd (cc)
    too_deep kinds.I32 t = absurd (cc)
    too_deep kinds.I64 t = absurd (cc)
    too_deep kinds.Double t = absurd (cc)
    too_deep kinds.Str t = absurd (cc)
    too_deep kinds.Uuid t = absurd (cc)
    too_deep kinds.Struct t = rw t refl
    too_deep kinds.Map t = rw t refl
    too_deep kinds.Set t = rw t refl
    too_deep kinds.List t = rw t refl

deep : (wire : Wire) (slot : Slot) (up : List Slot) (flag : Bool) (kind : Kind) → has_ended slot ≡ false → kind_called slot ≡ Some kind → (nests kind && nat_le 256 (length (slot ∷ up))) ≡ true
    → item_at wire (slot ∷ up) flag [] ≡ Err (record { place = 0; reason = reasons.TooDeep })
deep wires.Binary slot up flag kind h e t = deep_binary slot up flag kind h e t
deep wires.Compact slot up flag kind h e t = deep_compact slot up flag kind h e t

and_false : (b : Bool) → (b && false) ≡ false
and_false true = refl
and_false false = refl

-- a struct begins without a byte
struct_at : (wire : Wire) (slot : Slot) (up : List Slot) (flag : Bool) (bytes : List ℕ) → has_ended slot ≡ false → kind_called slot ≡ Some kinds.Struct → nat_le 256 (length (slot ∷ up)) ≡ false
    → item_at wire (slot ∷ up) flag bytes ≡ Ok (struct_begin, 0)
unfolding scan_binary.value_in scan_binary.value_at scan_compact.value_in scan_compact.value_at
struct_at wires.Binary slot up flag bytes h e t = value_at slot up bytes kinds.Struct h e ∙ rw t refl
struct_at wires.Compact slot up flag bytes h e t = value_compact slot up flag bytes kinds.Struct h e (and_false (is_field slot)) ∙ rw t refl

-- and so does a bool that was told
told_at : (wire : Wire) (slot : Slot) (up : List Slot) (flag : Bool) (bytes : List ℕ) → kind_called slot ≡ Some kinds.Bool → (tells_bools wire && is_field slot) ≡ true
    → item_at wire (slot ∷ up) flag bytes ≡ Ok (bool_value flag, 0)
unfolding scan_compact.item_in scan_compact.field_value
told_at wires.Binary slot up flag bytes e t = absurd (cc)
told_at wires.Compact (slots.Fields last) up flag bytes e t = absurd (cc)
told_at wires.Compact (slots.Value k id) up flag bytes e t = let same : k ≡ kinds.Bool = cc in rw same refl
told_at wires.Compact (slots.Elements k left) up flag bytes e t = absurd (cc)
told_at wires.Compact (slots.Keys k value left) up flag bytes e t = absurd (cc)
told_at wires.Compact (slots.Values key k left) up flag bytes e t = absurd (cc)

told_ready : (wire : Wire) (slot : Slot) (up : List Slot) → (tells_bools wire && is_field slot) ≡ true → IsReady wire (spent (slot ∷ up))
told_ready wires.Binary slot up t = absurd (cc)
told_ready wires.Compact (slots.Fields last) up t = absurd (cc)
told_ready wires.Compact (slots.Value k id) up t = (refl, tt)
told_ready wires.Compact (slots.Elements k left) up t = absurd (cc)
told_ready wires.Compact (slots.Keys k value left) up t = absurd (cc)
told_ready wires.Compact (slots.Values key k left) up t = absurd (cc)

module _ (wire : Wire) (slot : Slot) (up : List Slot) (h : has_ended slot ≡ false) where
  stays : (kind : Kind) → kind_called slot ≡ Some kind → (nests kind && nat_le 256 (length (slot ∷ up))) ≡ false → (kind ≡ kinds.Struct → ⊥)
      → (kind ≡ kinds.Bool → (tells_bools wire && is_field slot) ≡ false) → Outcome wire (slot ∷ up) (settled.Item, slot ∷ up)
  stays kind e t s b = ((h, rw e (t, s, b)), λ found bytes x. x)

  bool_outcome : (b : Bool) → (tells_bools wire && is_field slot) ≡ b → kind_called slot ≡ Some kinds.Bool
      → Outcome wire (slot ∷ up) (settled.Item, cond b (spent (slot ∷ up)) (slot ∷ up))
  bool_outcome true t e = (told_ready wire slot up t, λ found bytes x flag. one_item wire found (slot ∷ up) flag bytes (bool_value flag) 0 (told_at wire slot up flag bytes e t) x)
  bool_outcome false t e = stays kinds.Bool e refl (λ s. absurd (cc)) (λ s. t)

  value_outcome : (kind : Kind) → kind_called slot ≡ Some kind → (nests kind && nat_le 256 (length (slot ∷ up))) ≡ false
      → Outcome wire (slot ∷ up) (settled.Item, opened_value (tells_bools wire) slot up kind)
  value_outcome kinds.Struct e t = ((refl, tt), λ found bytes x flag. one_item wire found (slot ∷ up) flag bytes struct_begin 0 (struct_at wire slot up flag bytes h e t) x)
  value_outcome kinds.Bool e t = bool_outcome (tells_bools wire && is_field slot) refl e
  value_outcome kinds.I8 e t = stays kinds.I8 e t (λ s. absurd (cc)) (λ s. absurd (cc))
  value_outcome kinds.I16 e t = stays kinds.I16 e t (λ s. absurd (cc)) (λ s. absurd (cc))
  value_outcome kinds.I32 e t = stays kinds.I32 e t (λ s. absurd (cc)) (λ s. absurd (cc))
  value_outcome kinds.I64 e t = stays kinds.I64 e t (λ s. absurd (cc)) (λ s. absurd (cc))
  value_outcome kinds.Double e t = stays kinds.Double e t (λ s. absurd (cc)) (λ s. absurd (cc))
  value_outcome kinds.Str e t = stays kinds.Str e t (λ s. absurd (cc)) (λ s. absurd (cc))
  value_outcome kinds.Uuid e t = stays kinds.Uuid e t (λ s. absurd (cc)) (λ s. absurd (cc))
  value_outcome kinds.Map e t = stays kinds.Map e t (λ s. absurd (cc)) (λ s. absurd (cc))
  value_outcome kinds.Set e t = stays kinds.Set e t (λ s. absurd (cc)) (λ s. absurd (cc))
  value_outcome kinds.List e t = stays kinds.List e t (λ s. absurd (cc)) (λ s. absurd (cc))

  some_outcome : (kind : Kind) (b : Bool) → (nests kind && nat_le 256 (length (slot ∷ up))) ≡ b → kind_called slot ≡ Some kind
      → Outcome wire (slot ∷ up) (cond b (settled.TooDeep, slot ∷ up) (settled.Item, opened_value (tells_bools wire) slot up kind))
  some_outcome kind true t e = λ flag. no_item wire bad (slot ∷ up) flag [] ((λ n. absurd (cc)), (record { place = 0; reason = reasons.TooDeep }, deep wire slot up flag kind h e t, λ r. absurd (cc)))
  some_outcome kind false t e = value_outcome kind e t

  kind_outcome : (found : Option Kind) → kind_called slot ≡ found → Outcome wire (slot ∷ up) (opened_kind (tells_bools wire) slot up found)
  kind_outcome None e = ((h, rw e tt), λ f bytes x. x)
  kind_outcome (Some kind) e = some_outcome kind (nests kind && nat_le 256 (length (slot ∷ up))) refl e

opened_outcome : (wire : Wire) (nest : List Slot) → Lasts nest → Outcome wire nest (opened (tells_bools wire) nest)
unfolding opened
opened_outcome wire [] h = λ flag. no_item wire whole [] flag [] (refl, refl)
opened_outcome wire (slot ∷ up) h = kind_outcome wire slot up h (kind_called slot) refl

above : (wire : Wire) (nest : List Slot) (x : Settled × List Slot) → Outcome wire (closed nest) x → Outcome wire nest x
above wire nest (settled.Whole, last) h = closed_body wire whole nest [] h
above wire nest (settled.TooDeep, last) h = closed_body wire bad nest [] h
above wire nest (settled.Item, last) h = (h.0, λ found bytes b. closed_body wire found nest bytes (h.1 found bytes b))

pub settled_body : (wire : Wire) (nest : List Slot) → Outcome wire nest (settles (tells_bools wire) nest)
settled_body wire nest = above wire nest (opened (tells_bools wire) (closed nest)) (opened_outcome wire (closed nest) (closed_lasts nest))

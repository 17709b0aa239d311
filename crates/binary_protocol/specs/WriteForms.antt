-- The quick forms of the Binary protocol's writer.
use Rattle.std.proofs.Common.{◌≡◌, pos, suc, ◌<◌, List, [], ◌∷◌, length, refl, sym, ap, ◌∙◌, arith}
use Rattle.thrift_value.specs.Items.{Item, field, stop, bool_value, i8_value, i16_value, i32_value, i64_value, double_value, text, number_text, unknown_text, struct_begin, empty_map, map_begin, set_begin, list_begin, end, uuid_value}
use Rattle.protocol_traits.specs.declared.forms.Opening.{Opening}
use Rattle.protocol_traits.specs.declared.forms.Opening.TheVariants as openings
use Rattle.protocol_traits.specs.declared.nest.Slot.{Slot}
use Rattle.protocol_traits.specs.declared.nest.Slot.TheVariants as slots
use Rattle.protocol_traits.specs.declared.proto.Mark.{Mark}
use Rattle.protocol_traits.specs.Follow.{after, spent, depth_after}
use Rattle.protocol_traits.specs.Forms.{opening_after}
use Rattle.binary_protocol.specs.declared.writer.BinaryWrite.{BinaryWrite}

-- the writer stands in so many levels
abbrev pub stands_at : BinaryWrite → Opening → List Slot → Type 0
stands_at t opening nest = t.depth ≡ length nest

pub starts_at : stands_at (record { depth = 1 }) openings.Body (slots.Fields (pos 0) ∷ [])
starts_at = refl

length-spent : (slot : Slot) (up : List Slot) → length (spent (slot ∷ up)) ≡ suc (length up)
length-spent (slots.Fields last) up = refl
length-spent (slots.Value kind id) up = refl
length-spent (slots.Elements kind left) up = refl
length-spent (slots.Keys key value left) up = refl
length-spent (slots.Values key value left) up = refl

deep : (item : Item) (slot : Slot) (up : List Slot) → depth_after item (suc (length up)) ≡ length (after item (slot ∷ up))
deep (field id kind) slot up = refl
deep stop slot up = omega arith
deep (bool_value b) slot up = sym (length-spent slot up)
deep (i8_value n) slot up = sym (length-spent slot up)
deep (i16_value n) slot up = sym (length-spent slot up)
deep (i32_value n) slot up = sym (length-spent slot up)
deep (i64_value n) slot up = sym (length-spent slot up)
deep (double_value bytes) slot up = sym (length-spent slot up)
deep (text bytes) slot up = sym (length-spent slot up)
deep (number_text bytes) slot up = sym (length-spent slot up)
deep (unknown_text bytes) slot up = sym (length-spent slot up)
deep struct_begin slot up = omega (arith, length-spent slot up)
deep empty_map slot up = sym (length-spent slot up)
deep (map_begin key value size) slot up = omega (arith, length-spent slot up)
deep (set_begin kind size) slot up = omega (arith, length-spent slot up)
deep (list_begin kind size) slot up = omega (arith, length-spent slot up)
deep end slot up = omega arith
deep (uuid_value bytes) slot up = sym (length-spent slot up)

pub goes_on : (t : BinaryWrite) (opening : Opening) (nest : List Slot) (item : Item) (mark : Mark) → 0 < length nest
    → stands_at t opening nest → stands_at (record { depth = depth_after item t.depth }) (opening_after item) (after item nest)
goes_on t opening [] item mark some there = absurd (omega arith)
goes_on t opening (slot ∷ up) item mark some there = ap (depth_after item) there ∙ deep item slot up

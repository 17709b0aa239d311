-- The quick forms of the Compact protocol's reader: where it stands, and what one form says of it.
use Rattle.std.proofs.Common.{◌≡◌, ℕ, ℤ, pos, zero, suc, ◌+◌, ◌-◌, ◌/◌, ◌%◌, ◌<◌, ◌≤◌, ◌^◌, Bool, true, false, List, [], ◌∷◌, length, take, drop, reverse, get_or, Option, Some, None, Ok, Err, Fits, refl, sym, ap, subst, ◌∙◌, arith, length-drop}
use Rattle.std.specs.Prelude.{IfOk, IfSome, Result, nat_lt, nat_le, ◌==◌, ◌&&◌, if◌then◌else◌, slice_index}
use Rattle.std.specs.Int.{w8, w64, from_le_bytes, to_be_bytes}
use Rattle.std.proofs.lemmas.Bool.Decides.{nat_tests}
use Rattle.std.proofs.lemmas.List.{drop-drop, get_or-drop}
use Rattle.std.proofs.lemmas.Nat.{be_bytes_8}
use Rattle.varint_zigzag.specs.declared.fault.VarFault.{VarFault}
use Rattle.varint_zigzag.specs.Bounds.{Found, varint_found}
use Rattle.varint_zigzag.specs.Places.{found_at}
use Rattle.varint_zigzag.specs.Varint.{varint_at}
use Rattle.varint_zigzag.specs.Zigzag.{unfolded}
use Rattle.thrift_value.specs.declared.kind.Kind.{Kind}
use Rattle.thrift_value.specs.declared.kind.Kind.TheVariants as kinds
use Rattle.thrift_value.specs.Items.{Item, field, stop, bool_value, i16_value, i32_value, i64_value, double_value, text, struct_begin, end, uuid_value}
use Rattle.protocol_traits.specs.declared.forms.Container.{Container}
use Rattle.protocol_traits.specs.declared.forms.Container.TheVariants as containers
use Rattle.protocol_traits.specs.declared.forms.Lead.{Lead}
use Rattle.protocol_traits.specs.declared.forms.Lead.TheVariants as leads
use Rattle.protocol_traits.specs.declared.forms.Opening.{Opening}
use Rattle.protocol_traits.specs.declared.forms.Opening.TheVariants as openings
use Rattle.protocol_traits.specs.declared.forms.Pairs.{Pairs}
use Rattle.protocol_traits.specs.declared.forms.Stand.{Stand}
use Rattle.protocol_traits.specs.declared.forms.Stand.TheVariants as stands
use Rattle.protocol_traits.specs.declared.fault.Reason.TheVariants as reasons
use Rattle.protocol_traits.specs.declared.nest.Slot.{Slot}
use Rattle.protocol_traits.specs.declared.nest.Slot.TheVariants as slots
use Rattle.protocol_traits.specs.declared.proto.Hint.{Hint}
use Rattle.protocol_traits.specs.Follow.{after}
use Rattle.protocol_traits.specs.Forms.{lead_item, elements_item, container_kind, pairs_item, part, Calls, IsDone, Steps, StepsTwice, StepsValue, StepsInto}
use Rattle.thrift_value.specs.declared.kind.MessageType.{MessageType}
use Rattle.protocol_traits.specs.Heads.{Header}
use Rattle.protocol_traits.specs.Stack.{first_of}
use Rattle.protocol_traits.specs.Steps.{Step, told}
use Rattle.compact_protocol.specs.Varints.{ReadsVarints}
use Rattle.compact_protocol.specs.Codes.{kind_of}
use Rattle.compact_protocol.specs.Scan.{Scan, fault, front_at, shifted, varint16_at, varint32_at, varint64_at, id_at, size_at, string_at, next_id, long_field, field_of, field_at, flag_of, i16_at, i32_at, i64_at, double_at, text_at, uuid_at, elements_at, set_at, list_at, kinds_at, map_at, value_at, value_in, opens, is_bool, field_value, next_of, item_in}
use Rattle.compact_protocol.specs.Reading.{State, rest, begun, moved, reads, reads_head, reads_end, scan_at}
use Rattle.compact_protocol.specs.Laws.{reads_ok, head_fits}

-- no hint tells this reader anything
abbrev pub next_read : State → Hint → Step State Item
next_read s hint = reads s

-- the reader stands at this place of this frame, in these levels
abbrev pub stands_at : State → List ℕ → ℕ → Opening → List Slot → Type 0
stands_at s frame at opening nest = (s.frame ≡ frame) × (s.place ≡ at) × (s.nest ≡ nest)

-- a scan from one place of the frame finds this, and it ends at another
abbrev pub Finds : {X : Type 0} → List ℕ → ℕ → (List ℕ → Scan X) → X → ℕ → Type 0
Finds frame at scan x behind = (scan (drop at frame) ≡ Ok (x, behind - at)) × (at < behind) × (behind ≤ length frame)

-- ---- what a level calls for

pub record CallsFor (nest : List Slot) (kind : Kind) : Type 0 where
  pub slot : Slot
  pub first : first_of nest ≡ Some slot
  pub calls_for : (depth : ℕ) (flag : Bool) (bytes : List ℕ) → item_in depth slot flag bytes ≡ value_in depth kind bytes

element_called : (own kind : Kind) (left : ℕ) → own ≡ kind → 0 < left → (depth : ℕ) (bytes : List ℕ) → next_of depth own left bytes ≡ value_in depth kind bytes
unfolding next_of
element_called own kind left same some depth bytes =
    let more : (left == 0) ≡ false = grind (arith, nat_tests) in
    rw more (ap (λ k. value_in depth k bytes) same)

field_called : (own kind : Kind) → own ≡ kind → is_bool kind ≡ false → (depth : ℕ) (flag : Bool) (bytes : List ℕ) → field_value depth own flag bytes ≡ value_in depth kind bytes
unfolding field_value
field_called own kind same plain depth flag bytes = ap (λ k. if is_bool k then Ok (bool_value flag, 0) else value_in depth k bytes) same ∙ rw plain refl

pub called : (stand : Stand) (kind : Kind) (opening : Opening) (nest : List Slot) → (stand ≡ stands.Field → is_bool kind ≡ false) → Calls stand kind opening nest → CallsFor nest kind
unfolding item_in
called stands.Field kind opening [] plain c = absurd c
called stands.Field kind opening (slots.Fields last ∷ up) plain c = absurd c
called stands.Field kind opening (slots.Value own id ∷ up) plain c = record { slot = slots.Value own id; first = refl; calls_for = field_called own kind c (plain refl) }
called stands.Field kind opening (slots.Elements own left ∷ up) plain c = absurd c
called stands.Field kind opening (slots.Keys key value left ∷ up) plain c = absurd c
called stands.Field kind opening (slots.Values key value left ∷ up) plain c = absurd c
called stands.Element kind opening [] plain c = absurd c
called stands.Element kind opening (slots.Fields last ∷ up) plain c = absurd c
called stands.Element kind opening (slots.Value own id ∷ up) plain c = absurd c
called stands.Element kind opening (slots.Elements own left ∷ up) plain c = record { slot = slots.Elements own left; first = refl; calls_for = λ depth flag. element_called own kind left c.0 c.1 depth }
called stands.Element kind opening (slots.Keys key value left ∷ up) plain c = absurd c
called stands.Element kind opening (slots.Values key value left ∷ up) plain c = absurd c
called stands.FirstKey kind opening [] plain c = absurd c
called stands.FirstKey kind opening (slots.Fields last ∷ up) plain c = absurd c
called stands.FirstKey kind opening (slots.Value own id ∷ up) plain c = absurd c
called stands.FirstKey kind opening (slots.Elements own left ∷ up) plain c = absurd c
called stands.FirstKey kind opening (slots.Keys key value left ∷ up) plain c = record { slot = slots.Keys key value left; first = refl; calls_for = λ depth flag. element_called key kind left c.0 c.1 depth }
called stands.FirstKey kind opening (slots.Values key value left ∷ up) plain c = absurd c
called stands.Key kind opening [] plain c = absurd c
called stands.Key kind opening (slots.Fields last ∷ up) plain c = absurd c
called stands.Key kind opening (slots.Value own id ∷ up) plain c = absurd c
called stands.Key kind opening (slots.Elements own left ∷ up) plain c = absurd c
called stands.Key kind opening (slots.Keys key value left ∷ up) plain c = record { slot = slots.Keys key value left; first = refl; calls_for = λ depth flag. element_called key kind left c.0 c.1 depth }
called stands.Key kind opening (slots.Values key value left ∷ up) plain c = absurd c
called stands.Value kind opening [] plain c = absurd c
called stands.Value kind opening (slots.Fields last ∷ up) plain c = absurd c
called stands.Value kind opening (slots.Value own id ∷ up) plain c = absurd c
called stands.Value kind opening (slots.Elements own left ∷ up) plain c = absurd c
called stands.Value kind opening (slots.Keys key value left ∷ up) plain c = absurd c
called stands.Value kind opening (slots.Values key value left ∷ up) plain c = record { slot = slots.Values key value left; first = refl; calls_for = λ depth flag bytes. ap (λ k. value_in depth k bytes) c }

-- ---- one item read

-- the innermost level's item is found in the frame, whatever the field before it told
pub read_there : (frame : List ℕ) (at taken : ℕ) (opening : Opening) (nest : List Slot) (hint : Hint) (slot : Slot) (item : Item)
    → first_of nest ≡ Some slot → ((flag : Bool) → item_in (length nest) slot flag (drop at frame) ≡ Ok (item, taken)) → Steps next_read stands_at frame at opening nest hint item (at + taken)
read_there frame at taken opening nest hint slot item first found s there =
    let now : rest s ≡ drop at frame = ap (λ (n : ℕ). drop n s.frame) there.1 ∙ ap (drop at) there.0 in
    let deep : item_in (length s.nest) slot s.flag (rest s) ≡ Ok (item, taken) = ap (λ (n : List Slot). item_in (length n) slot s.flag (rest s)) there.2 ∙ ap (item_in (length nest) slot s.flag) now ∙ found s.flag in (
      record { frame = s.frame; place = s.place + taken; value = s.place; flag = flag_of (rest s); nest = after item s.nest },
      reads_ok s slot (length s.nest) item taken (ap first_of there.2 ∙ first) refl (sym deep),
      (there.0, ap (λ n. n + taken) there.1, ap (after item) there.2),
    )

-- the same by the place behind
pub read_to : (frame : List ℕ) (at behind : ℕ) (opening : Opening) (nest : List Slot) (hint : Hint) (slot : Slot) (item : Item)
    → at ≤ behind → first_of nest ≡ Some slot → ((flag : Bool) → item_in (length nest) slot flag (drop at frame) ≡ Ok (item, behind - at)) → Steps next_read stands_at frame at opening nest hint item behind
read_to frame at behind opening nest hint slot item order first found =
    let there : at + (behind - at) ≡ behind = omega arith in
    subst (Steps next_read stands_at frame at opening nest hint item) there (read_there frame at (behind - at) opening nest hint slot item first found)

flat_in : (depth : ℕ) (kind : Kind) (bytes : List ℕ) → opens kind ≡ false → value_in depth kind bytes ≡ value_at kind bytes
unfolding value_in
flat_in depth kind bytes flat = rw flat refl

not_deep : (depth : ℕ) → depth < 256 → nat_le 256 depth ≡ false
not_deep depth h = grind (arith, nat_tests)

shallow_in : (depth : ℕ) (kind : Kind) (bytes : List ℕ) → depth < 256 → value_in depth kind bytes ≡ value_at kind bytes
unfolding value_in
shallow_in depth kind bytes shallow = rw (not_deep depth shallow) (split (opens kind))
  where
    split : (level : Bool) → (if level && false then fault 0 reasons.TooDeep else value_at kind bytes) ≡ value_at kind bytes
    split true = refl
    split false = refl

-- a value that opens no level
pub value_read : (frame : List ℕ) (at behind : ℕ) (stand : Stand) (kind : Kind) (item : Item) → opens kind ≡ false → (stand ≡ stands.Field → is_bool kind ≡ false) → Finds frame at (value_at kind) item behind
    → StepsValue next_read stands_at frame at stand kind item behind
value_read frame at behind stand kind item flat plain found opening nest hint calls_here =
    let c = called stand kind opening nest plain calls_here in
    read_to frame at behind opening nest hint c.slot item (omega (arith, found.1)) c.first (λ flag. c.calls_for (length nest) flag (drop at frame) ∙ flat_in (length nest) kind (drop at frame) flat ∙ found.0)

-- a value that may open one
pub level_read : (frame : List ℕ) (at behind : ℕ) (stand : Stand) (kind : Kind) (item : Item) → is_bool kind ≡ false → at ≤ behind → value_at kind (drop at frame) ≡ Ok (item, behind - at)
    → StepsInto next_read stands_at frame at stand kind item behind
level_read frame at behind stand kind item plain order found opening nest hint calls_here shallow =
    let c = called stand kind opening nest (λ _. plain) calls_here in
    read_to frame at behind opening nest hint c.slot item order c.first (λ flag. c.calls_for (length nest) flag (drop at frame) ∙ shallow_in (length nest) kind (drop at frame) shallow ∙ found)

pub struct_read : (frame : List ℕ) (at : ℕ) (stand : Stand) → StepsInto next_read stands_at frame at stand kinds.Struct struct_begin at
unfolding value_at
struct_read frame at stand = level_read frame at at stand kinds.Struct struct_begin refl (omega arith) (ap (λ n. Ok (struct_begin, n)) (omega arith))

-- ---- numbers

-- a number that was found at a place is what the scan finds there
pub number_there : (at number behind : ℕ) (found : Result (ℕ × ℕ) VarFault) → Some (number, behind) ≡ found_at at found → (taken : ℕ) × (found ≡ Ok (number, taken)) × (behind ≡ at + taken)
number_there at number behind (Ok x) e =
    let both : Some (number, behind) ≡ Some (x.0, at + x.1) = e in
    let pair = some_pair (number, behind) (x.0, at + x.1) both in
    (x.1, ap (λ n. Ok (n, x.1)) (sym (ap (λ p. p.0) pair)), ap (λ p. p.1) pair)
  where
    some_pair : (a b : ℕ × ℕ) → Some a ≡ Some b → a ≡ b
    some_pair a b e = cc
number_there at number behind (Err f) e = absurd (cc)

-- with the number of bytes that it took
pub record Number (frame : List ℕ) (at most width number behind : ℕ) : Type 0 where
  pub found : varint_at most width (drop at frame) ≡ Ok (number, behind - at)
  pub past : at < behind
  pub within : behind ≤ length frame
  pub small : number < 2 ^ width

pub number_at : (frame : List ℕ) (at most width number behind : ℕ) → at ≤ length frame → Some (number, behind) ≡ found_at at (varint_at most width (drop at frame)) → Number frame at most width number behind
number_at frame at most width number behind within e =
    let there = number_there at number behind (varint_at most width (drop at frame)) e in
    let size : Found width (length (drop at frame)) (Ok (number, there.0)) = subst (Found width (length (drop at frame))) there.1 (varint_found most width (drop at frame)) in
    let taken : there.0 ≡ behind - at = omega (arith, there.2) in
    record { found = there.1 ∙ ap (λ n. Ok (number, n)) taken; past = omega (arith, there.2, size.0); within = omega (arith, there.2, size.1, length-drop at frame); small = size.2 }

pub id_there : (frame : List ℕ) (at number behind : ℕ) → Number frame at 5 16 number behind → Finds frame at id_at (unfolded number) behind
unfolding id_at varint16_at
id_there frame at number behind n = (rw (n.found) refl, n.past, n.within)

pub i16_there : (frame : List ℕ) (at number behind : ℕ) → Number frame at 5 16 number behind → Finds frame at (value_at kinds.I16) (i16_value (unfolded number)) behind
unfolding value_at i16_at id_at varint16_at
i16_there frame at number behind n = (rw (n.found) refl, n.past, n.within)

pub i32_there : (frame : List ℕ) (at number behind : ℕ) → Number frame at 5 32 number behind → Finds frame at (value_at kinds.I32) (i32_value (unfolded number)) behind
unfolding value_at i32_at varint32_at
i32_there frame at number behind n = (rw (n.found) refl, n.past, n.within)

pub i64_there : (frame : List ℕ) (at number behind : ℕ) → Number frame at 10 64 number behind → Finds frame at (value_at kinds.I64) (i64_value (unfolded number)) behind
unfolding value_at i64_at varint64_at
i64_there frame at number behind n = (rw (n.found) refl, n.past, n.within)

-- a varint that stands at a place
number_found : (frame : List ℕ) (at most width number count : ℕ) → varint_at most width (drop at frame) ≡ Ok (number, count) → Number frame at most width number (at + count)
number_found frame at most width number count found =
    let size : Found width (length (drop at frame)) (Ok (number, count)) = subst (Found width (length (drop at frame))) found (varint_found most width (drop at frame)) in
    let taken : count ≡ at + count - at = omega arith in
    record { found = found ∙ ap (λ n. Ok (number, n)) taken; past = omega (arith, size.0); within = omega (arith, size.0, size.1, length-drop at frame); small = size.2 }

pub reads_varints : ReadsVarints next_read stands_at
reads_varints = record {
  i16 = λ frame at number count stand found.
      value_read frame at (at + count) stand kinds.I16 (i16_value (unfolded number)) refl (λ _. refl) (i16_there frame at number (at + count) (number_found frame at 5 16 number count found));
  i32 = λ frame at number count stand found.
      value_read frame at (at + count) stand kinds.I32 (i32_value (unfolded number)) refl (λ _. refl) (i32_there frame at number (at + count) (number_found frame at 5 32 number count found));
  i64 = λ frame at number count stand found.
      value_read frame at (at + count) stand kinds.I64 (i64_value (unfolded number)) refl (λ _. refl) (i64_there frame at number (at + count) (number_found frame at 10 64 number count found));
}

pub size_there : (frame : List ℕ) (at number behind : ℕ) → Number frame at 5 32 number behind → number < 2 ^ 31 → Finds frame at size_at number behind
unfolding size_at varint32_at
size_there frame at number behind n small =
    let fits : nat_lt number 2147483648 ≡ true = grind (arith, nat_tests) in
    (rw (n.found, fits) refl, n.past, n.within)

-- ---- a struct's next field

-- what a kind stands for in front of a field
abbrev pub lead_of_kind : Option Kind → Lead
lead_of_kind None = leads.Bad
lead_of_kind (Some kinds.Bool) = leads.Bool
lead_of_kind (Some kinds.I8) = leads.I8
lead_of_kind (Some kinds.I16) = leads.I16
lead_of_kind (Some kinds.I32) = leads.I32
lead_of_kind (Some kinds.I64) = leads.I64
lead_of_kind (Some kinds.Double) = leads.Double
lead_of_kind (Some kinds.Str) = leads.Str
lead_of_kind (Some kinds.Struct) = leads.Struct
lead_of_kind (Some kinds.Map) = leads.Map
lead_of_kind (Some kinds.Set) = leads.Set
lead_of_kind (Some kinds.List) = leads.List
lead_of_kind (Some kinds.Uuid) = leads.Uuid

abbrev pub IsGood : Lead → Type 0
IsGood lead = lead ≡ leads.Bad → ⊥

lead_kind : (kind : Kind) (id : ℤ) → lead_item (lead_of_kind (Some kind)) id ≡ field id kind
lead_kind kinds.Bool id = refl
lead_kind kinds.I8 id = refl
lead_kind kinds.I16 id = refl
lead_kind kinds.I32 id = refl
lead_kind kinds.I64 id = refl
lead_kind kinds.Double id = refl
lead_kind kinds.Str id = refl
lead_kind kinds.Struct id = refl
lead_kind kinds.Map id = refl
lead_kind kinds.Set id = refl
lead_kind kinds.List id = refl
lead_kind kinds.Uuid id = refl

first_there : (frame : List ℕ) (at : ℕ) → at < length frame → nat_lt (length (drop at frame)) 1 ≡ false
first_there frame at some = let more : 1 ≤ length (drop at frame) = omega (arith, length-drop at frame) in grind (arith, nat_tests)

pub byte_at : (frame : List ℕ) (at : ℕ) → slice_index (drop at frame) 0 ≡ slice_index frame at
byte_at frame at = get_or-drop at frame 0 0 ∙ ap (λ (n : ℕ). get_or frame n 0) (omega arith)

pub stop_there : (frame : List ℕ) (at : ℕ) (last : ℤ) → at < length frame → slice_index frame at ≡ 0 → Finds frame at (field_at last) stop (at + 1)
unfolding field_at
stop_there frame at last some ends =
    let one : at + 1 - at ≡ 1 = omega arith in
    let none : slice_index (drop at frame) 0 ≡ 0 = byte_at frame at ∙ ends in
    (rw (first_there frame at some, none, one) refl, omega arith, omega arith)

-- a field whose id lies so much above the last
short_of : (kind : Option Kind) (last id : ℤ) (bytes : List ℕ) (step : ℕ) → slice_index bytes 0 / 16 ≡ step → 1 ≤ step → next_id last step ≡ Some id → IsGood (lead_of_kind kind)
    → field_of last bytes kind ≡ Ok (lead_item (lead_of_kind kind) id, 1)
short_of None last id bytes step is some next good = absurd (good refl)
short_of (Some kind) last id bytes step is some next good =
    let more : (step == 0) ≡ false = grind (arith, nat_tests) in
    rw (is, more, next) (ap (λ item. Ok (item, 1)) (sym (lead_kind kind id)))

pub short_there : (frame : List ℕ) (at : ℕ) (last id : ℤ) → at < length frame → 1 ≤ slice_index frame at / 16 → next_id last (slice_index frame at / 16) ≡ Some id → IsGood (lead_of_kind (kind_of (slice_index frame at % 16)))
    → Finds frame at (field_at last) (lead_item (lead_of_kind (kind_of (slice_index frame at % 16))) id) (at + 1)
unfolding field_at
short_there frame at last id some step next good =
    let byte = byte_at frame at in
    let more : (slice_index frame at == 0) ≡ false = grind (arith, nat_tests) in
    let one : at + 1 - at ≡ 1 = omega arith in
    (rw (first_there frame at some, one) (rw byte (rw more (field_from (drop at frame) byte))), omega arith, omega arith)
  where
    field_from : (bytes : List ℕ) → slice_index bytes 0 ≡ slice_index frame at → field_of last bytes (kind_of (slice_index frame at % 16)) ≡ Ok (lead_item (lead_of_kind (kind_of (slice_index frame at % 16))) id, 1)
    field_from bytes byte = short_of (kind_of (slice_index frame at % 16)) last id bytes (slice_index frame at / 16) (ap (λ b. b / 16) byte) step next good

-- a field whose id stands in full
long_of : (kind : Option Kind) (last id : ℤ) (bytes : List ℕ) (taken : ℕ) → slice_index bytes 0 / 16 ≡ 0 → id_at (drop 1 bytes) ≡ Ok (id, taken) → IsGood (lead_of_kind kind)
    → field_of last bytes kind ≡ Ok (lead_item (lead_of_kind kind) id, 1 + taken)
unfolding long_field
long_of None last id bytes taken is found good = absurd (good refl)
long_of (Some kind) last id bytes taken is found good =
    let none : (slice_index bytes 0 / 16 == 0) ≡ true = grind (arith, nat_tests) in
    rw (none, found) (ap (λ item. Ok (item, 1 + taken)) (sym (lead_kind kind id)))

pub long_there : (frame : List ℕ) (at behind : ℕ) (last id : ℤ) → at < length frame → 1 ≤ slice_index frame at → slice_index frame at / 16 ≡ 0 → Finds frame (at + 1) id_at id behind → IsGood (lead_of_kind (kind_of (slice_index frame at)))
    → Finds frame at (field_at last) (lead_item (lead_of_kind (kind_of (slice_index frame at))) id) behind
unfolding field_at
long_there frame at behind last id some byte_some none found good =
    let byte = byte_at frame at in
    let more : (slice_index frame at == 0) ≡ false = grind (arith, nat_tests) in
    let low : slice_index frame at % 16 ≡ slice_index frame at = omega arith in
    let taken : 1 + (behind - (at + 1)) ≡ behind - at = omega (arith, found.1) in
    let next : id_at (drop 1 (drop at frame)) ≡ Ok (id, behind - (at + 1)) = ap id_at (drop-drop 1 at frame) ∙ found.0 in
    (rw (first_there frame at some, ← taken) (rw byte (rw (more, low) (long_of (kind_of (slice_index frame at)) last id (drop at frame) (behind - (at + 1)) (ap (λ b. b / 16) byte ∙ none) next good))), omega (arith, found.1), found.2)

pub field_read : (frame : List ℕ) (at behind : ℕ) (opening : Opening) (last : ℤ) (up : List Slot) (hint : Hint) (item : Item) → Finds frame at (field_at last) item behind
    → Steps next_read stands_at frame at opening (slots.Fields last ∷ up) hint item behind
unfolding item_in
field_read frame at behind opening last up hint item found = read_to frame at behind opening (slots.Fields last ∷ up) hint (slots.Fields last) item (omega (arith, found.1)) refl (λ flag. found.0)

-- ---- a bool field and its value

moved_flag : (s : State) (scan : Scan Item) → IfOk (moved s scan) (λ x. x.1.flag ≡ flag_of (rest s))
moved_flag s (Ok x) = refl
moved_flag s (Err f) = tt

reads_flag : (s : State) (item : Item) (mid : State) → reads s ≡ Ok (item, mid) → mid.flag ≡ flag_of (rest s)
unfolding reads
reads_flag s item mid e = subst (λ (r : Step State Item). IfOk r (λ x. x.1.flag ≡ flag_of (rest s))) e (moved_flag s (scan_at (first_of s.nest) (length s.nest) s.flag (rest s)))

flag_next : (s : State) (frame : List ℕ) (behind : ℕ) (opening : Opening) (id : ℤ) (up : List Slot) → stands_at s frame behind opening (slots.Value kinds.Bool id ∷ up)
    → (new : State) × (reads s ≡ Ok (bool_value s.flag, new)) × stands_at new frame behind openings.Old (after (bool_value s.flag) (slots.Value kinds.Bool id ∷ up))
unfolding item_in field_value
flag_next s frame behind opening id up there = (
  record { frame = s.frame; place = s.place + 0; value = s.place; flag = flag_of (rest s); nest = after (bool_value s.flag) s.nest },
  reads_ok s (slots.Value kinds.Bool id) (length s.nest) (bool_value s.flag) 0 (ap first_of there.2) refl refl,
  (there.0, omega (arith, there.1), ap (after (bool_value s.flag)) there.2),
)

pub flag_read : (frame : List ℕ) (at behind : ℕ) (opening : Opening) (id last : ℤ) (up : List Slot) (b : Bool) → b ≡ flag_of (drop at frame)
    → ((hint : Hint) → Steps next_read stands_at frame at opening (slots.Fields last ∷ up) hint (field id kinds.Bool) behind)
    → StepsTwice next_read stands_at frame at opening (slots.Fields last ∷ up) (field id kinds.Bool) (bool_value b) behind
flag_read frame at behind opening id last up b is first s hint later there =
    let one = first hint s there in
    let mid = one.0 in
    let now : rest s ≡ drop at frame = ap (λ (n : ℕ). drop n s.frame) there.1 ∙ ap (drop at) there.0 in
    let told_flag : mid.flag ≡ b = reads_flag s (field id kinds.Bool) mid one.1 ∙ ap flag_of now ∙ sym is in
    let two = flag_next mid frame behind openings.Old id up one.2 in
    (mid, two.0, one.1, two.1 ∙ ap (λ f. Ok (bool_value f, two.0)) told_flag, two.2)

-- ---- the end of a container

done_calls : (container : Container) (nest : List Slot) → IsDone container nest → (slot : Slot) × (first_of nest ≡ Some slot) × ((depth : ℕ) (flag : Bool) (bytes : List ℕ) → item_in depth slot flag bytes ≡ Ok (end, 0))
unfolding item_in next_of
done_calls containers.Map [] d = absurd d
done_calls containers.Map (slots.Fields last ∷ up) d = absurd d
done_calls containers.Map (slots.Value own id ∷ up) d = absurd d
done_calls containers.Map (slots.Elements own left ∷ up) d = absurd d
done_calls containers.Map (slots.Keys key value left ∷ up) d = (slots.Keys key value left, refl, λ depth flag bytes. rw d refl)
done_calls containers.Map (slots.Values key value left ∷ up) d = absurd d
done_calls containers.Set [] d = absurd d
done_calls containers.Set (slots.Fields last ∷ up) d = absurd d
done_calls containers.Set (slots.Value own id ∷ up) d = absurd d
done_calls containers.Set (slots.Elements own left ∷ up) d = (slots.Elements own left, refl, λ depth flag bytes. rw d refl)
done_calls containers.Set (slots.Keys key value left ∷ up) d = absurd d
done_calls containers.Set (slots.Values key value left ∷ up) d = absurd d
done_calls containers.List [] d = absurd d
done_calls containers.List (slots.Fields last ∷ up) d = absurd d
done_calls containers.List (slots.Value own id ∷ up) d = absurd d
done_calls containers.List (slots.Elements own left ∷ up) d = (slots.Elements own left, refl, λ depth flag bytes. rw d refl)
done_calls containers.List (slots.Keys key value left ∷ up) d = absurd d
done_calls containers.List (slots.Values key value left ∷ up) d = absurd d

pub end_read : (frame : List ℕ) (at : ℕ) (container : Container) (opening : Opening) (nest : List Slot) (hint : Hint) → IsDone container nest
    → Steps next_read stands_at frame at opening nest hint end at
end_read frame at container opening nest hint done =
    let d = done_calls container nest done in
    read_to frame at at opening nest hint d.0 end (omega arith) d.1 (λ flag. d.2 (length nest) flag (drop at frame) ∙ ap (λ n. Ok (end, n)) (omega arith))

-- ---- texts, uuids and doubles

pub text_there : (frame : List ℕ) (at size begin : ℕ) → Finds frame at size_at size begin → begin + size ≤ length frame
    → Finds frame at (value_at kinds.Str) (text (part frame begin (begin + size))) (begin + size)
unfolding value_at text_at string_at
text_there frame at size begin found within =
    let bytes = drop at frame in
    let taken = begin - at in
    let long : length bytes ≡ length frame - at = length-drop at frame in
    let fits : nat_lt (length bytes) (taken + size) ≡ false = grind (arith, nat_tests, long, found.1) in
    let here : drop taken bytes ≡ drop begin frame = drop-drop taken at frame ∙ ap (λ (n : ℕ). drop n frame) (omega (arith, found.1)) in
    let same : take size (drop taken bytes) ≡ part frame begin (begin + size) = ap (take size) here ∙ ap (λ (n : ℕ). take n (drop begin frame)) (omega arith) in
    let all : taken + size ≡ begin + size - at = omega (arith, found.1) in
    (rw (found.0, fits, same, all) refl, omega (arith, found.1), within)

pub uuid_there : (frame : List ℕ) (at : ℕ) → at + 16 ≤ length frame → Finds frame at (value_at kinds.Uuid) (uuid_value (part frame at (at + 16))) (at + 16)
unfolding value_at uuid_at
uuid_there frame at within =
    let long : length (drop at frame) ≡ length frame - at = length-drop at frame in
    let short : nat_lt (length (drop at frame)) 16 ≡ false = grind (arith, nat_tests, long) in
    let same : at + 16 - at ≡ 16 = omega arith in
    (rw (short, same) refl, omega arith, within)

eight_of : (bytes : List ℕ) → 8 ≤ length bytes → get_or bytes 0 0 ∷ get_or bytes 1 0 ∷ get_or bytes 2 0 ∷ get_or bytes 3 0 ∷ get_or bytes 4 0 ∷ get_or bytes 5 0 ∷ get_or bytes 6 0 ∷ get_or bytes 7 0 ∷ [] ≡ take 8 bytes
eight_of [] long = absurd (omega arith)
eight_of (a ∷ []) long = absurd (omega arith)
eight_of (a ∷ b ∷ []) long = absurd (omega arith)
eight_of (a ∷ b ∷ c ∷ []) long = absurd (omega arith)
eight_of (a ∷ b ∷ c ∷ d ∷ []) long = absurd (omega arith)
eight_of (a ∷ b ∷ c ∷ d ∷ e ∷ []) long = absurd (omega arith)
eight_of (a ∷ b ∷ c ∷ d ∷ e ∷ f ∷ []) long = absurd (omega arith)
eight_of (a ∷ b ∷ c ∷ d ∷ e ∷ f ∷ g ∷ []) long = absurd (omega arith)
eight_of (a ∷ b ∷ c ∷ d ∷ e ∷ f ∷ g ∷ h ∷ rest) long = refl

turned_bytes : (a b c d e f g h n : ℕ) → a < 256 → b < 256 → c < 256 → d < 256 → e < 256 → f < 256 → g < 256 → h < 256
    → n ≡ from_le_bytes w64 (a ∷ b ∷ c ∷ d ∷ e ∷ f ∷ g ∷ h ∷ []) → to_be_bytes w64 n ≡ h ∷ g ∷ f ∷ e ∷ d ∷ c ∷ b ∷ a ∷ []
turned_bytes a b c d e f g h n ha hb hc hd he hf hg hh is =
    be_bytes_8 (h ∷ g ∷ f ∷ e ∷ d ∷ c ∷ b ∷ a ∷ []) n refl below (omega arith)
  where
    below : (i : ℕ) → get_or (h ∷ g ∷ f ∷ e ∷ d ∷ c ∷ b ∷ a ∷ []) i 0 < 256
    below zero = hh
    below (suc zero) = hg
    below (suc (suc zero)) = hf
    below (suc (suc (suc zero))) = he
    below (suc (suc (suc (suc zero)))) = hd
    below (suc (suc (suc (suc (suc zero))))) = hc
    below (suc (suc (suc (suc (suc (suc zero)))))) = hb
    below (suc (suc (suc (suc (suc (suc (suc zero))))))) = ha
    below (suc (suc (suc (suc (suc (suc (suc (suc i)))))))) = omega arith

pub double_there : (bytes : List ℕ) (n : ℕ) → 8 ≤ length bytes → ((k : ℕ) → Fits w8 (get_or bytes k 0))
    → n ≡ from_le_bytes w64 (get_or bytes 0 0 ∷ get_or bytes 1 0 ∷ get_or bytes 2 0 ∷ get_or bytes 3 0 ∷ get_or bytes 4 0 ∷ get_or bytes 5 0 ∷ get_or bytes 6 0 ∷ get_or bytes 7 0 ∷ [])
    → double_at bytes ≡ Ok (double_value (to_be_bytes w64 n), 8)
unfolding double_at
double_there bytes n long small is =
    let short : nat_lt (length bytes) 8 ≡ false = grind (arith, nat_tests) in
    let turned : to_be_bytes w64 n ≡ reverse (take 8 bytes) =
    turned_bytes _ _ _ _ _ _ _ _ n (omega (arith, small 0)) (omega (arith, small 1)) (omega (arith, small 2)) (omega (arith, small 3)) (omega (arith, small 4)) (omega (arith, small 5)) (omega (arith, small 6)) (omega (arith, small 7)) is
    ∙ ap reverse (eight_of bytes long) in
    rw short (ap (λ b. Ok (double_value b, 8)) (sym turned))

-- ---- containers

-- what stands before the elements of a list or a set
pub short_elements : (frame : List ℕ) (at size : ℕ) (kind : Kind) → at < length frame → Some kind ≡ kind_of (slice_index frame at % 16) → size ≡ slice_index frame at / 16 → size < 15 → Finds frame at elements_at (kind, size) (at + 1)
unfolding elements_at
short_elements frame at size kind some is small few =
    let byte = byte_at frame at in
    let one : at + 1 - at ≡ 1 = omega arith in
    let fits : nat_lt (slice_index frame at / 16) 15 ≡ true = grind (arith, nat_tests) in
    (rw (first_there frame at some, one) (rw byte (rw (← is) (rw byte (rw fits (ap (λ n. Ok ((kind, n), 1)) (sym small)))))), omega arith, omega arith)

pub long_elements : (frame : List ℕ) (at size behind : ℕ) (kind : Kind) → at < length frame → Some kind ≡ kind_of (slice_index frame at % 16) → 15 ≤ slice_index frame at / 16 → Finds frame (at + 1) size_at size behind
    → Finds frame at elements_at (kind, size) behind
unfolding elements_at
long_elements frame at size behind kind some is large found =
    let byte = byte_at frame at in
    let fits : nat_lt (slice_index frame at / 16) 15 ≡ false = grind (arith, nat_tests) in
    let taken : 1 + (behind - (at + 1)) ≡ behind - at = omega (arith, found.1) in
    let next : size_at (drop 1 (drop at frame)) ≡ Ok (size, behind - (at + 1)) = ap size_at (drop-drop 1 at frame) ∙ found.0 in
    (rw (first_there frame at some, ← taken) (rw byte (rw (← is) (rw byte (rw (fits, next) refl)))), omega (arith, found.1), found.2)

-- the beginning of a list or a set from that
pub elements_there : (container : Container) (frame : List ℕ) (at behind : ℕ) (kind : Kind) (size : ℕ) → (container ≡ containers.Map → ⊥) → Finds frame at elements_at (kind, size) behind
    → value_at (container_kind container) (drop at frame) ≡ Ok (elements_item container kind size, behind - at)
unfolding value_at set_at list_at
elements_there containers.Map frame at behind kind size other found = absurd (other refl)
elements_there containers.Set frame at behind kind size other found = rw (found.0) refl
elements_there containers.List frame at behind kind size other found = rw (found.0) refl

container_plain : (container : Container) → is_bool (container_kind container) ≡ false
container_plain containers.Map = refl
container_plain containers.Set = refl
container_plain containers.List = refl

pub elements_read : (container : Container) (frame : List ℕ) (at behind : ℕ) (stand : Stand) (kind : Kind) (size : ℕ) → (container ≡ containers.Map → ⊥) → Finds frame at elements_at (kind, size) behind
    → StepsInto next_read stands_at frame at stand (container_kind container) (elements_item container kind size) behind
elements_read container frame at behind stand kind size other found =
    level_read frame at behind stand (container_kind container) (elements_item container kind size) (container_plain container) (omega (arith, found.1)) (elements_there container frame at behind kind size other found)

-- an empty map, and one with pairs
pub blank_there : (frame : List ℕ) (at behind : ℕ) (key value : Kind) → Finds frame at size_at 0 behind → Finds frame at (value_at kinds.Map) (pairs_item key value 0) behind
unfolding value_at map_at
blank_there frame at behind key value found = (rw (found.0) refl, found.1, found.2)

pub pairs_there : (frame : List ℕ) (at size mid : ℕ) (key value : Kind) → Finds frame at size_at size mid → mid < length frame → 0 < size
    → Some key ≡ kind_of (slice_index frame mid / 16) → Some value ≡ kind_of (slice_index frame mid % 16) → Finds frame at (value_at kinds.Map) (pairs_item key value size) (mid + 1)
unfolding value_at map_at kinds_at
pairs_there frame at size mid key value found within some first second =
    let more : (size == 0) ≡ false = grind (arith, nat_tests) in
    let taken = mid - at in
    let here : drop taken (drop at frame) ≡ drop mid frame = drop-drop taken at frame ∙ ap (λ (n : ℕ). drop n frame) (omega (arith, found.1)) in
    let byte = byte_at frame mid in
    let all : taken + 1 ≡ mid + 1 - at = omega (arith, found.1) in
    (rw (found.0, more, here, first_there frame mid within) (rw byte (rw (← first, ← second) (rw all refl))), omega (arith, found.1), omega arith)

-- ---- the header, and the end of the frame

stands_behind : (frame : List ℕ) (r : Step State Header) → IfOk r (λ x. (x.1.frame ≡ frame) × (x.1.nest ≡ slots.Fields (pos 0) ∷ []) × (length x.0.name ≤ x.1.place) × (x.1.place ≤ length frame))
    → IfOk r (λ x. stands_at x.1 frame x.1.place openings.Body (slots.Fields (pos 0) ∷ []) × (length x.0.name ≤ x.1.place) × (x.1.place ≤ length frame))
stands_behind frame (Ok x) h = ((h.0, refl, h.1), h.2, h.3)
stands_behind frame (Err f) h = tt

pub head_stands : (frame : List ℕ) → IfOk (reads_head (begun frame)) (λ x.
    stands_at x.1 frame x.1.place openings.Body (slots.Fields (pos 0) ∷ []) × (length x.0.name ≤ x.1.place) × (x.1.place ≤ length frame))
head_stands frame = stands_behind frame (reads_head (begun frame)) (head_fits frame)

pub whole_ends : (s : State) (frame : List ℕ) (opening : Opening) → stands_at s frame (length frame) opening [] → told (reads_end s) ≡ Ok tt
unfolding reads_end
whole_ends s frame opening there =
    let last : (s.place == length s.frame) ≡ true = ap (λ p. p == length s.frame) there.1 ∙ ap (λ f. length frame == length f) there.0 ∙ grind (arith, nat_tests) in
    rw (there.2, last) refl

-- a value of so many bytes at the front of those from a place on
pub front_read : (frame : List ℕ) (at taken : ℕ) (stand : Stand) (kind : Kind) (item : Item) → opens kind ≡ false → (stand ≡ stands.Field → is_bool kind ≡ false) → 1 ≤ taken
    → (value_at kind (drop at frame) ≡ Ok (item, taken)) × (taken ≤ length (drop at frame)) → StepsValue next_read stands_at frame at stand kind item (at + taken)
front_read frame at taken stand kind item flat plain some found =
    let same : taken ≡ at + taken - at = omega arith in
    let within : at + taken ≤ length frame = omega (arith, length-drop at frame, found.1) in
    value_read frame at (at + taken) stand kind item flat plain (found.0 ∙ ap (λ n. Ok (item, n)) same, omega arith, within)

-- what was found, if anything
pub value_seen : (frame : List ℕ) (at : ℕ) (stand : Stand) (kind : Kind) {X : Type 0} (item : X → Item) (found : Option (X × ℕ)) → opens kind ≡ false → is_bool kind ≡ false
    → IfSome found (λ x. Finds frame at (value_at kind) (item x.0) x.1) → IfSome found (λ x. StepsValue next_read stands_at frame at stand kind (item x.0) x.1)
value_seen frame at stand kind item (Some x) flat plain found = value_read frame at x.1 stand kind (item x.0) flat (λ _. plain) found
value_seen frame at stand kind item None flat plain found = tt

pub field_seen : (frame : List ℕ) (at : ℕ) (opening : Opening) (last : ℤ) (found : Option (Lead × ℤ × ℕ)) → IfSome found (λ x. IsGood x.0 → Finds frame at (field_at last) (lead_item x.0 x.1) x.2)
    → IfSome found (λ x. (up : List Slot) (hint : Hint) → IsGood x.0 → Steps next_read stands_at frame at opening (slots.Fields last ∷ up) hint (lead_item x.0 x.1) x.2)
field_seen frame at opening last (Some x) found = λ up hint good. field_read frame at x.2 opening last up hint (lead_item x.0 x.1) (found good)
field_seen frame at opening last None found = tt

pub elements_seen : (container : Container) (frame : List ℕ) (at : ℕ) (stand : Stand) (found : Option (Kind × ℕ × ℕ)) → (container ≡ containers.Map → ⊥) → IfSome found (λ x. Finds frame at elements_at (x.0, x.1) x.2)
    → IfSome found (λ x. StepsInto next_read stands_at frame at stand (container_kind container) (elements_item container x.0 x.1) x.2)
elements_seen container frame at stand (Some x) other found = elements_read container frame at x.2 stand x.0 x.1 other found
elements_seen container frame at stand None other found = tt

pub pairs_seen : (frame : List ℕ) (at : ℕ) (stand : Stand) (found : Option Pairs) → IfSome found (λ x. Finds frame at (value_at kinds.Map) (pairs_item x.key x.value x.size) x.behind)
    → IfSome found (λ x. StepsInto next_read stands_at frame at stand kinds.Map (pairs_item x.key x.value x.size) x.behind)
pairs_seen frame at stand (Some x) found = level_read frame at x.behind stand kinds.Map (pairs_item x.key x.value x.size) refl (omega (arith, found.1)) found.0
pairs_seen frame at stand None found = tt

-- where a header that was read leaves the reader
pub front_stands : (frame : List ℕ) (header : Header) (new : State) (taken : ℕ) → reads_head (begun frame) ≡ Ok (header, new) → new.place ≡ taken
    → stands_at new frame taken openings.Body (slots.Fields (pos 0) ∷ []) × (length header.name ≤ taken) × (taken ≤ length frame)
front_stands frame header new taken e place =
    let stood = subst (λ (r : Step State Header). IfOk r (λ x. stands_at x.1 frame x.1.place openings.Body (slots.Fields (pos 0) ∷ []) × (length x.0.name ≤ x.1.place) × (x.1.place ≤ length frame))) e (head_stands frame) in
    ((stood.0.0, place, stood.0.2), omega (arith, stood.1, place), omega (arith, stood.2, place))

pub head_read : (frame : List ℕ) (front : MessageType × ℤ) (at : ℕ) (name : List ℕ) (taken : ℕ) → front_at frame ≡ Ok (front, at) → shifted at (string_at (drop at frame)) ≡ Ok (name, taken)
    → (new : State) × (reads_head (begun frame) ≡ Ok (record { name = name; mtype = front.0; seq = front.1 }, new)) × (new.place ≡ taken)
unfolding reads_head
head_read frame front at name taken e more = (record { frame = frame; place = 0 + taken; value = 0 + at; flag = false; nest = slots.Fields (pos 0) ∷ [] }, rw (e, more) refl, omega arith)

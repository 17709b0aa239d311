-- The quick forms of the Binary protocol: where a reader and a writer stand, and what one form says of them.
use Rattle.std.proofs.Common.{◌≡◌, ℕ, ℤ, pos, ◌+◌, ◌-◌, ◌<◌, ◌≤◌, ◌^◌, Bool, true, false, List, [], ◌∷◌, length, take, drop, Option, Some, None, Ok, Err, refl, sym, ap, subst, ◌∙◌, arith, length-drop, add-zero}
use Rattle.std.specs.Prelude.{IfOk, nat_lt, nat_le, ◌==◌, ◌&&◌, if◌then◌else◌, slice_index}
use Rattle.std.specs.Int.{w16, w32, from_be_bytes, cast_signed}
use Rattle.std.proofs.lemmas.Bool.Decides.{nat_tests}
use Rattle.std.proofs.lemmas.List.{drop-drop}
use Rattle.thrift_value.specs.declared.kind.Kind.{Kind}
use Rattle.thrift_value.specs.declared.kind.MessageType.{MessageType}
use Rattle.thrift_value.specs.declared.kind.Kind.TheVariants as kinds
use Rattle.thrift_value.specs.Items.{Item, field, stop, bool_value, struct_begin, empty_map, end, uuid_value}
use Rattle.protocol_traits.specs.declared.forms.Container.{Container}
use Rattle.protocol_traits.specs.declared.forms.Container.TheVariants as containers
use Rattle.protocol_traits.specs.declared.forms.Lead.{Lead}
use Rattle.protocol_traits.specs.declared.forms.Lead.TheVariants as leads
use Rattle.protocol_traits.specs.declared.forms.Opening.{Opening}
use Rattle.protocol_traits.specs.declared.forms.Opening.TheVariants as openings
use Rattle.protocol_traits.specs.declared.forms.Stand.{Stand}
use Rattle.protocol_traits.specs.declared.forms.Stand.TheVariants as stands
use Rattle.protocol_traits.specs.declared.fault.Reason.TheVariants as reasons
use Rattle.protocol_traits.specs.declared.nest.Slot.{Slot}
use Rattle.protocol_traits.specs.declared.nest.Slot.TheVariants as slots
use Rattle.protocol_traits.specs.declared.proto.Hint.{Hint}
use Rattle.protocol_traits.specs.Follow.{after}
use Rattle.protocol_traits.specs.Forms.{lead_item, elements_item, container_kind, pairs_item, part, Calls, IsDone, IsPast, Steps, StepsTwice, StepsValue, StepsInto}
use Rattle.protocol_traits.specs.Heads.{Header}
use Rattle.protocol_traits.specs.Stack.{first_of}
use Rattle.protocol_traits.specs.Steps.{Step, told}
use Rattle.binary_protocol.specs.declared.scan.Called.TheVariants as calls
use Rattle.binary_protocol.specs.Codes.{kind_of_code}
use Rattle.binary_protocol.specs.Heads.{head_at, name_place, seq_at, strict_at, type_at, version_at}
use Rattle.binary_protocol.specs.Scan.{Scan, fault, unsigned_at, nests, called_for, item_in, value_in, value_at, field_of, field_at, string_at, uuid_at, shifted, size_at, zero_at, elements_at, set_at, list_at, map_of, map_at, is_bad_kind}
use Rattle.binary_protocol.specs.Reading.{State, rest, begun, headed, reads, reads_head, reads_end}
use Rattle.binary_protocol.specs.Laws.{head_was_read, reads_ok}

-- no hint tells this reader anything
abbrev pub next_read : State → Hint → Step State Item
next_read s hint = reads s

-- the reader stands at this place of this frame, in these levels
abbrev pub stands_at : State → List ℕ → ℕ → Opening → List Slot → Type 0
stands_at s frame at opening nest = (s.frame ≡ frame) × (s.place ≡ at) × (s.nest ≡ nest)

-- a scan of these bytes finds this, in so many of them
abbrev pub Finds : {X : Type 0} → List ℕ → Scan X → X → ℕ → Type 0
Finds bytes scan x taken = (scan ≡ Ok (x, taken)) × (taken ≤ length bytes)

-- ---- what a level calls for

pub record CallsFor (nest : List Slot) (kind : Kind) : Type 0 where
  pub slot : Slot
  pub first : first_of nest ≡ Some slot
  pub calls_for : called_for slot ≡ calls.Value kind

some_left : (left : ℕ) (kind own : Kind) → own ≡ kind → 0 < left → (if left == 0 then calls.End else calls.Value own) ≡ calls.Value kind
some_left left kind own same some = split (left == 0) refl
  where
    split : (b : Bool) → (left == 0) ≡ b → (if b then calls.End else calls.Value own) ≡ calls.Value kind
    split true e = absurd (grind (arith, nat_tests, e))
    split false e = ap calls.Value same

pub called : (stand : Stand) (kind : Kind) (opening : Opening) (nest : List Slot) → Calls stand kind opening nest → CallsFor nest kind
called stands.Field kind opening [] c = absurd c
called stands.Field kind opening (slots.Fields last ∷ up) c = absurd c
called stands.Field kind opening (slots.Value own id ∷ up) c = record { slot = slots.Value own id; first = refl; calls_for = ap calls.Value c }
called stands.Field kind opening (slots.Elements own left ∷ up) c = absurd c
called stands.Field kind opening (slots.Keys key value left ∷ up) c = absurd c
called stands.Field kind opening (slots.Values key value left ∷ up) c = absurd c
called stands.Element kind opening [] c = absurd c
called stands.Element kind opening (slots.Fields last ∷ up) c = absurd c
called stands.Element kind opening (slots.Value own id ∷ up) c = absurd c
called stands.Element kind opening (slots.Elements own left ∷ up) c = record { slot = slots.Elements own left; first = refl; calls_for = some_left left kind own c.0 c.1 }
called stands.Element kind opening (slots.Keys key value left ∷ up) c = absurd c
called stands.Element kind opening (slots.Values key value left ∷ up) c = absurd c
called stands.FirstKey kind opening [] c = absurd c
called stands.FirstKey kind opening (slots.Fields last ∷ up) c = absurd c
called stands.FirstKey kind opening (slots.Value own id ∷ up) c = absurd c
called stands.FirstKey kind opening (slots.Elements own left ∷ up) c = absurd c
called stands.FirstKey kind opening (slots.Keys key value left ∷ up) c = record { slot = slots.Keys key value left; first = refl; calls_for = some_left left kind key c.0 c.1 }
called stands.FirstKey kind opening (slots.Values key value left ∷ up) c = absurd c
called stands.Key kind opening [] c = absurd c
called stands.Key kind opening (slots.Fields last ∷ up) c = absurd c
called stands.Key kind opening (slots.Value own id ∷ up) c = absurd c
called stands.Key kind opening (slots.Elements own left ∷ up) c = absurd c
called stands.Key kind opening (slots.Keys key value left ∷ up) c = record { slot = slots.Keys key value left; first = refl; calls_for = some_left left kind key c.0 c.1 }
called stands.Key kind opening (slots.Values key value left ∷ up) c = absurd c
called stands.Value kind opening [] c = absurd c
called stands.Value kind opening (slots.Fields last ∷ up) c = absurd c
called stands.Value kind opening (slots.Value own id ∷ up) c = absurd c
called stands.Value kind opening (slots.Elements own left ∷ up) c = absurd c
called stands.Value kind opening (slots.Keys key value left ∷ up) c = absurd c
called stands.Value kind opening (slots.Values key value left ∷ up) c = record { slot = slots.Values key value left; first = refl; calls_for = ap calls.Value c }

-- ---- one item read

-- the innermost level's item is found in the frame
pub read_there : (frame : List ℕ) (at taken : ℕ) (opening : Opening) (nest : List Slot) (hint : Hint) (slot : Slot) (item : Item)
    → first_of nest ≡ Some slot → item_in (length nest) slot (drop at frame) ≡ Ok (item, taken) → Steps next_read stands_at frame at opening nest hint item (at + taken)
read_there frame at taken opening nest hint slot item first found s there =
    let now : rest s ≡ drop at frame = ap (λ (n : ℕ). drop n s.frame) there.1 ∙ ap (drop at) there.0 in
    let deep : item_in (length s.nest) slot (rest s) ≡ Ok (item, taken) = ap (λ (n : List Slot). item_in (length n) slot (rest s)) there.2 ∙ ap (item_in (length nest) slot) now ∙ found in (
      record { frame = s.frame; place = s.place + taken; value = s.place; nest = after item s.nest },
      reads_ok s slot (length s.nest) item taken (ap first_of there.2 ∙ first) refl (sym deep),
      (there.0, ap (λ n. n + taken) there.1, ap (after item) there.2),
    )

in_level : (depth : ℕ) (slot : Slot) (kind : Kind) (bytes : List ℕ) → called_for slot ≡ calls.Value kind → item_in depth slot bytes ≡ value_in depth kind bytes
in_level depth slot kind bytes calls_for = rw calls_for refl

flat_in : (depth : ℕ) (kind : Kind) (bytes : List ℕ) → nests kind ≡ false → value_in depth kind bytes ≡ value_at kind bytes
unfolding value_in
flat_in depth kind bytes flat = rw flat refl

not_deep : (depth : ℕ) → depth < 256 → nat_le 256 depth ≡ false
not_deep depth h = grind (arith, nat_tests)

shallow_in : (depth : ℕ) (kind : Kind) (bytes : List ℕ) → depth < 256 → value_in depth kind bytes ≡ value_at kind bytes
unfolding value_in
shallow_in depth kind bytes shallow = rw (not_deep depth shallow) (split (nests kind))
  where
    split : (level : Bool) → (if level && false then fault 0 reasons.TooDeep else value_at kind bytes) ≡ value_at kind bytes
    split true = refl
    split false = refl

-- a value that opens no level
pub value_read : (frame : List ℕ) (at taken : ℕ) (stand : Stand) (kind : Kind) (item : Item) → nests kind ≡ false → Finds (drop at frame) (value_at kind (drop at frame)) item taken
    → StepsValue next_read stands_at frame at stand kind item (at + taken)
value_read frame at taken stand kind item flat found opening nest hint calls_here =
    let c = called stand kind opening nest calls_here in
    read_there frame at taken opening nest hint c.slot item c.first (in_level (length nest) c.slot kind (drop at frame) c.calls_for ∙ flat_in (length nest) kind (drop at frame) flat ∙ found.0)

-- a value that may open one
pub level_read : (frame : List ℕ) (at taken : ℕ) (stand : Stand) (kind : Kind) (item : Item) → Finds (drop at frame) (value_at kind (drop at frame)) item taken
    → StepsInto next_read stands_at frame at stand kind item (at + taken)
level_read frame at taken stand kind item found opening nest hint calls_here shallow =
    let c = called stand kind opening nest calls_here in
    read_there frame at taken opening nest hint c.slot item c.first (in_level (length nest) c.slot kind (drop at frame) c.calls_for ∙ shallow_in (length nest) kind (drop at frame) shallow ∙ found.0)

-- the place behind what was found
pub found_past : {X : Type 0} (frame : List ℕ) (at taken : ℕ) (scan : Scan X) (x : X) → at ≤ length frame → Finds (drop at frame) scan x taken → 1 ≤ taken → IsPast at frame (at + taken)
found_past frame at taken scan x within found some = (omega arith, omega (arith, found.1, length-drop at frame))

-- ---- a struct's next field

-- what a kind stands for in front of a field
abbrev pub lead_of_kind : Option Kind → Lead
lead_of_kind None = leads.Bad
lead_of_kind (Some kinds.Bool) = leads.Bool
lead_of_kind (Some kinds.I8) = leads.I8
lead_of_kind (Some kinds.I16) = leads.I16
lead_of_kind (Some kinds.I32) = leads.I32
lead_of_kind (Some kinds.I64) = leads.I64
lead_of_kind (Some kinds.Double) = leads.Double
lead_of_kind (Some kinds.Str) = leads.Str
lead_of_kind (Some kinds.Struct) = leads.Struct
lead_of_kind (Some kinds.Map) = leads.Map
lead_of_kind (Some kinds.Set) = leads.Set
lead_of_kind (Some kinds.List) = leads.List
lead_of_kind (Some kinds.Uuid) = leads.Uuid

-- what a field's first byte stands for, and how many bytes it begins
abbrev pub led : Bool → Option Kind → Lead × ℕ
led true kind = (leads.Stop, 1)
led false kind = (lead_of_kind kind, 3)

abbrev pub lead_of : ℕ → Lead × ℕ
lead_of code = led (code == 0) (kind_of_code code)

abbrev pub IsGood : Lead → Type 0
IsGood lead = lead ≡ leads.Bad → ⊥

lead_kind : (kind : Kind) (id : ℤ) → lead_item (lead_of_kind (Some kind)) id ≡ field id kind
lead_kind kinds.Bool id = refl
lead_kind kinds.I8 id = refl
lead_kind kinds.I16 id = refl
lead_kind kinds.I32 id = refl
lead_kind kinds.I64 id = refl
lead_kind kinds.Double id = refl
lead_kind kinds.Str id = refl
lead_kind kinds.Struct id = refl
lead_kind kinds.Map id = refl
lead_kind kinds.Set id = refl
lead_kind kinds.List id = refl
lead_kind kinds.Uuid id = refl

of_kind : (kind : Option Kind) (bytes : List ℕ) (id : ℤ) → 3 ≤ length bytes → id ≡ cast_signed w16 (from_be_bytes w16 (slice_index bytes 1 ∷ slice_index bytes 2 ∷ [])) → IsGood (lead_of_kind kind)
    → field_of kind bytes ≡ Ok (lead_item (lead_of_kind kind) id, 3)
of_kind None bytes id long is good = absurd (good refl)
of_kind (Some kind) bytes id long is good =
    let short : nat_lt (length bytes) 3 ≡ false = grind (arith, nat_tests) in
    rw short (ap (λ i. Ok (field i kind, 3)) (sym is) ∙ ap (λ item. Ok (item, 3)) (sym (lead_kind kind id)))

pub lead_found : (bytes : List ℕ) (id : ℤ) (lead : Lead) (taken : ℕ) → 3 ≤ length bytes → id ≡ cast_signed w16 (from_be_bytes w16 (slice_index bytes 1 ∷ slice_index bytes 2 ∷ []))
    → lead ≡ (lead_of (slice_index bytes 0)).0 → taken ≡ (lead_of (slice_index bytes 0)).1 → IsGood lead → Finds bytes (field_at bytes) (lead_item lead id) taken
unfolding field_at
lead_found bytes id lead taken long is is_lead is_taken good =
    let some : nat_lt (length bytes) 1 ≡ false = grind (arith, nat_tests) in
    rw some (split (slice_index bytes 0 == 0) is_lead is_taken)
  where
    split : (b : Bool) → lead ≡ (led b (kind_of_code (slice_index bytes 0))).0 → taken ≡ (led b (kind_of_code (slice_index bytes 0))).1
        → Finds bytes (if b then Ok (stop, 1) else field_of (kind_of_code (slice_index bytes 0)) bytes) (lead_item lead id) taken
    split true here one = rw (here, one) (refl, omega arith)
    split false here three = rw (three, here) (of_kind (kind_of_code (slice_index bytes 0)) bytes id long is (rw here at good), long)

pub stop_found : (bytes : List ℕ) → 1 ≤ length bytes → slice_index bytes 0 ≡ 0 → Finds bytes (field_at bytes) stop 1
unfolding field_at
stop_found bytes some zero = grind (arith, nat_tests)

pub field_read : (frame : List ℕ) (at taken : ℕ) (opening : Opening) (last : ℤ) (up : List Slot) (hint : Hint) (item : Item) → Finds (drop at frame) (field_at (drop at frame)) item taken
    → Steps next_read stands_at frame at opening (slots.Fields last ∷ up) hint item (at + taken)
field_read frame at taken opening last up hint item found = read_there frame at taken opening (slots.Fields last ∷ up) hint (slots.Fields last) item refl found.0

-- a bool field and its value
pub flag_read : (frame : List ℕ) (at behind taken : ℕ) (opening : Opening) (id last : ℤ) (up : List Slot) (b : Bool)
    → ((hint : Hint) → Steps next_read stands_at frame at opening (slots.Fields last ∷ up) hint (field id kinds.Bool) behind)
    → Finds (drop behind frame) (value_at kinds.Bool (drop behind frame)) (bool_value b) taken
    → StepsTwice next_read stands_at frame at opening (slots.Fields last ∷ up) (field id kinds.Bool) (bool_value b) (behind + taken)
flag_read frame at behind taken opening id last up b first found s hint next there =
    let one = first hint s there in
    let two = value_read frame behind taken stands.Field kinds.Bool (bool_value b) refl found openings.Old (slots.Value kinds.Bool id ∷ up) next refl one.0 one.2 in
    (one.0, two.0, one.1, two.1, two.2)

-- ---- the end of a container

done_calls : (container : Container) (nest : List Slot) → IsDone container nest → (slot : Slot) × (first_of nest ≡ Some slot) × (called_for slot ≡ calls.End)
done_calls containers.Map [] d = absurd d
done_calls containers.Map (slots.Fields last ∷ up) d = absurd d
done_calls containers.Map (slots.Value own id ∷ up) d = absurd d
done_calls containers.Map (slots.Elements own left ∷ up) d = absurd d
done_calls containers.Map (slots.Keys key value left ∷ up) d = (slots.Keys key value left, refl, rw d refl)
done_calls containers.Map (slots.Values key value left ∷ up) d = absurd d
done_calls containers.Set [] d = absurd d
done_calls containers.Set (slots.Fields last ∷ up) d = absurd d
done_calls containers.Set (slots.Value own id ∷ up) d = absurd d
done_calls containers.Set (slots.Elements own left ∷ up) d = (slots.Elements own left, refl, rw d refl)
done_calls containers.Set (slots.Keys key value left ∷ up) d = absurd d
done_calls containers.Set (slots.Values key value left ∷ up) d = absurd d
done_calls containers.List [] d = absurd d
done_calls containers.List (slots.Fields last ∷ up) d = absurd d
done_calls containers.List (slots.Value own id ∷ up) d = absurd d
done_calls containers.List (slots.Elements own left ∷ up) d = (slots.Elements own left, refl, rw d refl)
done_calls containers.List (slots.Keys key value left ∷ up) d = absurd d
done_calls containers.List (slots.Values key value left ∷ up) d = absurd d

ends_in : (depth : ℕ) (slot : Slot) (bytes : List ℕ) → called_for slot ≡ calls.End → item_in depth slot bytes ≡ Ok (end, 0)
ends_in depth slot bytes calls_for = rw calls_for refl

pub end_read : (frame : List ℕ) (at : ℕ) (container : Container) (opening : Opening) (nest : List Slot) (hint : Hint) → IsDone container nest
    → Steps next_read stands_at frame at opening nest hint end at
end_read frame at container opening nest hint done =
    let d = done_calls container nest done in
    subst (Steps next_read stands_at frame at opening nest hint end) (add-zero at) (read_there frame at 0 opening nest hint d.0 end d.1 (ends_in (length nest) d.0 (drop at frame) d.2))

-- ---- texts and uuids in the frame

drop_more : (n m : ℕ) (xs : List ℕ) → drop m (drop n xs) ≡ drop (n + m) xs
drop_more n m xs = drop-drop m n xs

pub uuid_there : (frame : List ℕ) (at : ℕ) → 16 ≤ length (drop at frame) → Finds (drop at frame) (value_at kinds.Uuid (drop at frame)) (uuid_value (part frame at (at + 16))) 16
unfolding value_at uuid_at
uuid_there frame at long =
    let short : nat_lt (length (drop at frame)) 16 ≡ false = grind (arith, nat_tests) in
    let same : at + 16 - at ≡ 16 = omega arith in
    rw (short, same) (refl, long)

pub struct_there : (bytes : List ℕ) → Finds bytes (value_at kinds.Struct bytes) struct_begin 0
unfolding value_at
struct_there bytes = (refl, omega arith)

-- ---- the header, and the end of the frame

headed_stands : (frame : List ℕ) (scan : Scan Header) → scan ≡ head_at frame → IfOk (headed (begun frame) scan) (λ x.
    stands_at x.1 frame x.1.place openings.Body (slots.Fields (pos 0) ∷ []) × (length x.0.name ≤ x.1.place) × (x.1.place ≤ length frame))
headed_stands frame (Ok x) is =
    let good = head_was_read frame x.0 x.1 is in
    ((refl, refl, refl), omega (arith, good.pays), omega (arith, good.fits))
headed_stands frame (Err f) is = tt

pub head_stands : (frame : List ℕ) → IfOk (reads_head (begun frame)) (λ x.
    stands_at x.1 frame x.1.place openings.Body (slots.Fields (pos 0) ∷ []) × (length x.0.name ≤ x.1.place) × (x.1.place ≤ length frame))
unfolding reads_head
head_stands frame = headed_stands frame (head_at frame) refl

pub whole_ends : (s : State) (frame : List ℕ) (opening : Opening) → stands_at s frame (length frame) opening [] → told (reads_end s) ≡ Ok tt
unfolding reads_end
whole_ends s frame opening there =
    let last : (s.place == length s.frame) ≡ true = ap (λ p. p == length s.frame) there.1 ∙ ap (λ f. length frame == length f) there.0 ∙ grind (arith, nat_tests) in
    rw (there.2, last) refl

-- ---- containers

-- the beginning of a list or a set from what stands before its elements
pub elements_there : (container : Container) (bytes : List ℕ) (kind : Kind) (size : ℕ) → (container ≡ containers.Map → ⊥) → Finds bytes (elements_at bytes) (kind, size) 5
    → Finds bytes (value_at (container_kind container) bytes) (elements_item container kind size) 5
unfolding value_at set_at list_at
elements_there containers.Map bytes kind size other found = absurd (other refl)
elements_there containers.Set bytes kind size other found = (rw (found.0) refl, found.1)
elements_there containers.List bytes kind size other found = (rw (found.0) refl, found.1)

-- a map whose kinds are both told
pub pairs_found : (bytes : List ℕ) (key value : Kind) (size : ℕ) → 6 ≤ length bytes → Some key ≡ kind_of_code (slice_index bytes 0) → Some value ≡ kind_of_code (slice_index bytes 1)
    → Finds (drop 2 bytes) (size_at (drop 2 bytes)) size 4 → Finds bytes (map_at bytes) (pairs_item key value size) 6
unfolding map_at
pairs_found bytes key value size long first second found =
    let one : nat_lt (length bytes) 1 ≡ false = grind (arith, nat_tests) in
    let two : nat_lt (length bytes) 2 ≡ false = grind (arith, nat_tests) in
    rw (one, two, ← first, ← second, found.0) (refl, long)

abbrev number_found : Scan ℕ → ℕ
number_found (Ok x) = x.0
number_found (Err f) = 0

size_value : (bytes : List ℕ) (size : ℕ) → Finds bytes (size_at bytes) size 4 → unsigned_at w32 bytes ≡ size
unfolding size_at
size_value bytes size found =
    let short : nat_lt (length bytes) 4 ≡ false = grind (arith, nat_tests, found.1) in
    split (nat_lt (unsigned_at w32 bytes) (2 ^ 31)) (rw short at found.0)
  where
    split : (b : Bool) → (if b then Ok (unsigned_at w32 bytes, 4) else fault 0 reasons.BadSize) ≡ Ok (size, 4) → unsigned_at w32 bytes ≡ size
    split true e = ap number_found e
    split false e = absurd (cc)

zero_there : (bytes : List ℕ) → Finds bytes (size_at bytes) 0 4 → zero_at bytes ≡ Ok (0, 4)
unfolding size_at zero_at
zero_there bytes found =
    let long = found.1 in
    let sum = size_value bytes 0 found in
    let a : slice_index bytes 0 ≡ 0 = omega (arith, sum) in
    let b : slice_index bytes 1 ≡ 0 = omega (arith, sum) in
    let c : slice_index bytes 2 ≡ 0 = omega (arith, sum) in
    let d : slice_index bytes 3 ≡ 0 = omega (arith, sum) in
    grind (arith, nat_tests, a, b, c, d)

-- an empty map may have the byte 0 in the place of a kind
pub blank_found : (bytes : List ℕ) (key value : Kind) → 6 ≤ length bytes → is_bad_kind (slice_index bytes 0) ≡ false → is_bad_kind (slice_index bytes 1) ≡ false
    → Finds (drop 2 bytes) (size_at (drop 2 bytes)) 0 4 → Finds bytes (map_at bytes) (pairs_item key value 0) 6
unfolding map_at
blank_found bytes key value long first second found =
    let one : nat_lt (length bytes) 1 ≡ false = grind (arith, nat_tests) in
    let two : nat_lt (length bytes) 2 ≡ false = grind (arith, nat_tests) in
    rw (one, two, first, second) (split (kind_of_code (slice_index bytes 0)) (kind_of_code (slice_index bytes 1)))
  where
    none_at : zero_at (drop 2 bytes) ≡ Ok (0, 4)
    none_at = zero_there (drop 2 bytes) found

    split : (first second : Option Kind) → Finds bytes (shifted 2 (map_of first second (drop 2 bytes))) empty_map 6
    split None second = rw none_at (refl, long)
    split (Some key) None = rw none_at (refl, long)
    split (Some key) (Some value) = rw (found.0) (refl, long)

pub struct_read : (frame : List ℕ) (at : ℕ) (stand : Stand) → StepsInto next_read stands_at frame at stand kinds.Struct struct_begin at
struct_read frame at stand = subst (StepsInto next_read stands_at frame at stand kinds.Struct struct_begin) (add-zero at) (level_read frame at 0 stand kinds.Struct struct_begin (struct_there (drop at frame)))

-- a field takes a byte at least
abbrev TakesSome : Scan Item → Type 0
TakesSome (Ok x) = 1 ≤ x.1
TakesSome (Err f) = Unit {0}

field_some : (bytes : List ℕ) → TakesSome (field_at bytes)
unfolding field_at
field_some bytes = grind (arith, nat_tests)

field_takes : (bytes : List ℕ) (item : Item) (taken : ℕ) → field_at bytes ≡ Ok (item, taken) → 1 ≤ taken
field_takes bytes item taken found = subst TakesSome found (field_some bytes)

pub lead_past : (frame : List ℕ) (at taken : ℕ) (lead : Lead) (id : ℤ) → at ≤ length frame → Finds (drop at frame) (field_at (drop at frame)) (lead_item lead id) taken → IsPast at frame (at + taken)
lead_past frame at taken lead id within found = found_past frame at taken (field_at (drop at frame)) (lead_item lead id) within found (field_takes (drop at frame) (lead_item lead id) taken found.0)

-- where a header that was read leaves the reader
pub front_stands : (frame : List ℕ) (header : Header) (new : State) (taken : ℕ) → reads_head (begun frame) ≡ Ok (header, new) → new.place ≡ taken
    → stands_at new frame taken openings.Body (slots.Fields (pos 0) ∷ []) × (length header.name ≤ taken) × (taken ≤ length frame)
front_stands frame header new taken e place =
    let stood = subst (λ (r : Step State Header). IfOk r (λ x. stands_at x.1 frame x.1.place openings.Body (slots.Fields (pos 0) ∷ []) × (length x.0.name ≤ x.1.place) × (x.1.place ≤ length frame))) e (head_stands frame) in
    ((stood.0.0, place, stood.0.2), omega (arith, stood.1, place), omega (arith, stood.2, place))

pub front_read : (frame : List ℕ) (header : Header) (taken : ℕ) → Ok (header, taken) ≡ head_at frame
    → (new : State) × (reads_head (begun frame) ≡ Ok (header, new)) × (new.place ≡ taken)
unfolding reads_head
front_read frame header taken e = (record { frame = frame; place = 0 + taken; value = 0 + name_place frame; nest = slots.Fields (pos 0) ∷ [] }, rw (← e) refl, omega arith)

-- ---- the header, part by part

pub version_found : (bytes : List ℕ) (mtype : MessageType) → 4 ≤ length bytes → slice_index bytes 0 ≡ 128 → slice_index bytes 1 ≡ 1 → type_at (drop 3 bytes) ≡ Ok (mtype, 1) → version_at bytes ≡ Ok (mtype, 4)
unfolding version_at
version_found bytes mtype long first second known =
    let two : nat_lt (length bytes) 2 ≡ false = grind (arith, nat_tests) in
    let four : nat_lt (length bytes) 4 ≡ false = grind (arith, nat_tests) in
    rw (first, second, two, four, known) refl

pub head_found : (bytes : List ℕ) (mtype : MessageType) (size : ℕ) (seq : ℤ) → 4 ≤ length bytes → slice_index bytes 0 ≡ 128 → version_at bytes ≡ Ok (mtype, 4)
    → string_at (drop 4 bytes) ≡ Ok (take size (drop 4 (drop 4 bytes)), size + 4) → seq_at (drop (8 + size) bytes) ≡ Ok (seq, 4)
    → head_at bytes ≡ Ok (record { name = take (8 + size - 8) (drop 8 bytes); mtype = mtype; seq = seq }, 8 + size + 4)
unfolding head_at strict_at
head_found bytes mtype size seq long first version string sequence =
    let full : nat_lt (length bytes) 1 ≡ false = grind (arith, nat_tests) in
    let place : 4 + (size + 4) ≡ 8 + size = omega arith in
    let all : 8 + size - 8 ≡ size = omega arith in
    let same : take size (drop 4 (drop 4 bytes)) ≡ take (8 + size - 8) (drop 8 bytes) = rw all (ap (take size) (drop_more 4 4 bytes)) in
    let named : List ℕ → Header = λ text. record { name = text; mtype = mtype; seq = seq } in
    rw (full, first, version, string, place, sequence) (ap (λ (text : List ℕ). Ok (named text, 8 + size + 4)) same)

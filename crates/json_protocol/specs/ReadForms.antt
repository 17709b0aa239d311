-- The quick forms of the JSON protocol's reader: where it stands, and what one form says of it.
use Rattle.std.proofs.Common.{◌≡◌, ℕ, ℤ, pos, zero, suc, ◌+◌, ◌-◌, ◌<◌, ◌≤◌, Bool, true, false, List, [], ◌∷◌, length, take, drop, Some, Ok, refl, sym, ap, subst, ◌∙◌, arith, length-drop}
use Rattle.std.specs.Prelude.{negsuc, int_lt, nat_lt, nat_le, ◌==◌, ◌&&◌, if◌then◌else◌, slice_index}
use Rattle.std.proofs.lemmas.Bool.Decides.{nat_tests}
use Rattle.std.proofs.lemmas.List.{drop-drop, get_or-drop}
use Rattle.std.proofs.lemmas.List.Sums.{prefix_len-drop_no, prefix_len-drop_all}
use Rattle.thrift_value.specs.declared.kind.Kind.{Kind}
use Rattle.thrift_value.specs.declared.kind.Kind.TheVariants as kinds
use Rattle.thrift_value.specs.Items.{Item, field, stop, bool_value, i8_value, i16_value, i32_value, i64_value, text, struct_begin, end}
use Rattle.thrift_value.specs.declared.kind.MessageType.{MessageType}
use Rattle.protocol_traits.specs.declared.fault.Reason.TheVariants as reasons
use Rattle.protocol_traits.specs.declared.forms.Container.{Container}
use Rattle.protocol_traits.specs.declared.forms.Container.TheVariants as containers
use Rattle.protocol_traits.specs.declared.forms.Opening.{Opening}
use Rattle.protocol_traits.specs.declared.forms.Opening.TheVariants as openings
use Rattle.protocol_traits.specs.declared.forms.Stand.{Stand}
use Rattle.protocol_traits.specs.declared.forms.Stand.TheVariants as stands
use Rattle.protocol_traits.specs.declared.nest.Slot.{Slot}
use Rattle.protocol_traits.specs.declared.nest.Slot.TheVariants as slots
use Rattle.protocol_traits.specs.declared.proto.Hint.{Hint}
use Rattle.protocol_traits.specs.declared.proto.Hint.TheVariants as hints
use Rattle.protocol_traits.specs.Follow.{after}
use Rattle.protocol_traits.specs.Forms.{elements_item, container_kind, pairs_item, part, Calls, IsDone, IsPast, Steps, StepsTwice, StepsValue, StepsInto}
use Rattle.protocol_traits.specs.Heads.{Header}
use Rattle.protocol_traits.specs.Stack.{first_of}
use Rattle.protocol_traits.specs.Steps.{told}
use Rattle.json_text.specs.Scan as words
use Rattle.json_text.specs.Scan.{is_white}
use Rattle.json_text.specs.Places.{IsInside}
use Rattle.json_text.specs.declared.scanned.Scan.{Scan as Text}
use Rattle.json_text.specs.declared.scanned.Scan.TheVariants.{Whole, Short, Bad}
use Rattle.json_text.specs.Text.{text_at}
use Rattle.json_text.specs.Blob.{blob_at}
use Rattle.json_text.specs.Lengths.{BlobFits, blob_fits}
use Rattle.json_protocol.specs.declared.opening.Opening.{Opening as Own}
use Rattle.json_protocol.specs.declared.opening.Opening.TheVariants as owns
use Rattle.json_protocol.specs.Scan.{Scan, fault, item, shifted, gap, further, mark_at}
use Rattle.json_protocol.specs.Words.{kind_at, int_in, quoted_int_in, whole_in, text_in, blob_in, string_in}
use Rattle.json_protocol.specs.Values.{i16_low, field_at, first_at, next_at, bool_at, i8_at, i16_at, i32_at, i64_at, struct_at, size_in, sequence_at, list_at, set_at, map_head_at, no_pairs_at, map_at, end_at, value_at, opens, value_in}
use Rattle.json_protocol.specs.Reading.{State, begun, rest, lead_by, lead_pairs, lead_fields, lead_key, lead_at, fields_at, item_in, begun_at, led, opening_after as own_after, reads}
use Rattle.json_protocol.specs.Head.{type_of, front_at, back_at, head_at, reads_head, end_scan, reads_end}
use Rattle.json_protocol.specs.Laws.{reads_ok}
use Rattle.json_protocol.specs.WriteForms.{own, same_after, stand_key}

-- ---- where the reader stands

-- only the bracket that closes the message is left
abbrev pub IsLast : List ℕ → ℕ → Type 0
IsLast frame place = (place + 1 ≡ length frame) × (slice_index frame place ≡ 93)

-- The place of the reader where a form stands at another: the same; but at the end of the frame a form stands behind the
-- bracket that closes the message, which the reader has before it.
abbrev pub IsPlace : List ℕ → ℕ → ℕ → Type 0
IsPlace frame at place = (at < length frame → place ≡ at) × (length frame ≤ at → IsLast frame place)

-- the reader stands at this place of this frame, in these levels, with so much read of the innermost
abbrev pub stands_at : State → List ℕ → ℕ → Opening → List Slot → Type 0
stands_at s frame at opening nest = (s.frame ≡ frame) × IsPlace frame at s.place × (s.nest ≡ nest) × (s.opening ≡ own opening)

-- ---- marks

-- a mark, and the place behind it, where a byte stands
abbrev pub IsMark : List ℕ → ℕ → ℕ → ℕ → Type 0
IsMark frame at mark behind = (slice_index frame at ≡ mark) × (behind ≡ at + 1) × (behind < length frame)

-- the marks before a value, by where it stands
abbrev pub Leads : Stand → List ℕ → ℕ → ℕ → Type 0
Leads stands.Field frame at begin = IsMark frame at 58 begin
Leads stands.Element frame at begin = IsMark frame at 44 begin
Leads stands.FirstKey frame at begin = IsMark frame at 44 (at + 1) × IsMark frame (at + 1) 123 begin
Leads stands.Key frame at begin = IsMark frame at 44 begin
Leads stands.Value frame at begin = IsMark frame at 58 begin

-- the brace before a field or the end of a struct: of the body, none, or of the value before
abbrev pub FieldLeads : Opening → List ℕ → ℕ → ℕ → Type 0
FieldLeads openings.Body frame at begin = IsMark frame at 123 begin
FieldLeads openings.New frame at begin = (begin ≡ at) × (begin < length frame)
FieldLeads openings.Old frame at begin = IsMark frame at 125 begin

-- the comma between two fields
abbrev pub Separates : Opening → List ℕ → ℕ → ℕ → Type 0
Separates openings.Old frame at place = IsMark frame at 44 place
Separates opening frame at place = (place ≡ at) × (place < length frame)

-- behind the brace that ends a struct, and behind the last bracket
abbrev pub IsStop : List ℕ → ℕ → ℕ → Type 0
IsStop frame at behind = IsPlace frame behind (at + 1) × (at < behind) × (behind ≤ length frame)

-- the brackets that end a container
abbrev pub Ends : Container → List ℕ → ℕ → ℕ → Type 0
Ends containers.Map frame at behind = IsMark frame at 125 (at + 1) × IsMark frame (at + 1) 93 behind
Ends container frame at behind = IsMark frame at 93 behind

-- behind the size of a map without pairs
abbrev pub EndsMap : List ℕ → ℕ → ℕ → Type 0
EndsMap frame at behind = IsMark frame at 44 (at + 1) × IsMark frame (at + 1) 123 (at + 2) × IsMark frame (at + 2) 125 (at + 3) × IsMark frame (at + 3) 93 behind

-- ---- what is found

-- a scan from one place of the frame finds this, and it ends at another, where a byte stands
abbrev pub Finds : {X : Type 0} → List ℕ → ℕ → (List ℕ → Scan X) → X → ℕ → Type 0
Finds frame at scan x behind = (scan (drop at frame) ≡ Ok (x, behind - at)) × IsInside frame at behind

-- the same behind the marks before a value
pub record Valued {X : Type 0} (frame : List ℕ) (at : ℕ) (stand : Stand) (scan : List ℕ → Scan X) (x : X) (behind : ℕ) : Type 0 where
  pub begin : ℕ
  pub leads : Leads stand frame at begin
  pub solid : is_white (slice_index frame begin) ≡ false
  pub found : Finds frame begin scan x behind

-- the header of a frame, and the place behind it
pub record HeadFound (frame : List ℕ) (header : Header) (behind : ℕ) : Type 0 where
  pub start : ℕ
  pub found : head_at frame ≡ Ok ((header, start), behind)
  pub short : length header.name ≤ behind
  pub within : behind < length frame

-- ---- scans at places

pub leads_past : (stand : Stand) (frame : List ℕ) (at begin : ℕ) → Leads stand frame at begin → at < begin
leads_past stands.Field frame at begin l = omega (arith, l.1)
leads_past stands.Element frame at begin l = omega (arith, l.1)
leads_past stands.FirstKey frame at begin l = omega (arith, l.1.1)
leads_past stands.Key frame at begin l = omega (arith, l.1)
leads_past stands.Value frame at begin l = omega (arith, l.1)

-- the value is behind where its marks began
pub valued_past : {X : Type 0} (frame : List ℕ) (at behind : ℕ) (stand : Stand) (scan : List ℕ → Scan X) (x : X) → Valued frame at stand scan x behind → IsPast at frame behind
valued_past frame at behind stand scan x v = (omega (arith, leads_past stand frame at v.begin v.leads, v.found.1.0), omega (arith, v.found.1.1))

inside_place : (frame : List ℕ) (behind : ℕ) → behind < length frame → IsPlace frame behind behind
inside_place frame behind within = (λ _. refl, λ past. absurd (omega arith))

first_there : (frame : List ℕ) (at : ℕ) → slice_index (drop at frame) 0 ≡ slice_index frame at
first_there frame at = get_or-drop at frame 0 0 ∙ ap (λ n. slice_index frame n) (omega arith)

gap_none : (frame : List ℕ) (at : ℕ) → at < length frame → is_white (slice_index frame at) ≡ false → gap (drop at frame) ≡ 0
gap_none frame at there solid = prefix_len-drop_no is_white frame at 0 there solid

-- the rest from one place on is the rest from another on, so many bytes further
rest_there : (frame : List ℕ) (from at : ℕ) → from ≤ at → drop (at - from) (drop from frame) ≡ drop at frame
rest_there frame from at order = drop-drop (at - from) from frame ∙ ap (λ n. drop n frame) (omega arith)

mark_found : (frame : List ℕ) (at mark behind : ℕ) → IsMark frame at mark behind → mark_at mark (drop at frame) ≡ Ok (tt, behind - at)
unfolding mark_at
mark_found frame at mark behind m =
    let long : length (drop at frame) ≡ length frame - at = length-drop at frame in
    let some : nat_lt (length (drop at frame)) 1 ≡ false = grind (arith, nat_tests, long, m.1, m.2) in
    let there : (slice_index (drop at frame) 0 == mark) ≡ true = grind (arith, nat_tests, first_there frame at, m.0) in
    let one : 1 ≡ behind - at = omega (arith, m.1) in
    rw (some, there) (ap (λ n. Ok (tt, n)) one)

module _ {X : Type 0} where
  -- a scan so many bytes further on, where no whitespace stands
  further_found : (frame : List ℕ) (from n at behind : ℕ) (scan : List ℕ → Scan X) (x : X) → n ≡ at - from → from ≤ at → at < length frame → is_white (slice_index frame at) ≡ false
      → at ≤ behind → scan (drop at frame) ≡ Ok (x, behind - at) → further n scan (drop from frame) ≡ Ok (x, behind - from)
  further_found frame from n at behind scan x is order there solid onward found =
      let same : drop n (drop from frame) ≡ drop at frame = ap (λ k. drop k (drop from frame)) is ∙ rest_there frame from at order in
      let none : n + gap (drop n (drop from frame)) ≡ n = omega (arith, ap gap same, gap_none frame at there solid) in
      let all : n + (behind - at) ≡ behind - from = omega (arith, is) in
      ap (λ k. shifted k (scan (drop k (drop from frame)))) none ∙ ap (λ r. shifted n (scan r)) same ∙ ap (shifted n) found ∙ ap (λ k. Ok (x, k)) all

mark_solid : (frame : List ℕ) (at mark behind : ℕ) → IsMark frame at mark behind → is_white mark ≡ false → is_white (slice_index frame at) ≡ false
mark_solid frame at mark behind m solid = ap is_white (m.0) ∙ solid

further_mark : (frame : List ℕ) (from n at mark behind : ℕ) → n ≡ at - from → from ≤ at → is_white mark ≡ false → IsMark frame at mark behind → further n (mark_at mark) (drop from frame) ≡ Ok (tt, behind - from)
further_mark frame from n at mark behind is order solid m =
    further_found frame from n at behind (mark_at mark) tt is order (omega (arith, m.1, m.2)) (mark_solid frame at mark behind m solid) (omega (arith, m.1)) (mark_found frame at mark behind m)

-- a mark and no whitespace behind it
lead_found : (frame : List ℕ) (from mark begin : ℕ) → is_white mark ≡ false → IsMark frame from mark begin → is_white (slice_index frame begin) ≡ false → lead_by mark (drop from frame) ≡ Ok (tt, begin - from)
lead_found frame from mark begin solid m clear =
    let order : from ≤ begin = omega (arith, m.1) in
    let none : begin - from + gap (drop (begin - from) (drop from frame)) ≡ begin - from = omega (arith, ap gap (rest_there frame from begin order), gap_none frame begin m.2 clear) in
    rw (further_mark frame from 0 from mark begin (omega arith) (omega arith) solid m) (ap (λ n. Ok (tt, n)) none)

pairs_lead_found : (frame : List ℕ) (from begin : ℕ) → IsMark frame from 44 (from + 1) → IsMark frame (from + 1) 123 begin → is_white (slice_index frame begin) ≡ false → lead_pairs (drop from frame) ≡ Ok (tt, begin - from)
unfolding lead_pairs
pairs_lead_found frame from begin comma brace clear =
    let order : from ≤ begin = omega (arith, brace.1) in
    let none : begin - from + gap (drop (begin - from) (drop from frame)) ≡ begin - from = omega (arith, ap gap (rest_there frame from begin order), gap_none frame begin brace.2 clear) in
    rw (further_mark frame from 0 from 44 (from + 1) (omega arith) (omega arith) refl comma, further_mark frame from (from + 1 - from) (from + 1) 123 begin refl (omega arith) refl brace) (ap (λ n. Ok (tt, n)) none)

-- ---- what a level calls for

pub record CallsFor (stand : Stand) (kind : Kind) (opening : Opening) (nest : List Slot) : Type 0 where
  pub slot : Slot
  pub first : first_of nest ≡ Some slot
  pub led_by : (frame : List ℕ) (at begin : ℕ) → Leads stand frame at begin → is_white (slice_index frame begin) ≡ false → lead_at (own opening) slot (drop at frame) ≡ Ok (tt, begin - at)
  pub calls_for : (depth : ℕ) (hint : Hint) (bytes : List ℕ) → item_in depth (own opening) hint slot bytes ≡ value_in depth (stand_key stand) hint kind bytes

more_left : (left : ℕ) → 0 < left → (left == 0) ≡ false
more_left left some = grind (arith, nat_tests)

field_calls : (kind own_kind : Kind) (id : ℤ) (opening : Opening) (up : List Slot) → own_kind ≡ kind → CallsFor stands.Field kind opening (slots.Value own_kind id ∷ up)
unfolding lead_at item_in
field_calls kind own_kind id opening up same = record {
  slot = slots.Value own_kind id;
  first = refl;
  led_by = λ frame at begin l clear. lead_found frame at 58 begin refl l clear;
  calls_for = λ depth hint bytes. ap (λ k. value_in depth false hint k bytes) same;
}

element_calls : (kind own_kind : Kind) (left : ℕ) (opening : Opening) (up : List Slot) → own_kind ≡ kind → 0 < left → CallsFor stands.Element kind opening (slots.Elements own_kind left ∷ up)
unfolding lead_at item_in
element_calls kind own_kind left opening up same some = record {
  slot = slots.Elements own_kind left;
  first = refl;
  led_by = λ frame at begin l clear. rw (more_left left some) (lead_found frame at 44 begin refl l clear);
  calls_for = λ depth hint bytes. rw (more_left left some) (ap (λ k. value_in depth false hint k bytes) same);
}

first_key_calls : (kind key value : Kind) (left : ℕ) (opening : Opening) (up : List Slot) → key ≡ kind → 0 < left → opening ≡ openings.New → CallsFor stands.FirstKey kind opening (slots.Keys key value left ∷ up)
unfolding lead_at lead_key item_in
first_key_calls kind key value left opening up same some new = record {
  slot = slots.Keys key value left;
  first = refl;
  led_by = λ frame at begin l clear. rw (more_left left some, new) (pairs_lead_found frame at begin l.0 l.1 clear);
  calls_for = λ depth hint bytes. rw (more_left left some) (ap (λ k. value_in depth true hint k bytes) same);
}

key_calls : (kind key value : Kind) (left : ℕ) (opening : Opening) (up : List Slot) → key ≡ kind → 0 < left → opening ≡ openings.Old → CallsFor stands.Key kind opening (slots.Keys key value left ∷ up)
unfolding lead_at lead_key item_in
key_calls kind key value left opening up same some old = record {
  slot = slots.Keys key value left;
  first = refl;
  led_by = λ frame at begin l clear. rw (more_left left some, old) (lead_found frame at 44 begin refl l clear);
  calls_for = λ depth hint bytes. rw (more_left left some) (ap (λ k. value_in depth true hint k bytes) same);
}

value_calls : (kind key value : Kind) (left : ℕ) (opening : Opening) (up : List Slot) → value ≡ kind → CallsFor stands.Value kind opening (slots.Values key value left ∷ up)
unfolding lead_at item_in
value_calls kind key value left opening up same = record {
  slot = slots.Values key value left;
  first = refl;
  led_by = λ frame at begin l clear. lead_found frame at 58 begin refl l clear;
  calls_for = λ depth hint bytes. ap (λ k. value_in depth false hint k bytes) same;
}

called : (stand : Stand) (kind : Kind) (opening : Opening) (nest : List Slot) → Calls stand kind opening nest → CallsFor stand kind opening nest
called stands.Field kind opening [] c = absurd c
called stands.Field kind opening (slots.Fields last ∷ up) c = absurd c
called stands.Field kind opening (slots.Value k id ∷ up) c = field_calls kind k id opening up c
called stands.Field kind opening (slots.Elements k left ∷ up) c = absurd c
called stands.Field kind opening (slots.Keys key value left ∷ up) c = absurd c
called stands.Field kind opening (slots.Values key value left ∷ up) c = absurd c
called stands.Element kind opening [] c = absurd c
called stands.Element kind opening (slots.Fields last ∷ up) c = absurd c
called stands.Element kind opening (slots.Value k id ∷ up) c = absurd c
called stands.Element kind opening (slots.Elements k left ∷ up) c = element_calls kind k left opening up c.0 c.1
called stands.Element kind opening (slots.Keys key value left ∷ up) c = absurd c
called stands.Element kind opening (slots.Values key value left ∷ up) c = absurd c
called stands.FirstKey kind opening [] c = absurd c
called stands.FirstKey kind opening (slots.Fields last ∷ up) c = absurd c
called stands.FirstKey kind opening (slots.Value k id ∷ up) c = absurd c
called stands.FirstKey kind opening (slots.Elements k left ∷ up) c = absurd c
called stands.FirstKey kind opening (slots.Keys key value left ∷ up) c = first_key_calls kind key value left opening up c.0 c.1 c.2
called stands.FirstKey kind opening (slots.Values key value left ∷ up) c = absurd c
called stands.Key kind opening [] c = absurd c
called stands.Key kind opening (slots.Fields last ∷ up) c = absurd c
called stands.Key kind opening (slots.Value k id ∷ up) c = absurd c
called stands.Key kind opening (slots.Elements k left ∷ up) c = absurd c
called stands.Key kind opening (slots.Keys key value left ∷ up) c = key_calls kind key value left opening up c.0 c.1 c.2
called stands.Key kind opening (slots.Values key value left ∷ up) c = absurd c
called stands.Value kind opening [] c = absurd c
called stands.Value kind opening (slots.Fields last ∷ up) c = absurd c
called stands.Value kind opening (slots.Value k id ∷ up) c = absurd c
called stands.Value kind opening (slots.Elements k left ∷ up) c = absurd c
called stands.Value kind opening (slots.Keys key value left ∷ up) c = absurd c
called stands.Value kind opening (slots.Values key value left ∷ up) c = value_calls kind key value left opening up c

-- ---- one item read

abbrev begun_shifted : ℕ → Scan Item → Scan (Item × ℕ)
begun_shifted n scan = begun_at n (shifted n scan)

-- the item behind its marks that the innermost level calls for is found in the frame
read_there : (frame : List ℕ) (at begin place behind : ℕ) (opening : Opening) (nest : List Slot) (hint : Hint) (slot : Slot) (item : Item) → at < length frame → at ≤ begin → begin ≤ place
    → first_of nest ≡ Some slot → lead_at (own opening) slot (drop at frame) ≡ Ok (tt, begin - at) → item_in (length nest) (own opening) hint slot (drop begin frame) ≡ Ok (item, place - begin)
    → IsPlace frame behind place → Steps reads stands_at frame at opening nest hint item behind
read_there frame at begin place behind opening nest hint slot item within onward further_on first lead found there s stood =
    let here : s.place ≡ at = stood.1.0 within in
    let now : rest s ≡ drop at frame = ap (λ (n : ℕ). drop n s.frame) here ∙ ap (drop at) stood.0 in
    let all : begin - at + (place - begin) ≡ place - at = omega arith in
    let item_there : led (length nest) (own opening) hint slot (drop at frame) (Ok (tt, begin - at)) ≡ Ok ((item, begin - at), place - at) =
    ap (λ r. begun_shifted (begin - at) (item_in (length nest) (own opening) hint slot r)) (rest_there frame at begin onward) ∙ ap (begun_shifted (begin - at)) found ∙ ap (λ n. Ok ((item, begin - at), n)) all in
    let scan : led (length s.nest) s.opening hint slot (rest s) (lead_at s.opening slot (rest s)) ≡ Ok ((item, begin - at), place - at) =
    ap (λ (n : List Slot). led (length n) s.opening hint slot (rest s) (lead_at s.opening slot (rest s))) stood.2
    ∙ ap (λ (o : Own). led (length nest) o hint slot (rest s) (lead_at o slot (rest s))) stood.3
    ∙ ap (λ (r : List ℕ). led (length nest) (own opening) hint slot r (lead_at (own opening) slot r)) now
    ∙ ap (led (length nest) (own opening) hint slot (drop at frame)) lead ∙ item_there in
    let placed : place ≡ s.place + (place - at) = omega (arith, here) in (
      record { frame = s.frame; place = s.place + (place - at); value = s.place + (begin - at); nest = after item s.nest; opening = own_after item },
      reads_ok s hint slot (length s.nest) item (begin - at) (place - at) (ap first_of stood.2 ∙ first) refl (sym scan),
      (stood.0, subst (IsPlace frame behind) placed there, ap (after item) stood.2, same_after item),
    )

flat_in : (depth : ℕ) (key : Bool) (hint : Hint) (kind : Kind) (bytes : List ℕ) → opens kind ≡ false → value_in depth key hint kind bytes ≡ value_at key hint kind bytes
unfolding value_in
flat_in depth key hint kind bytes flat = rw flat refl

not_deep : (depth : ℕ) → depth < 256 → nat_le 256 depth ≡ false
not_deep depth h = grind (arith, nat_tests)

shallow_in : (depth : ℕ) (key : Bool) (hint : Hint) (kind : Kind) (bytes : List ℕ) → depth < 256 → value_in depth key hint kind bytes ≡ value_at key hint kind bytes
unfolding value_in
shallow_in depth key hint kind bytes shallow = rw (not_deep depth shallow) (split (opens kind))
  where
    split : (level : Bool) → (if level && false then fault 0 reasons.TooDeep else value_at key hint kind bytes) ≡ value_at key hint kind bytes
    split true = refl
    split false = refl

-- a value that is called for there
valued_read : (frame : List ℕ) (at behind : ℕ) (stand : Stand) (kind : Kind) (item : Item) (opening : Opening) (nest : List Slot) (hint : Hint) → Calls stand kind opening nest
    → ((bytes : List ℕ) → value_in (length nest) (stand_key stand) hint kind bytes ≡ value_at (stand_key stand) hint kind bytes) → Valued frame at stand (value_at (stand_key stand) hint kind) item behind
    → Steps reads stands_at frame at opening nest hint item behind
valued_read frame at behind stand kind item opening nest hint calls_here plain v =
    let c = called stand kind opening nest calls_here in
    let past = leads_past stand frame at v.begin v.leads in
    read_there frame at v.begin behind behind opening nest hint c.slot item (omega (arith, past, v.found.1.0, v.found.1.1)) (omega (arith, past)) (omega (arith, v.found.1.0)) c.first
    (c.led_by frame at v.begin v.leads v.solid) (c.calls_for (length nest) hint (drop v.begin frame) ∙ plain (drop v.begin frame) ∙ v.found.0) (inside_place frame behind v.found.1.1)

-- one that opens no level, however it is hinted
pub value_read : (frame : List ℕ) (at behind : ℕ) (stand : Stand) (kind : Kind) (item : Item) → opens kind ≡ false → ((hint : Hint) → Valued frame at stand (value_at (stand_key stand) hint kind) item behind)
    → StepsValue reads stands_at frame at stand kind item behind
value_read frame at behind stand kind item flat found opening nest hint calls_here =
    valued_read frame at behind stand kind item opening nest hint calls_here (λ bytes. flat_in (length nest) (stand_key stand) hint kind bytes flat) (found hint)

-- one that may open a level
pub level_read : (frame : List ℕ) (at behind : ℕ) (stand : Stand) (kind : Kind) (item : Item) → ((hint : Hint) → Valued frame at stand (value_at (stand_key stand) hint kind) item behind)
    → StepsInto reads stands_at frame at stand kind item behind
level_read frame at behind stand kind item found opening nest hint calls_here shallow =
    valued_read frame at behind stand kind item opening nest hint calls_here (λ bytes. shallow_in (length nest) (stand_key stand) hint kind bytes shallow) (found hint)

-- ---- numbers

-- the same value, of which a scan makes another
valued_as : {X Y : Type 0} (frame : List ℕ) (at behind : ℕ) (stand : Stand) (scan : List ℕ → Scan X) (x : X) (other : List ℕ → Scan Y) (y : Y)
    → ((bytes : List ℕ) (n : ℕ) → scan bytes ≡ Ok (x, n) → other bytes ≡ Ok (y, n)) → Valued frame at stand scan x behind → Valued frame at stand other y behind
valued_as frame at behind stand scan x other y turns v = record { begin = v.begin; leads = v.leads; solid = v.solid; found = (turns (drop v.begin frame) (behind - v.begin) v.found.0, v.found.1) }

module _ (frame : List ℕ) (at behind : ℕ) (stand : Stand) (n : ℤ) where
  pub bool_there : (b : Bool) → int_lt (pos 0) n ≡ b → Valued frame at stand (whole_in (stand_key stand) reasons.BadBool (pos 0) (pos 1)) n behind → (hint : Hint) → Valued frame at stand (value_at (stand_key stand) hint kinds.Bool) (bool_value b) behind
  unfolding value_at bool_at
  bool_there b is v hint = valued_as frame at behind stand _ n (value_at (stand_key stand) hint kinds.Bool) (bool_value b) (λ bytes k e. rw e (ap (λ b. Ok (bool_value b, k)) is)) v

  pub i8_there : Valued frame at stand (whole_in (stand_key stand) reasons.BadNumber (negsuc 127) (pos 127)) n behind → (hint : Hint) → Valued frame at stand (value_at (stand_key stand) hint kinds.I8) (i8_value n) behind
  unfolding value_at i8_at
  i8_there v hint = valued_as frame at behind stand _ n (value_at (stand_key stand) hint kinds.I8) (i8_value n) (λ bytes k e. rw e refl) v

  pub i16_there : Valued frame at stand (whole_in (stand_key stand) reasons.BadNumber i16_low (pos 32767)) n behind → (hint : Hint) → Valued frame at stand (value_at (stand_key stand) hint kinds.I16) (i16_value n) behind
  unfolding value_at i16_at
  i16_there v hint = valued_as frame at behind stand _ n (value_at (stand_key stand) hint kinds.I16) (i16_value n) (λ bytes k e. rw e refl) v

  pub i32_there : Valued frame at stand (whole_in (stand_key stand) reasons.BadNumber (negsuc 2147483647) (pos 2147483647)) n behind → (hint : Hint) → Valued frame at stand (value_at (stand_key stand) hint kinds.I32) (i32_value n) behind
  unfolding value_at i32_at
  i32_there v hint = valued_as frame at behind stand _ n (value_at (stand_key stand) hint kinds.I32) (i32_value n) (λ bytes k e. rw e refl) v

  pub i64_there : Valued frame at stand (whole_in (stand_key stand) reasons.BadNumber (negsuc 9223372036854775807) (pos 9223372036854775807)) n behind → (hint : Hint) → Valued frame at stand (value_at (stand_key stand) hint kinds.I64) (i64_value n) behind
  unfolding value_at i64_at
  i64_there v hint = valued_as frame at behind stand _ n (value_at (stand_key stand) hint kinds.I64) (i64_value n) (λ bytes k e. rw e refl) v

-- ---- fields

module _ (frame : List ℕ) (at begin : ℕ) (opening : Opening) (last : ℤ) (up : List Slot) (hint : Hint) (led_here : FieldLeads opening frame at begin) where
  field_leads : is_white (slice_index frame begin) ≡ false → lead_at (own opening) (slots.Fields last) (drop at frame) ≡ Ok (tt, begin - at)
  unfolding lead_at lead_fields
  field_leads clear = each opening led_here
    where
      each : (o : Opening) → FieldLeads o frame at begin → lead_fields (own o) (drop at frame) ≡ Ok (tt, begin - at)
      each openings.Body m = lead_found frame at 123 begin refl m clear
      each openings.New m =
          let none : gap (drop at frame) ≡ begin - at = omega (arith, m.0, gap_none frame begin m.1 clear, ap (λ n. gap (drop n frame)) (m.0)) in
          ap (λ n. Ok (tt, n)) none
      each openings.Old m = lead_found frame at 125 begin refl m clear

  field_order : at ≤ begin
  field_order = each opening led_here
    where
      each : (o : Opening) → FieldLeads o frame at begin → at ≤ begin
      each openings.Body m = omega (arith, m.1)
      each openings.New m = omega (arith, m.0)
      each openings.Old m = omega (arith, m.1)

  field_within : begin < length frame
  field_within = each opening led_here
    where
      each : (o : Opening) → FieldLeads o frame at begin → begin < length frame
      each openings.Body m = m.2
      each openings.New m = m.1
      each openings.Old m = m.2

  fields_read : (place behind : ℕ) (item : Item) → is_white (slice_index frame begin) ≡ false → begin ≤ place → fields_at (own opening) (drop begin frame) ≡ Ok (item, place - begin) → IsPlace frame behind place
      → Steps reads stands_at frame at opening (slots.Fields last ∷ up) hint item behind
  unfolding item_in
  fields_read place behind item clear onward found there =
      read_there frame at begin place behind opening (slots.Fields last ∷ up) hint (slots.Fields last) item (omega (arith, field_order, field_within)) field_order onward refl (field_leads clear) found there

  stop_scans : slice_index frame begin ≡ 125 → fields_at (own opening) (drop begin frame) ≡ Ok (stop, 1)
  unfolding first_at next_at
  stop_scans brace = each opening
    where
      some : nat_lt (length (drop begin frame)) 1 ≡ false
      some = grind (arith, nat_tests, length-drop begin frame, field_within)

      there : (slice_index (drop begin frame) 0 == 125) ≡ true
      there = grind (arith, nat_tests, first_there frame begin)

      each : (o : Opening) → fields_at (own o) (drop begin frame) ≡ Ok (stop, 1)
      each openings.Body = rw (some, there) refl
      each openings.New = rw (some, there) refl
      each openings.Old = rw (some, there) refl

  pub stop_read : (behind : ℕ) → slice_index frame begin ≡ 125 → IsStop frame begin behind → Steps reads stands_at frame at opening (slots.Fields last ∷ up) hint stop behind
  stop_read behind brace is =
      let one : 1 ≡ begin + 1 - begin = omega arith in
      fields_read (begin + 1) behind stop (ap is_white brace) (omega arith) (stop_scans brace ∙ ap (λ n. Ok (stop, n)) one) is.0

  field_scans : (place behind : ℕ) (item : Item) → Separates opening frame begin place → slice_index frame place ≡ 34 → Finds frame place field_at item behind → fields_at (own opening) (drop begin frame) ≡ Ok (item, behind - begin)
  unfolding first_at next_at
  field_scans place behind item apart quote found = each opening apart
    where
      some : nat_lt (length (drop begin frame)) 1 ≡ false
      some = grind (arith, nat_tests, length-drop begin frame, field_within)

      first : (mark : ℕ) → slice_index frame begin ≡ mark → slice_index (drop begin frame) 0 ≡ mark
      first mark e = first_there frame begin ∙ e

      at_once : (place ≡ begin) × (place < length frame) → first_at (drop begin frame) ≡ Ok (item, behind - begin)
      at_once same =
          let mark : slice_index (drop begin frame) 0 ≡ 34 = first 34 (ap (slice_index frame) (sym same.0) ∙ quote) in
          rw (some, mark) (subst (λ n. field_at (drop n frame) ≡ Ok (item, behind - n)) same.0 found.0)

      each : (o : Opening) → Separates o frame begin place → fields_at (own o) (drop begin frame) ≡ Ok (item, behind - begin)
      each openings.Body same = at_once same
      each openings.New same = at_once same
      each openings.Old m =
          let mark : slice_index (drop begin frame) 0 ≡ 44 = first 44 (m.0) in
          rw (some, mark) (further_found frame begin 1 place behind field_at item (omega (arith, m.1)) (omega (arith, m.1)) m.2 (ap is_white quote) (omega (arith, found.1.0)) found.0)

  field_clear : (place : ℕ) → Separates opening frame begin place → slice_index frame place ≡ 34 → is_white (slice_index frame begin) ≡ false
  field_clear place apart quote = each opening apart
    where
      each : (o : Opening) → Separates o frame begin place → is_white (slice_index frame begin) ≡ false
      each openings.Body same = ap is_white (ap (slice_index frame) (sym same.0) ∙ quote)
      each openings.New same = ap is_white (ap (slice_index frame) (sym same.0) ∙ quote)
      each openings.Old m = ap is_white (m.0)

  field_onward : (place : ℕ) → Separates opening frame begin place → begin ≤ place
  field_onward place apart = each opening apart
    where
      each : (o : Opening) → Separates o frame begin place → begin ≤ place
      each openings.Body same = omega (arith, same.0)
      each openings.New same = omega (arith, same.0)
      each openings.Old m = omega (arith, m.1)

  pub field_read : (place behind : ℕ) (item : Item) → Separates opening frame begin place → slice_index frame place ≡ 34 → Finds frame place field_at item behind → Steps reads stands_at frame at opening (slots.Fields last ∷ up) hint item behind
  field_read place behind item apart quote found =
      fields_read behind behind item (field_clear place apart quote) (omega (arith, field_onward place apart, found.1.0)) (field_scans place behind item apart quote found) (inside_place frame behind found.1.1)

  pub field_past : (place behind : ℕ) (item : Item) → Separates opening frame begin place → Finds frame place field_at item behind → IsPast at frame behind
  field_past place behind item apart found = (omega (arith, field_order, field_onward place apart, found.1.0), omega (arith, found.1.1))

  pub stop_past : (behind : ℕ) → IsStop frame begin behind → IsPast at frame behind
  stop_past behind is = (omega (arith, field_order, is.1), is.2)

-- a field's head, from its words
pub field_found : (frame : List ℕ) (at colon brace name behind : ℕ) (id : ℤ) (kind : Kind) → Finds frame at (quoted_int_in reasons.BadId i16_low (pos 32767)) id colon
    → IsMark frame colon 58 brace → IsMark frame brace 123 name → slice_index frame name ≡ 34 → Finds frame name kind_at kind behind → Finds frame at field_at (field id kind) behind
unfolding field_at
field_found frame at colon brace name behind id kind number first second quote found =
    let a = further_mark frame at (colon - at) colon 58 brace refl (omega (arith, number.1.0)) refl first in
    let b = further_mark frame at (brace - at) brace 123 name refl (omega (arith, number.1.0, first.1)) refl second in
    let c = further_found frame at (name - at) name behind kind_at kind refl (omega (arith, number.1.0, first.1, second.1)) second.2 (ap is_white quote) (omega (arith, found.1.0)) found.0 in
    (rw (number.0, a, b, c) refl, (omega (arith, number.1.0, first.1, second.1, found.1.0), found.1.1))

-- a bool field and its value
pub flag_read : (frame : List ℕ) (at behind place : ℕ) (opening : Opening) (id last : ℤ) (up : List Slot) (b : Bool)
    → ((hint : Hint) → Steps reads stands_at frame at opening (slots.Fields last ∷ up) hint (field id kinds.Bool) behind)
    → ((hint : Hint) → Valued frame behind stands.Field (value_at false hint kinds.Bool) (bool_value b) place)
    → StepsTwice reads stands_at frame at opening (slots.Fields last ∷ up) (field id kinds.Bool) (bool_value b) place
flag_read frame at behind place opening id last up b first found s hint next there =
    let one = first hint s there in
    let two = value_read frame behind place stands.Field kinds.Bool (bool_value b) refl found openings.Old (slots.Value kinds.Bool id ∷ up) next refl one.0 one.2 in
    (one.0, two.0, one.1, two.1, two.2)

-- ---- texts

text_known : (bytes content : List ℕ) (n : ℕ) (hint : Hint) → hint ≡ hints.Text → text_in bytes ≡ Ok (content, n) → string_in hint bytes ≡ Ok (text content, n)
unfolding string_in
text_known bytes content n hint known found = rw (known, found) refl

pub text_there : (frame : List ℕ) (at place finish behind : ℕ) (stand : Stand) (hint : Hint) → hint ≡ hints.Text → Leads stand frame at place → slice_index frame place ≡ 34 → IsInside frame place finish → IsMark frame finish 34 behind
    → text_at (drop place frame) ≡ Whole (take (finish - (place + 1)) (drop (place + 1) frame)) (finish + 1 - place)
    → Valued frame at stand (value_at (stand_key stand) hint kinds.Str) (text (part frame (place + 1) finish)) behind
unfolding value_at text_in
text_there frame at place finish behind stand hint known leads quote inside last found = record {
  begin = place;
  leads = leads;
  solid = ap is_white quote;
  found =
      let whole : text_in (drop place frame) ≡ Ok (part frame (place + 1) finish, behind - place) =
      ap (λ s. item reasons.BadString (drop place frame) (words.moved 0 s)) found ∙ ap (λ n. Ok (part frame (place + 1) finish, n)) (omega (arith, last.1)) in
      (text_known (drop place frame) (part frame (place + 1) finish) (behind - place) hint known whole, (omega (arith, inside.0, last.1), last.2));
}

pub text_read : (frame : List ℕ) (at behind : ℕ) (stand : Stand) (hint : Hint) (item : Item) → Valued frame at stand (value_at (stand_key stand) hint kinds.Str) item behind
    → (opening : Opening) (nest : List Slot) → Calls stand kinds.Str opening nest → Steps reads stands_at frame at opening nest hint item behind
text_read frame at behind stand hint item found opening nest calls_here =
    valued_read frame at behind stand kinds.Str item opening nest hint calls_here (λ bytes. flat_in (length nest) (stand_key stand) hint kinds.Str bytes refl) found

-- a string behind its marks
pub string_there : (frame : List ℕ) (at begin behind : ℕ) (stand : Stand) (hint : Hint) (item : Item) → Leads stand frame at begin → slice_index frame begin ≡ 34
    → Finds frame begin (string_in hint) item behind → Valued frame at stand (value_at (stand_key stand) hint kinds.Str) item behind
unfolding value_at
string_there frame at begin behind stand hint item leads quote found = record { begin = begin; leads = leads; solid = ap is_white quote; found = found }

-- ---- strings that are decoded

-- what a scan left at the front of the room is what stands behind the place from which it counts
scan_found : (at size behind : ℕ) (room : List ℕ) (scan : Text ℕ) (found : Text (List ℕ)) → scan ≡ Whole size behind → words.Reads scan room (words.moved at found) → found ≡ Whole (take size room) (behind - at)
scan_found at size behind room scan found whole reads_it = unmoved found (subst (λ (s : Text ℕ). words.Reads s room (words.moved at found)) whole reads_it).0
  where
    unmoved : (found : Text (List ℕ)) → words.moved at found ≡ Whole (take size room) behind → found ≡ Whole (take size room) (behind - at)
    unmoved (Whole x n) e =
        let same : x ≡ take size room = cc in
        let places : at + n ≡ behind = cc in
        ap (λ (y : List ℕ). Whole y n) same ∙ ap (Whole (take size room)) (omega (arith, places))
    unmoved Short e = absurd (cc)
    unmoved (Bad place) e = absurd (cc)

pub text_decoded : (frame room : List ℕ) (at size behind : ℕ) (scan : Text ℕ) → scan ≡ Whole size behind → behind < length frame → words.IsShorterThan at scan → words.Reads scan room (words.moved at (text_at (drop at frame)))
    → Finds frame at (string_in hints.Text) (text (take size room)) behind
unfolding text_in
text_decoded frame room at size behind scan whole within shorter reads_it =
    let found = scan_found at size behind room scan (text_at (drop at frame)) whole reads_it in
    let order : size + at + 2 ≤ behind = subst (words.IsShorterThan at) whole shorter in
    let content : text_in (drop at frame) ≡ Ok (take size room, behind - at) = ap (λ s. item reasons.BadString (drop at frame) (words.moved 0 s)) found ∙ ap (λ n. Ok (take size room, n)) (omega arith) in
    (text_known (drop at frame) (take size room) (behind - at) hints.Text refl content, (omega (arith, order), within))

blob_known : (bytes content : List ℕ) (n : ℕ) → blob_in bytes ≡ Ok (content, n) → string_in hints.Blob bytes ≡ Ok (text content, n)
unfolding string_in
blob_known bytes content n found = rw found refl

pub blob_decoded : (frame room : List ℕ) (at size behind : ℕ) (scan : Text ℕ) → scan ≡ Whole size behind → behind < length frame → words.Reads scan room (words.moved at (blob_at (drop at frame)))
    → Finds frame at (string_in hints.Blob) (text (take size room)) behind
unfolding blob_in
blob_decoded frame room at size behind scan whole within reads_it =
    let found = scan_found at size behind room scan (blob_at (drop at frame)) whole reads_it in
    let fits : BlobFits (length (drop at frame)) (Whole (take size room) (behind - at)) = subst (BlobFits (length (drop at frame))) found (blob_fits (drop at frame)) in
    let content : blob_in (drop at frame) ≡ Ok (take size room, behind - at) = ap (λ s. item reasons.BadBase64 (drop at frame) (words.moved 0 s)) found ∙ ap (λ n. Ok (take size room, n)) (omega arith) in
    (blob_known (drop at frame) (take size room) (behind - at) content, (omega (arith, fits.1), within))

-- ---- structs and containers

pub struct_there : (frame : List ℕ) (at place behind : ℕ) (stand : Stand) → Leads stand frame at place → IsMark frame place 123 behind → (hint : Hint) → Valued frame at stand (value_at (stand_key stand) hint kinds.Struct) struct_begin behind
unfolding value_at struct_at
struct_there frame at place behind stand leads brace hint = record {
  begin = place;
  leads = leads;
  solid = ap is_white (brace.0);
  found = (rw (mark_found frame place 123 behind brace) refl, (omega (arith, brace.1), brace.2));
}

-- a size behind a comma
pub record SizeFound (frame : List ℕ) (at size behind : ℕ) : Type 0 where
  pub place : ℕ
  pub comma : IsMark frame at 44 place
  pub solid : is_white (slice_index frame place) ≡ false
  pub found : Finds frame place size_in size behind

sized_past : (frame : List ℕ) (at size behind : ℕ) → SizeFound frame at size behind → at < behind
sized_past frame at size behind s = omega (arith, s.comma.1, s.found.1.0)

pub sequence_found : (frame : List ℕ) (at name comma size behind : ℕ) (kind : Kind) → IsMark frame at 91 name → slice_index frame name ≡ 34 → Finds frame name kind_at kind comma → SizeFound frame comma size behind
    → Finds frame at sequence_at (kind, size) behind
unfolding sequence_at
sequence_found frame at name comma size behind kind bracket quote found sized =
    let a = further_found frame at (name - at) name comma kind_at kind refl (omega (arith, bracket.1)) bracket.2 (ap is_white quote) (omega (arith, found.1.0)) found.0 in
    let b = further_mark frame at (comma - at) comma 44 sized.place refl (omega (arith, bracket.1, found.1.0)) refl sized.comma in
    let c = further_found frame at (sized.place - at) sized.place behind size_in size refl (omega (arith, bracket.1, found.1.0, sized.comma.1)) sized.comma.2 sized.solid (omega (arith, sized.found.1.0)) sized.found.0 in
    (rw (mark_found frame at 91 name bracket, a, b, c) refl, (omega (arith, bracket.1, found.1.0, sized_past frame comma size behind sized), sized.found.1.1))

pub map_head_found : (frame : List ℕ) (at name comma next second size behind : ℕ) (key value : Kind) → IsMark frame at 91 name → slice_index frame name ≡ 34 → Finds frame name kind_at key comma
    → IsMark frame comma 44 next → slice_index frame next ≡ 34 → Finds frame next kind_at value second → SizeFound frame second size behind → Finds frame at map_head_at ((key, value), size) behind
unfolding map_head_at
map_head_found frame at name comma next second size behind key value bracket quote found mark other found_too sized =
    let a = further_found frame at (name - at) name comma kind_at key refl (omega (arith, bracket.1)) bracket.2 (ap is_white quote) (omega (arith, found.1.0)) found.0 in
    let b = further_mark frame at (comma - at) comma 44 next refl (omega (arith, bracket.1, found.1.0)) refl mark in
    let c = further_found frame at (next - at) next second kind_at value refl (omega (arith, bracket.1, found.1.0, mark.1)) mark.2 (ap is_white other) (omega (arith, found_too.1.0)) found_too.0 in
    let d = further_mark frame at (second - at) second 44 sized.place refl (omega (arith, bracket.1, found.1.0, mark.1, found_too.1.0)) refl sized.comma in
    let e = further_found frame at (sized.place - at) sized.place behind size_in size refl (omega (arith, bracket.1, found.1.0, mark.1, found_too.1.0, sized.comma.1)) sized.comma.2 sized.solid (omega (arith, sized.found.1.0)) sized.found.0 in
    (rw (mark_found frame at 91 name bracket, a, b, c, d, e) refl, (omega (arith, bracket.1, found.1.0, mark.1, found_too.1.0, sized_past frame second size behind sized), sized.found.1.1))

-- the beginning of a list or a set
pub elements_there : (container : Container) (frame : List ℕ) (at place behind : ℕ) (stand : Stand) (kind : Kind) (size : ℕ) → (container ≡ containers.Map → ⊥) → Leads stand frame at place → slice_index frame place ≡ 91
    → Finds frame place sequence_at (kind, size) behind → (hint : Hint) → Valued frame at stand (value_at (stand_key stand) hint (container_kind container)) (elements_item container kind size) behind
unfolding value_at set_at list_at
elements_there container frame at place behind stand kind size other leads bracket found hint = record {
  begin = place;
  leads = leads;
  solid = ap is_white bracket;
  found = (each container other, found.1);
}
  where
    each : (c : Container) → (c ≡ containers.Map → ⊥) → value_at (stand_key stand) hint (container_kind c) (drop place frame) ≡ Ok (elements_item c kind size, behind - place)
    each containers.Map differs = absurd (differs refl)
    each containers.Set differs = rw (found.0) refl
    each containers.List differs = rw (found.0) refl

-- the beginning of a map with pairs
pub pairs_there : (frame : List ℕ) (at place behind : ℕ) (stand : Stand) (key value : Kind) (size : ℕ) → Leads stand frame at place → slice_index frame place ≡ 91 → Finds frame place map_head_at ((key, value), size) behind → 0 < size
    → (hint : Hint) → Valued frame at stand (value_at (stand_key stand) hint kinds.Map) (pairs_item key value size) behind
unfolding value_at map_at
pairs_there frame at place behind stand key value size leads bracket found some hint = record {
  begin = place;
  leads = leads;
  solid = ap is_white bracket;
  found = (each size some found.0, found.1);
}
  where
    each : (n : ℕ) → 0 < n → map_head_at (drop place frame) ≡ Ok (((key, value), n), behind - place) → value_at (stand_key stand) hint kinds.Map (drop place frame) ≡ Ok (pairs_item key value n, behind - place)
    each zero none e = absurd (omega arith)
    each (suc more) h e = rw (e, more_left (suc more) h) refl

-- a map without pairs
pub no_pairs_there : (frame : List ℕ) (at place mid behind : ℕ) (stand : Stand) (key value : Kind) → Leads stand frame at place → slice_index frame place ≡ 91 → Finds frame place map_head_at ((key, value), 0) mid → EndsMap frame mid behind
    → (hint : Hint) → Valued frame at stand (value_at (stand_key stand) hint kinds.Map) (pairs_item key value 0) behind
unfolding value_at map_at no_pairs_at
no_pairs_there frame at place mid behind stand key value leads bracket found ends hint = record {
  begin = place;
  leads = leads;
  solid = ap is_white bracket;
  found =
      let order : place ≤ mid = omega (arith, found.1.0) in
      let a = further_mark frame place (mid - place) mid 44 (mid + 1) refl order refl ends.0 in
      let b = further_mark frame place (mid + 1 - place) (mid + 1) 123 (mid + 2) refl (omega arith) refl ends.1 in
      let c = further_mark frame place (mid + 2 - place) (mid + 2) 125 (mid + 3) refl (omega arith) refl ends.2 in
      let d = further_mark frame place (mid + 3 - place) (mid + 3) 93 behind refl (omega arith) refl ends.3 in
      (rw (found.0, a, b, c, d) refl, (omega (arith, order, ends.3.1), ends.3.2));
}

-- ---- the end of a container

abbrev done_ends : (container : Container) (frame : List ℕ) (at begin behind : ℕ) (opening : Opening) (nest : List Slot) (hint : Hint) → Type 0
done_ends container frame at begin behind opening nest hint = (slot : Slot) × (first_of nest ≡ Some slot) × (lead_at (own opening) slot (drop at frame) ≡ Ok (tt, begin - at))
    × ((depth : ℕ) → item_in depth (own opening) hint slot (drop begin frame) ≡ end_at (drop begin frame))

list_done : (kind : Kind) (left : ℕ) (up : List Slot) (container : Container) (frame : List ℕ) (at behind : ℕ) (opening : Opening) (hint : Hint) → left ≡ 0 → IsMark frame at 93 behind → done_ends container frame at at behind opening (slots.Elements kind left ∷ up) hint
unfolding lead_at item_in
list_done kind left up container frame at behind opening hint none bracket = (
  slots.Elements kind left,
  refl,
  rw none (ap (λ n. Ok (tt, n)) (omega (arith, bracket.1, bracket.2, gap_none frame at (omega (arith, bracket.1, bracket.2)) (ap is_white (bracket.0))))),
  λ depth. rw none refl,
)

map_done : (key value : Kind) (left : ℕ) (up : List Slot) (frame : List ℕ) (at behind : ℕ) (opening : Opening) (hint : Hint) → left ≡ 0 → IsMark frame at 125 (at + 1) → IsMark frame (at + 1) 93 behind
    → done_ends containers.Map frame at (at + 1) behind opening (slots.Keys key value left ∷ up) hint
unfolding lead_at item_in
map_done key value left up frame at behind opening hint none brace bracket = (
  slots.Keys key value left,
  refl,
  rw none (lead_found frame at 125 (at + 1) refl brace (ap is_white (bracket.0))),
  λ depth. rw none refl,
)

ends_read : (container : Container) (frame : List ℕ) (at begin behind : ℕ) (opening : Opening) (nest : List Slot) (hint : Hint) → at ≤ begin → IsMark frame begin 93 behind → done_ends container frame at begin behind opening nest hint
    → Steps reads stands_at frame at opening nest hint end behind
unfolding end_at
ends_read container frame at begin behind opening nest hint order bracket d =
    read_there frame at begin behind behind opening nest hint d.0 end (omega (arith, bracket.1, bracket.2)) order (omega (arith, bracket.1)) d.1 d.2 (d.3 (length nest) ∙ rw (mark_found frame begin 93 behind bracket) refl) (inside_place frame behind bracket.2)

pub end_read : (container : Container) (frame : List ℕ) (at behind : ℕ) → Ends container frame at behind → (opening : Opening) (nest : List Slot) (hint : Hint) → IsDone container nest → Steps reads stands_at frame at opening nest hint end behind
end_read containers.Map frame at behind e opening [] hint d = absurd d
end_read containers.Map frame at behind e opening (slots.Fields last ∷ up) hint d = absurd d
end_read containers.Map frame at behind e opening (slots.Value k id ∷ up) hint d = absurd d
end_read containers.Map frame at behind e opening (slots.Elements k left ∷ up) hint d = absurd d
end_read containers.Map frame at behind e opening (slots.Keys key value left ∷ up) hint d = ends_read containers.Map frame at (at + 1) behind opening (slots.Keys key value left ∷ up) hint (omega arith) e.1 (map_done key value left up frame at behind opening hint d e.0 e.1)
end_read containers.Map frame at behind e opening (slots.Values key value left ∷ up) hint d = absurd d
end_read containers.Set frame at behind e opening [] hint d = absurd d
end_read containers.Set frame at behind e opening (slots.Fields last ∷ up) hint d = absurd d
end_read containers.Set frame at behind e opening (slots.Value k id ∷ up) hint d = absurd d
end_read containers.Set frame at behind e opening (slots.Elements k left ∷ up) hint d = ends_read containers.Set frame at at behind opening (slots.Elements k left ∷ up) hint (omega arith) e (list_done k left up containers.Set frame at behind opening hint d e)
end_read containers.Set frame at behind e opening (slots.Keys key value left ∷ up) hint d = absurd d
end_read containers.Set frame at behind e opening (slots.Values key value left ∷ up) hint d = absurd d
end_read containers.List frame at behind e opening [] hint d = absurd d
end_read containers.List frame at behind e opening (slots.Fields last ∷ up) hint d = absurd d
end_read containers.List frame at behind e opening (slots.Value k id ∷ up) hint d = absurd d
end_read containers.List frame at behind e opening (slots.Elements k left ∷ up) hint d = ends_read containers.List frame at at behind opening (slots.Elements k left ∷ up) hint (omega arith) e (list_done k left up containers.List frame at behind opening hint d e)
end_read containers.List frame at behind e opening (slots.Keys key value left ∷ up) hint d = absurd d
end_read containers.List frame at behind e opening (slots.Values key value left ∷ up) hint d = absurd d

pub ends_past : (container : Container) (frame : List ℕ) (at behind : ℕ) → Ends container frame at behind → (at ≤ behind) × (behind ≤ length frame)
ends_past containers.Map frame at behind e = (omega (arith, e.1.1), omega (arith, e.1.2))
ends_past containers.Set frame at behind e = (omega (arith, e.1), omega (arith, e.2))
ends_past containers.List frame at behind e = (omega (arith, e.1), omega (arith, e.2))

-- ---- the header and the end of the frame

-- what stands at a place, from the front of the frame
place_found : {X : Type 0} (frame : List ℕ) (at behind : ℕ) (scan : List ℕ → Scan X) (x : X) → is_white (slice_index frame at) ≡ false → Finds frame at scan x behind → further at scan frame ≡ Ok (x, behind)
place_found frame at behind scan x solid found =
    further_found frame 0 at at behind scan x (omega arith) (omega arith) (omega (arith, found.1.0, found.1.1)) solid (omega (arith, found.1.0)) found.0 ∙ ap (λ n. Ok (x, n)) (omega arith)

place_mark : (frame : List ℕ) (at mark behind : ℕ) → is_white mark ≡ false → IsMark frame at mark behind → further at (mark_at mark) frame ≡ Ok (tt, behind)
place_mark frame at mark behind solid m = further_mark frame 0 at at mark behind (omega arith) (omega arith) solid m ∙ ap (λ n. Ok (tt, n)) (omega arith)

-- a bracket, the version and a comma
pub front_found : (frame : List ℕ) (version past start : ℕ) (value : ℤ) → IsMark frame 0 91 version → is_white (slice_index frame version) ≡ false → Finds frame version (int_in reasons.BadVersion (pos 1) (pos 1)) value past → IsMark frame past 44 start
    → is_white (slice_index frame start) ≡ false → front_at frame ≡ Ok (tt, start)
unfolding front_at
front_found frame version past start value bracket clear number comma solid =
    let none : start + gap (drop start frame) ≡ start = omega (arith, gap_none frame start comma.2 solid) in
    rw (place_mark frame 0 91 version refl bracket, place_found frame version past (int_in reasons.BadVersion (pos 1) (pos 1)) value clear number, place_mark frame past 44 start refl comma) (ap (λ n. Ok (tt, n)) none)

-- the type and the number behind the name, with commas
pub back_found : (frame : List ℕ) (name code kind_end number last behind : ℕ) (kind seq : ℤ) (mtype : MessageType) → mtype ≡ type_of kind → IsMark frame name 44 code → is_white (slice_index frame code) ≡ false → Finds frame code (int_in reasons.BadType (pos 1) (pos 4)) kind kind_end
    → IsMark frame kind_end 44 number → is_white (slice_index frame number) ≡ false → Finds frame number (int_in reasons.BadNumber (negsuc 2147483647) (pos 2147483647)) seq last → IsMark frame last 44 behind
    → back_at name frame ≡ Ok ((mtype, seq), behind)
unfolding back_at
back_found frame name code kind_end number last behind kind seq mtype is first clear typed second solid numbered third =
    rw (
      place_mark frame name 44 code refl first,
      place_found frame code kind_end (int_in reasons.BadType (pos 1) (pos 4)) kind clear typed,
      place_mark frame kind_end 44 number refl second,
      place_found frame number last (int_in reasons.BadNumber (negsuc 2147483647) (pos 2147483647)) seq solid numbered,
      place_mark frame last 44 behind refl third,
    )
    (ap (λ (t : MessageType). Ok ((t, seq), behind)) (sym is))

-- a header from its words
pub head_found : (frame : List ℕ) (start finish behind : ℕ) (name : List ℕ) (mtype : MessageType) (seq : ℤ) → front_at frame ≡ Ok (tt, start) → start ≤ finish → text_at (drop start frame) ≡ Whole name (finish - start)
    → back_at finish frame ≡ Ok ((mtype, seq), behind) → length name ≤ finish → finish ≤ behind → behind < length frame → HeadFound frame (record { name = name; mtype = mtype; seq = seq }) behind
unfolding head_at text_in
head_found frame start finish behind name mtype seq front order named back short onward within = record {
  start = start;
  found =
      let whole : shifted start (text_in (drop start frame)) ≡ Ok (name, finish) =
      ap (λ s. shifted start (item reasons.BadString (drop start frame) (words.moved 0 s))) named ∙ ap (λ n. Ok (name, n)) (omega (arith, order)) in
      rw (front, whole, back) refl;
  short = omega (arith, short, onward);
  within = within;
}

-- where a header that was read leaves the reader
pub front_read : (frame : List ℕ) (header : Header) (behind : ℕ) → HeadFound frame header behind → (new : State) × (reads_head (begun frame) ≡ Ok (header, new)) × stands_at new frame behind openings.Body (slots.Fields (pos 0) ∷ [])
unfolding reads_head
front_read frame header behind h = (
  record { frame = frame; place = 0 + behind; value = 0 + h.start; nest = slots.Fields (pos 0) ∷ []; opening = owns.Body },
  rw (h.found) refl,
  (refl, subst (IsPlace frame behind) (omega arith) (inside_place frame behind h.within), refl, refl),
)

last_ends : (frame : List ℕ) (place : ℕ) → IsLast frame place → end_scan (drop place frame) ≡ Ok (tt, length (drop place frame))
unfolding end_scan mark_at
last_ends frame place last =
    let long : length (drop place frame) ≡ length frame - place = length-drop place frame in
    let here : slice_index (drop place frame) 0 ≡ 93 = first_there frame place ∙ last.1 in
    let none : gap (drop place frame) ≡ 0 = gap_none frame place (omega (arith, last.0)) (ap is_white (last.1)) in
    let bracket : further 0 (mark_at 93) (drop place frame) ≡ Ok (tt, 1) = zero_further (mark_at 93) (drop place frame) tt none (last_mark (drop place frame) (omega (arith, long, last.0)) here) in
    let nothing : gap (drop 1 (drop place frame)) ≡ 0 = gap_past (drop place frame) (omega (arith, long, last.0)) in
    let all : (1 + gap (drop 1 (drop place frame)) == length (drop place frame)) ≡ true = grind (arith, nat_tests, nothing, long, last.0) in
    rw (bracket, all) refl
  where
    last_mark : (bytes : List ℕ) → length bytes ≡ 1 → slice_index bytes 0 ≡ 93 → mark_at 93 bytes ≡ Ok (tt, 1)
    last_mark bytes one mark = grind (arith, nat_tests)

    zero_further : (scan : List ℕ → Scan (Unit {0})) (bytes : List ℕ) (x : Unit {0}) → gap bytes ≡ 0 → scan bytes ≡ Ok (x, 1) → further 0 scan bytes ≡ Ok (x, 1)
    zero_further scan bytes x none found = ap (λ k. shifted (0 + k) (scan (drop (0 + k) bytes))) none ∙ ap (shifted 0) found

    gap_past : (bytes : List ℕ) → length bytes ≡ 1 → gap (drop 1 bytes) ≡ 0
    gap_past bytes one = prefix_len-drop_all is_white bytes 1 (omega arith)

pub whole_ends : (s : State) (frame : List ℕ) (opening : Opening) → stands_at s frame (length frame) opening [] → told (reads_end s) ≡ Ok tt
unfolding reads_end
whole_ends s frame opening stood =
    let last : IsLast frame s.place = stood.1.1 (omega arith) in
    let now : rest s ≡ drop s.place frame = ap (drop s.place) (stood.0) in
    rw (ap end_scan now ∙ last_ends frame s.place last) refl

-- The quick forms of the JSON writer: where it stands, and the marks before a value by where that stands.
use Rattle.std.proofs.Common.{◌≡◌, ℕ, ℤ, pos, ◌+◌, ◌<◌, ◌≤◌, ◌^◌, Bool, true, false, List, [], ◌∷◌, ◌++◌, length, Some, refl, sym, ap, ◌∙◌, arith, append_assoc, take}
use Rattle.std.specs.Fmt.{signed_decimal, decimal}
use Rattle.std.proofs.lemmas.Fmt.{length-decimal-le}
use Rattle.thrift_value.specs.declared.kind.Kind.{Kind}
use Rattle.thrift_value.specs.declared.kind.Kind.TheVariants as kinds
use Rattle.thrift_value.specs.Items.{Item, field, stop, bool_value, i8_value, i16_value, i32_value, i64_value, double_value, text, number_text, unknown_text, struct_begin, empty_map, map_begin, set_begin, list_begin, end, uuid_value}
use Rattle.protocol_traits.specs.declared.forms.Container.{Container}
use Rattle.protocol_traits.specs.declared.forms.Container.TheVariants as containers
use Rattle.protocol_traits.specs.declared.forms.Opening.{Opening}
use Rattle.protocol_traits.specs.declared.forms.Opening.TheVariants as openings
use Rattle.protocol_traits.specs.declared.forms.Stand.{Stand}
use Rattle.protocol_traits.specs.declared.forms.Stand.TheVariants as stands
use Rattle.protocol_traits.specs.declared.nest.Slot.{Slot}
use Rattle.protocol_traits.specs.declared.nest.Slot.TheVariants as slots
use Rattle.protocol_traits.specs.declared.proto.Mark.{Mark}
use Rattle.protocol_traits.specs.Follow.{after as levels_after}
use Rattle.protocol_traits.specs.Forms.{opening_after, Calls, IsDone}
use Rattle.protocol_traits.specs.Stack.{first_of}
use Rattle.json_protocol.specs.declared.opening.Opening.{Opening as Own}
use Rattle.json_protocol.specs.declared.opening.Opening.TheVariants as owns
use Rattle.json_protocol.specs.Reading.{opening_after as own_after}
use Rattle.json_protocol.specs.Writing.{Writer, begun, after, number, flag, field_lead, stop_lead, end_lead, value_lead, is_key, field_spelling, stop_spelling}

-- what was read or written of a level, in this protocol's words
abbrev pub own : Opening → Own
own openings.Body = owns.Body
own openings.New = owns.New
own openings.Old = owns.Old

-- the writer stands in these levels, with so much written of the innermost
abbrev pub stands_at : Writer → Opening → List Slot → Type 0
stands_at w opening nest = (w.nest ≡ nest) × (w.opening ≡ own opening)

pub starts_at : stands_at begun openings.Body (slots.Fields (pos 0) ∷ [])
starts_at = (refl, refl)

pub same_after : (item : Item) → own_after item ≡ own (opening_after item)
same_after (field id kind) = refl
same_after stop = refl
same_after (bool_value b) = refl
same_after (i8_value n) = refl
same_after (i16_value n) = refl
same_after (i32_value n) = refl
same_after (i64_value n) = refl
same_after (double_value bytes) = refl
same_after (text bytes) = refl
same_after (number_text bytes) = refl
same_after (unknown_text bytes) = refl
same_after struct_begin = refl
same_after empty_map = refl
same_after (map_begin key value size) = refl
same_after (set_begin kind size) = refl
same_after (list_begin kind size) = refl
same_after end = refl
same_after (uuid_value bytes) = refl

pub goes_on : (w : Writer) (opening : Opening) (nest : List Slot) (item : Item) (mark : Mark) → 0 < length nest → stands_at w opening nest → stands_at (after w item mark) (opening_after item) (levels_after item nest)
goes_on w opening nest item mark some there = (ap (levels_after item) there.0, same_after item)

-- ---- the marks before a value

abbrev pub stand_lead : Stand → List ℕ
stand_lead stands.Field = 58 ∷ []
stand_lead stands.Element = 44 ∷ []
stand_lead stands.FirstKey = 44 ∷ 123 ∷ []
stand_lead stands.Key = 44 ∷ []
stand_lead stands.Value = 58 ∷ []

abbrev pub stand_key : Stand → Bool
stand_key stands.FirstKey = true
stand_key stands.Key = true
stand_key stand = false

-- the marks and the quotes that a level calls for are those of where the value stands
pub record Marks (stand : Stand) (opening : Opening) (nest : List Slot) : Type 0 where
  pub lead : value_lead (own opening) (first_of nest) ≡ stand_lead stand
  pub key : is_key (first_of nest) ≡ stand_key stand

pub marks : (stand : Stand) (kind : Kind) (opening : Opening) (nest : List Slot) → Calls stand kind opening nest → Marks stand opening nest
marks stands.Field kind opening [] c = absurd c
marks stands.Field kind opening (slots.Fields last ∷ up) c = absurd c
marks stands.Field kind opening (slots.Value k id ∷ up) c = record { lead = refl; key = refl }
marks stands.Field kind opening (slots.Elements k left ∷ up) c = absurd c
marks stands.Field kind opening (slots.Keys key value left ∷ up) c = absurd c
marks stands.Field kind opening (slots.Values key value left ∷ up) c = absurd c
marks stands.Element kind opening [] c = absurd c
marks stands.Element kind opening (slots.Fields last ∷ up) c = absurd c
marks stands.Element kind opening (slots.Value k id ∷ up) c = absurd c
marks stands.Element kind opening (slots.Elements k left ∷ up) c = record { lead = refl; key = refl }
marks stands.Element kind opening (slots.Keys key value left ∷ up) c = absurd c
marks stands.Element kind opening (slots.Values key value left ∷ up) c = absurd c
marks stands.FirstKey kind opening [] c = absurd c
marks stands.FirstKey kind opening (slots.Fields last ∷ up) c = absurd c
marks stands.FirstKey kind opening (slots.Value k id ∷ up) c = absurd c
marks stands.FirstKey kind opening (slots.Elements k left ∷ up) c = absurd c
marks stands.FirstKey kind opening (slots.Keys key value left ∷ up) c = record { lead = ap (λ o. value_lead (own o) (Some (slots.Keys key value left))) c.2; key = refl }
marks stands.FirstKey kind opening (slots.Values key value left ∷ up) c = absurd c
marks stands.Key kind opening [] c = absurd c
marks stands.Key kind opening (slots.Fields last ∷ up) c = absurd c
marks stands.Key kind opening (slots.Value k id ∷ up) c = absurd c
marks stands.Key kind opening (slots.Elements k left ∷ up) c = absurd c
marks stands.Key kind opening (slots.Keys key value left ∷ up) c = record { lead = ap (λ o. value_lead (own o) (Some (slots.Keys key value left))) c.2; key = refl }
marks stands.Key kind opening (slots.Values key value left ∷ up) c = absurd c
marks stands.Value kind opening [] c = absurd c
marks stands.Value kind opening (slots.Fields last ∷ up) c = absurd c
marks stands.Value kind opening (slots.Value k id ∷ up) c = absurd c
marks stands.Value kind opening (slots.Elements k left ∷ up) c = absurd c
marks stands.Value kind opening (slots.Keys key value left ∷ up) c = absurd c
marks stands.Value kind opening (slots.Values key value left ∷ up) c = record { lead = refl; key = refl }

-- of a writer that stands there
pub lead_here : (stand : Stand) (kind : Kind) (opening : Opening) (nest : List Slot) (w : Writer) → Calls stand kind opening nest → stands_at w opening nest → value_lead w.opening (first_of w.nest) ≡ stand_lead stand
lead_here stand kind opening nest w c there =
    ap (λ (o : Own). value_lead o (first_of w.nest)) there.1 ∙ ap (λ (n : List Slot). value_lead (own opening) (first_of n)) there.0 ∙ (marks stand kind opening nest c).lead

pub key_here : (stand : Stand) (kind : Kind) (opening : Opening) (nest : List Slot) (w : Writer) → Calls stand kind opening nest → stands_at w opening nest → is_key (first_of w.nest) ≡ stand_key stand
key_here stand kind opening nest w c there = ap (λ (n : List Slot). is_key (first_of n)) there.0 ∙ (marks stand kind opening nest c).key

-- ---- the marks before a field, a stop and an end

abbrev pub field_marks : Opening → List ℕ
field_marks openings.Body = 123 ∷ []
field_marks openings.New = []
field_marks openings.Old = 125 ∷ 44 ∷ []

abbrev pub stop_marks : Opening → List ℕ
stop_marks openings.Body = 123 ∷ []
stop_marks openings.New = []
stop_marks openings.Old = 125 ∷ []

pub field_here : (opening : Opening) (last : ℤ) (up : List Slot) (w : Writer) → stands_at w opening (slots.Fields last ∷ up) → field_lead w.opening (first_of w.nest) ≡ field_marks opening
field_here opening last up w there = ap (λ (o : Own). field_lead o (first_of w.nest)) there.1 ∙ ap (λ (n : List Slot). field_lead (own opening) (first_of n)) there.0 ∙ each opening
  where
    each : (opening : Opening) → field_lead (own opening) (Some (slots.Fields last)) ≡ field_marks opening
    each openings.Body = refl
    each openings.New = refl
    each openings.Old = refl

pub stop_here : (opening : Opening) (last : ℤ) (up : List Slot) (w : Writer) → stands_at w opening (slots.Fields last ∷ up) → stop_lead w.opening (first_of w.nest) ≡ stop_marks opening
stop_here opening last up w there = ap (λ (o : Own). stop_lead o (first_of w.nest)) there.1 ∙ ap (λ (n : List Slot). stop_lead (own opening) (first_of n)) there.0 ∙ each opening
  where
    each : (opening : Opening) → stop_lead (own opening) (Some (slots.Fields last)) ≡ stop_marks opening
    each openings.Body = refl
    each openings.New = refl
    each openings.Old = refl

-- the brace of a map's pairs
abbrev pub end_marks : Container → List ℕ
end_marks containers.Map = 125 ∷ []
end_marks container = []

pub end_here : (container : Container) (nest : List Slot) → IsDone container nest → end_lead (first_of nest) ≡ end_marks container
end_here containers.Map [] d = absurd d
end_here containers.Map (slots.Fields last ∷ up) d = absurd d
end_here containers.Map (slots.Value k id ∷ up) d = absurd d
end_here containers.Map (slots.Elements k left ∷ up) d = absurd d
end_here containers.Map (slots.Keys key value left ∷ up) d = refl
end_here containers.Map (slots.Values key value left ∷ up) d = absurd d
end_here containers.Set [] d = absurd d
end_here containers.Set (slots.Fields last ∷ up) d = absurd d
end_here containers.Set (slots.Value k id ∷ up) d = absurd d
end_here containers.Set (slots.Elements k left ∷ up) d = refl
end_here containers.Set (slots.Keys key value left ∷ up) d = absurd d
end_here containers.Set (slots.Values key value left ∷ up) d = absurd d
end_here containers.List [] d = absurd d
end_here containers.List (slots.Fields last ∷ up) d = absurd d
end_here containers.List (slots.Value k id ∷ up) d = absurd d
end_here containers.List (slots.Elements k left ∷ up) d = refl
end_here containers.List (slots.Keys key value left ∷ up) d = absurd d
end_here containers.List (slots.Values key value left ∷ up) d = absurd d

-- ---- what the cells hold is what the writer spells

-- a value: its marks and its word
pub value_spelled : (stand : Stand) (kind : Kind) (old new : List ℕ) (to result : ℕ) (word : Bool → List ℕ) → take result new ≡ take to old ++ (stand_lead stand ++ word (stand_key stand))
    → (opening : Opening) (nest : List Slot) (w : Writer) → Calls stand kind opening nest → stands_at w opening nest → take result new ≡ take to old ++ (value_lead w.opening (first_of w.nest) ++ word (is_key (first_of w.nest)))
value_spelled stand kind old new to result word laid opening nest w c there =
    laid ∙ ap (λ lead. take to old ++ (lead ++ word (stand_key stand))) (sym (lead_here stand kind opening nest w c there))
    ∙ ap (λ key. take to old ++ (value_lead w.opening (first_of w.nest) ++ word key)) (sym (key_here stand kind opening nest w c there))

-- a number that code has converted
pub whole_spelled : (stand : Stand) (kind : Kind) (old new : List ℕ) (to result : ℕ) (value own : ℤ) → value ≡ own → take result new ≡ take to old ++ (stand_lead stand ++ number (stand_key stand) (signed_decimal value))
    → (opening : Opening) (nest : List Slot) (w : Writer) → Calls stand kind opening nest → stands_at w opening nest
    → take result new ≡ take to old ++ (value_lead w.opening (first_of w.nest) ++ number (is_key (first_of w.nest)) (signed_decimal own))
whole_spelled stand kind old new to result value own same laid =
    value_spelled stand kind old new to result (λ key. number key (signed_decimal own)) (laid ∙ ap (λ n. take to old ++ (stand_lead stand ++ number (stand_key stand) (signed_decimal n))) same)

pub whole_short : (to result : ℕ) (value own : ℤ) (n k : ℕ) → value ≡ own → result ≤ to + (length (signed_decimal value) + k) → length (signed_decimal own) ≤ n → result ≤ to + (n + k)
whole_short to result value own n k same short digits = omega (arith, ap (λ (z : ℤ). length (signed_decimal z)) same)

pub field_spelled : (old new : List ℕ) (to result : ℕ) (opening : Opening) (last value own_id : ℤ) (kind : Kind) → value ≡ own_id → take result new ≡ take to old ++ (field_marks opening ++ field_spelling value kind)
    → (up : List Slot) (w : Writer) → stands_at w opening (slots.Fields last ∷ up) → take result new ≡ take to old ++ (field_lead w.opening (first_of w.nest) ++ field_spelling own_id kind)
field_spelled old new to result opening last value own_id kind same laid up w there =
    laid ∙ ap (λ n. take to old ++ (field_marks opening ++ field_spelling n kind)) same ∙ ap (λ lead. take to old ++ (lead ++ field_spelling own_id kind)) (sym (field_here opening last up w there))

pub flag_spelled : (old mid new : List ℕ) (to behind result : ℕ) (opening : Opening) (last value own_id : ℤ) (b : Bool) → value ≡ own_id → take behind mid ≡ take to old ++ (field_marks opening ++ field_spelling value kinds.Bool)
    → take result new ≡ take behind mid ++ (58 ∷ flag b)
    → (up : List Slot) (w : Writer) → stands_at w opening (slots.Fields last ∷ up) → take result new ≡ take to old ++ ((field_lead w.opening (first_of w.nest) ++ field_spelling own_id kinds.Bool) ++ (58 ∷ flag b))
flag_spelled old mid new to behind result opening last value own_id b same first second up w there =
    second ∙ ap (λ xs. xs ++ (58 ∷ flag b)) (field_spelled old mid to behind opening last value own_id kinds.Bool same first up w there)
    ∙ append_assoc (take to old) (field_lead w.opening (first_of w.nest) ++ field_spelling own_id kinds.Bool) (58 ∷ flag b)

pub stop_spelled : (old new : List ℕ) (to result : ℕ) (opening : Opening) (depth : ℕ) → take result new ≡ take to old ++ (stop_marks opening ++ stop_spelling depth)
    → (last : ℤ) (up : List Slot) → length up + 1 ≡ depth → (w : Writer) → stands_at w opening (slots.Fields last ∷ up) → take result new ≡ take to old ++ (stop_lead w.opening (first_of w.nest) ++ stop_spelling (length w.nest))
stop_spelled old new to result opening depth laid last up deep w there =
    let levels : depth ≡ length w.nest = omega (arith, deep, ap length there.0) in
    laid ∙ ap (λ lead. take to old ++ (lead ++ stop_spelling depth)) (sym (stop_here opening last up w there)) ∙ ap (λ d. take to old ++ (stop_lead w.opening (first_of w.nest) ++ stop_spelling d)) levels

pub end_spelled : (old new : List ℕ) (to result : ℕ) (container : Container) → take result new ≡ take to old ++ (end_marks container ++ 93 ∷ []) → (nest : List Slot) → IsDone container nest
    → (w : Writer) → (opening : Opening) → stands_at w opening nest → take result new ≡ take to old ++ (end_lead (first_of w.nest) ++ 93 ∷ [])
end_spelled old new to result container laid nest done w opening there =
    laid ∙ ap (λ lead. take to old ++ (lead ++ 93 ∷ [])) (sym (ap (λ (n : List Slot). end_lead (first_of n)) there.0 ∙ end_here container nest done))

-- a size has at most ten digits
pub size_short : (value : ℤ) (size : ℕ) → value ≡ pos size → size < 2 ^ 32 → length (signed_decimal value) ≤ 10
size_short value size same small =
    let digits : length (decimal size) ≤ 10 = length-decimal-le 10 size (omega arith) (omega arith) (omega arith) in
    omega (arith, digits, ap (λ (z : ℤ). length (signed_decimal z)) same)

-- One item of a body and a header, with more bytes behind those that were given.
use Rattle.std.proofs.Common.{◌≡◌, ℕ, zero, suc, pos, negsuc, ◌<◌, ◌≤◌, Bool, true, false, cond, List, [], ◌++◌, length, Ok, refl, ap, arith, ◌⊎◌, inl, inr}
use Rattle.std.specs.Prelude.{slice_index, nat_le, int_lt, ◌==◌, ◌&&◌}
use Rattle.thrift_value.specs.declared.kind.Kind.{Kind}
use Rattle.thrift_value.specs.declared.kind.Kind.TheVariants as kinds
use Rattle.thrift_value.specs.Items.{Item, field, stop, bool_value, i8_value, i16_value, i32_value, i64_value, number_text, struct_begin, empty_map, map_begin, set_begin, list_begin, end}
use Rattle.protocol_traits.specs.declared.proto.Hint.{Hint}
use Rattle.protocol_traits.specs.declared.proto.Hint.TheVariants as hints
use Rattle.protocol_traits.specs.declared.fault.Reason.TheVariants as reasons
use Rattle.protocol_traits.specs.declared.nest.Slot.{Slot}
use Rattle.protocol_traits.specs.declared.nest.Slot.TheVariants as slots
use Rattle.json_text.specs.Int.{int_at, integer, magnitude}
use Rattle.json_text.specs.Text.{text_at}
use Rattle.json_text.specs.Blob.{blob_at}
use Rattle.json_text_laws.proofs.Ends.{front_index}
use Rattle.json_protocol.specs.declared.opening.Opening.{Opening}
use Rattle.json_protocol.specs.declared.opening.Opening.TheVariants as openings
use Rattle.json_protocol.specs.Scan.{Scan, fault, ◌>>=◌, further, mark_at}
use Rattle.json_protocol.specs.Words.{kind_at, int_in, quoted_int_in, whole_in, double_in, infinity_fits, text_in, blob_in, string_in}
use Rattle.json_protocol.specs.Values.{i16_low, field_at, first_at, next_at, bool_at, i8_at, i16_at, i32_at, i64_at, double_at, struct_at, size_of, size_in, sequence_at, list_at, set_at, map_head_at, no_pairs_at, map_then, map_at, end_at, opens, value_at, value_in}
use Rattle.json_protocol.specs.Reading.{fields_at, item_in}
use Rattle.json_laws.proofs.ItemsBack.{range_flag, range_8, range_16, range_32, range_64, range_size}
use Rattle.json_laws.proofs.Keeping.{Stays, IsStable, IsNone, weaker, same_fault, same_read, by_same, wants_one, then_stays, late_then, further_stays, further_late, cut_then, mapped}
use Rattle.json_laws.proofs.KeepingWords.{mark_stable, kind_stable, int_stable, quoted_stable, whole_stable, double_stable, string_stable}

-- ---- chains of marks and kinds

mark_cut : (mark : ℕ) → mark_at mark [] ≡ fault 0 reasons.Truncated
unfolding mark_at
mark_cut mark = refl

mark_none : (mark : ℕ) → IsNone (mark_at mark [])
unfolding mark_at
mark_none mark = tt

kind_none : IsNone (kind_at [])
unfolding kind_at
kind_none = tt

size_none : IsNone (size_in [])
unfolding int_in int_at integer magnitude
size_none = tt

field_none : IsNone (field_at [])
unfolding field_at quoted_int_in
field_none = tt

pub further_mark : (mark n : ℕ) (bytes more : List ℕ) → Stays true (length bytes) (further n (mark_at mark) bytes) (further n (mark_at mark) (bytes ++ more))
further_mark mark n bytes more = further_stays true (mark_at mark) n bytes more (mark_stable mark) (mark_none mark)

further_kind : (n : ℕ) (bytes more : List ℕ) → Stays true (length bytes) (further n kind_at bytes) (further n kind_at (bytes ++ more))
further_kind n bytes more = further_stays true kind_at n bytes more kind_stable kind_none

pub mark_then : {Y : Type 0} → (sure : Bool) (mark n : ℕ) (bytes more : List ℕ) (go on : Unit {0} × ℕ → Scan Y) → ((x : Unit {0} × ℕ) → Stays sure (length bytes) (go x) (on x)) → Stays sure (length bytes) (further n (mark_at mark) bytes >>= go) (further n (mark_at mark) (bytes ++ more) >>= on)
mark_then sure mark n bytes more go on h = then_stays sure (length bytes) (further n (mark_at mark) bytes) (further n (mark_at mark) (bytes ++ more)) go on (further_mark mark n bytes more) (λ x e. h x)

kind_then : {Y : Type 0} → (sure : Bool) (n : ℕ) (bytes more : List ℕ) (go on : Kind × ℕ → Scan Y) → ((x : Kind × ℕ) → Stays sure (length bytes) (go x) (on x)) → Stays sure (length bytes) (further n kind_at bytes >>= go) (further n kind_at (bytes ++ more) >>= on)
kind_then sure n bytes more go on h = then_stays sure (length bytes) (further n kind_at bytes) (further n kind_at (bytes ++ more)) go on (further_kind n bytes more) (λ x e. h x)

-- a mark that is called for where nothing is left
pub mark_late : {Y : Type 0} → (sure : Bool) (mark n : ℕ) (bytes : List ℕ) (go : Unit {0} × ℕ → Scan Y) (other : Scan Y) → length bytes ≤ n → Stays sure (length bytes) (further n (mark_at mark) bytes >>= go) other
mark_late sure mark n bytes go other past = let f = further_late (mark_at mark) n 0 bytes (mark_cut mark) past in cut_then sure (length bytes) f.0 (further n (mark_at mark) bytes) go other f.1

-- ---- fields

field_stable : IsStable true field_at
unfolding field_at
field_stable bytes more =
    then_stays true (length bytes) (quoted_int_in reasons.BadId i16_low (pos 32767) bytes) (quoted_int_in reasons.BadId i16_low (pos 32767) (bytes ++ more)) _ _ (quoted_stable reasons.BadId i16_low (pos 32767) range_16 bytes more) (λ id e.
    mark_then true 58 id.1 bytes more _ _ (λ colon. mark_then true 123 colon.1 bytes more _ _ (λ brace. mapped true (length bytes) (further brace.1 kind_at bytes) (further brace.1 kind_at (bytes ++ more)) (field id.0) (further_kind brace.1 bytes more))))

first_same : (bytes more : List ℕ) (byte : ℕ) → 0 < length bytes → (slice_index (bytes ++ more) 0 == byte) ≡ (slice_index bytes 0 == byte)
first_same bytes more byte some = ap (λ k. k == byte) (front_index bytes more 0 some)

first_stable : IsStable true first_at
unfolding first_at
first_stable bytes more =
    wants_one true bytes more _ _ (λ some. by_same true (length bytes) _ _ _ _ _ _ (first_same bytes more 125 some) (same_read true (length bytes) (stop, 1))
    (by_same true (length bytes) _ _ _ _ _ _ (first_same bytes more 34 some) (field_stable bytes more) (same_fault true (length bytes) 0 reasons.BadToken)))

next_stable : IsStable true next_at
unfolding next_at
next_stable bytes more =
    wants_one true bytes more _ _ (λ some. by_same true (length bytes) _ _ _ _ _ _ (first_same bytes more 125 some) (same_read true (length bytes) (stop, 1))
    (by_same true (length bytes) _ _ _ _ _ _ (first_same bytes more 44 some) (further_stays true field_at 1 bytes more field_stable field_none) (same_fault true (length bytes) 0 reasons.BadToken)))

fields_stable : (opening : Opening) → IsStable true (fields_at opening)
fields_stable openings.Old = next_stable
fields_stable openings.New = first_stable
fields_stable openings.Body = first_stable

-- ---- containers

size_stable : IsStable false size_in
size_stable bytes more = mapped false (length bytes) (int_in reasons.BadSize (pos 0) (pos 2147483647) bytes) (int_in reasons.BadSize (pos 0) (pos 2147483647) (bytes ++ more)) size_of (int_stable reasons.BadSize (pos 0) (pos 2147483647) range_size bytes more)

sized : {Y : Type 0} → (n : ℕ) (bytes more : List ℕ) (f : ℕ → Y) → Stays false (length bytes) (further n size_in bytes >>= λ x. Ok (f x.0, x.1)) (further n size_in (bytes ++ more) >>= λ x. Ok (f x.0, x.1))
sized n bytes more f = mapped false (length bytes) (further n size_in bytes) (further n size_in (bytes ++ more)) f (further_stays false size_in n bytes more size_stable size_none)

sequence_stable : IsStable false sequence_at
unfolding sequence_at
sequence_stable bytes more =
    then_stays false (length bytes) (mark_at 91 bytes) (mark_at 91 (bytes ++ more)) _ _ (mark_stable 91 bytes more) (λ bracket e. kind_then false bracket.1 bytes more _ _ (λ kind. mark_then false 44 kind.1 bytes more _ _ (λ comma. sized comma.1 bytes more (λ n. (kind.0, n)))))

map_head_stable : IsStable false map_head_at
unfolding map_head_at
map_head_stable bytes more =
    then_stays false (length bytes) (mark_at 91 bytes) (mark_at 91 (bytes ++ more)) _ _ (mark_stable 91 bytes more) (λ bracket e. kind_then false bracket.1 bytes more _ _ (λ key. mark_then false 44 key.1 bytes more _ _ (λ comma.
    kind_then false comma.1 bytes more _ _ (λ value. mark_then false 44 value.1 bytes more _ _ (λ second. sized second.1 bytes more (λ n. ((key.0, value.0), n)))))))

no_pairs_stays : (at : ℕ) (bytes more : List ℕ) → Stays true (length bytes) (no_pairs_at at bytes) (no_pairs_at at (bytes ++ more))
unfolding no_pairs_at
no_pairs_stays at bytes more =
    mark_then true 44 at bytes more _ _ (λ comma. mark_then true 123 comma.1 bytes more _ _ (λ brace. mark_then true 125 brace.1 bytes more _ _ (λ last.
    mapped true (length bytes) (further last.1 (mark_at 93) bytes) (further last.1 (mark_at 93) (bytes ++ more)) (λ _. empty_map) (further_mark 93 last.1 bytes more))))

map_then_stays : (key value : Kind) (n at : ℕ) (bytes more : List ℕ) → Stays false (length bytes) (map_then bytes key value n at) (map_then (bytes ++ more) key value n at)
map_then_stays key value zero at bytes more = weaker (length bytes) _ _ (no_pairs_stays at bytes more)
map_then_stays key value (suc n) at bytes more = same_read false (length bytes) (map_begin key value (suc n), at)

not_late : (at size : ℕ) → size ≤ at → (false ≡ true) ⊎ (at < size) → ⊥
not_late at size past (inl e) = absurd (cc)
not_late at size past (inr h) = omega (arith, past, h)

map_late : (key value : Kind) (n at : ℕ) (bytes : List ℕ) (other : Scan Item) → length bytes ≤ at → Stays false (length bytes) (map_then bytes key value n at) other
unfolding no_pairs_at
map_late key value zero at bytes other past = mark_late false 44 at bytes _ other past
map_late key value (suc n) at bytes other past = λ p. absurd (not_late at (length bytes) past p)

map_stable : IsStable false map_at
unfolding map_at
map_stable bytes more =
    late_then false (length bytes) (map_head_at bytes) (map_head_at (bytes ++ more)) _ _ (map_head_stable bytes more) (λ x less. map_then_stays x.0.0.0 x.0.0.1 x.0.1 x.1 bytes more) (λ x other past. map_late x.0.0.0 x.0.0.1 x.0.1 x.1 bytes other past)

end_stable : IsStable true end_at
unfolding end_at
end_stable bytes more = mapped true (length bytes) (mark_at 93 bytes) (mark_at 93 (bytes ++ more)) (λ _. end) (mark_stable 93 bytes more)

-- ---- values

value_stable : (key : Bool) (hint : Hint) (kind : Kind) → IsStable false (value_at key hint kind)
unfolding value_at bool_at i8_at i16_at i32_at i64_at double_at struct_at list_at set_at
value_stable key hint kinds.Bool bytes more = mapped false (length bytes) (whole_in key reasons.BadBool (pos 0) (pos 1) bytes) (whole_in key reasons.BadBool (pos 0) (pos 1) (bytes ++ more)) (λ n. bool_value (int_lt (pos 0) n)) (whole_stable key reasons.BadBool (pos 0) (pos 1) range_flag bytes more)
value_stable key hint kinds.I8 bytes more = mapped false (length bytes) (whole_in key reasons.BadNumber (negsuc 127) (pos 127) bytes) (whole_in key reasons.BadNumber (negsuc 127) (pos 127) (bytes ++ more)) i8_value (whole_stable key reasons.BadNumber (negsuc 127) (pos 127) range_8 bytes more)
value_stable key hint kinds.I16 bytes more = mapped false (length bytes) (whole_in key reasons.BadNumber i16_low (pos 32767) bytes) (whole_in key reasons.BadNumber i16_low (pos 32767) (bytes ++ more)) i16_value (whole_stable key reasons.BadNumber i16_low (pos 32767) range_16 bytes more)
value_stable key hint kinds.I32 bytes more =
    mapped false (length bytes) (whole_in key reasons.BadNumber (negsuc 2147483647) (pos 2147483647) bytes) (whole_in key reasons.BadNumber (negsuc 2147483647) (pos 2147483647) (bytes ++ more)) i32_value
    (whole_stable key reasons.BadNumber (negsuc 2147483647) (pos 2147483647) range_32 bytes more)
value_stable key hint kinds.I64 bytes more =
    mapped false (length bytes) (whole_in key reasons.BadNumber (negsuc 9223372036854775807) (pos 9223372036854775807) bytes) (whole_in key reasons.BadNumber (negsuc 9223372036854775807) (pos 9223372036854775807) (bytes ++ more)) i64_value
    (whole_stable key reasons.BadNumber (negsuc 9223372036854775807) (pos 9223372036854775807) range_64 bytes more)
value_stable key hint kinds.Double bytes more = mapped false (length bytes) (double_in key bytes) (double_in key (bytes ++ more)) number_text (double_stable key bytes more)
value_stable key hint kinds.Str bytes more = weaker (length bytes) _ _ (string_stable hint bytes more)
value_stable key hint kinds.Struct bytes more = weaker (length bytes) _ _ (mapped true (length bytes) (mark_at 123 bytes) (mark_at 123 (bytes ++ more)) (λ _. struct_begin) (mark_stable 123 bytes more))
value_stable key hint kinds.Map bytes more = map_stable bytes more
value_stable key hint kinds.Set bytes more = mapped false (length bytes) (sequence_at bytes) (sequence_at (bytes ++ more)) (λ l. set_begin l.0 l.1) (sequence_stable bytes more)
value_stable key hint kinds.List bytes more = mapped false (length bytes) (sequence_at bytes) (sequence_at (bytes ++ more)) (λ l. list_begin l.0 l.1) (sequence_stable bytes more)
value_stable key hint kinds.Uuid bytes more = same_fault false (length bytes) 0 reasons.BadKind

value_in_stable : (depth : ℕ) (key : Bool) (hint : Hint) (kind : Kind) → IsStable false (value_in depth key hint kind)
unfolding value_in
value_in_stable depth key hint kind bytes more = by_same false (length bytes) (opens kind && nat_le 256 depth) (opens kind && nat_le 256 depth) _ _ _ _ refl (same_fault false (length bytes) 0 reasons.TooDeep) (value_stable key hint kind bytes more)

value_none : (key : Bool) (hint : Hint) (kind : Kind) → IsNone (value_at key hint kind [])
unfolding value_at bool_at i8_at i16_at i32_at i64_at double_at struct_at list_at set_at map_at map_head_at sequence_at mark_at quoted_int_in int_in int_at integer magnitude double_in infinity_fits string_in text_in blob_in text_at blob_at
value_none true hint kinds.Bool = tt
value_none false hint kinds.Bool = tt
value_none true hint kinds.I8 = tt
value_none false hint kinds.I8 = tt
value_none true hint kinds.I16 = tt
value_none false hint kinds.I16 = tt
value_none true hint kinds.I32 = tt
value_none false hint kinds.I32 = tt
value_none true hint kinds.I64 = tt
value_none false hint kinds.I64 = tt
value_none key hint kinds.Double = tt
value_none key hints.Text kinds.Str = tt
value_none key hints.Blob kinds.Str = tt
value_none key hints.Unknown kinds.Str = tt
value_none key hint kinds.Struct = tt
value_none key hint kinds.Map = tt
value_none key hint kinds.Set = tt
value_none key hint kinds.List = tt
value_none key hint kinds.Uuid = tt

none_by : {X : Type 0} → (b : Bool) (x y : Scan X) → IsNone x → IsNone y → IsNone (cond b x y)
none_by true x y p q = p
none_by false x y p q = q

value_in_none : (depth : ℕ) (key : Bool) (hint : Hint) (kind : Kind) → IsNone (value_in depth key hint kind [])
unfolding value_in
value_in_none depth key hint kind = none_by (opens kind && nat_le 256 depth) (fault 0 reasons.TooDeep) (value_at key hint kind []) tt (value_none key hint kind)

end_none : IsNone (end_at [])
unfolding end_at mark_at
end_none = tt

fields_none : (opening : Opening) → IsNone (fields_at opening [])
unfolding first_at next_at
fields_none openings.Old = tt
fields_none openings.New = tt
fields_none openings.Body = tt

pub item_none : (depth : ℕ) (opening : Opening) (hint : Hint) (slot : Slot) → IsNone (item_in depth opening hint slot [])
unfolding item_in
item_none depth opening hint (slots.Fields last) = fields_none opening
item_none depth opening hint (slots.Value kind id) = value_in_none depth false hint kind
item_none depth opening hint (slots.Elements kind left) = none_by (left == 0) (end_at []) (value_in depth false hint kind []) end_none (value_in_none depth false hint kind)
item_none depth opening hint (slots.Keys key value left) = none_by (left == 0) (end_at []) (value_in depth true hint key []) end_none (value_in_none depth true hint key)
item_none depth opening hint (slots.Values key value left) = value_in_none depth false hint value

pub item_stable : (depth : ℕ) (opening : Opening) (hint : Hint) (slot : Slot) → IsStable false (item_in depth opening hint slot)
unfolding item_in
item_stable depth opening hint (slots.Fields last) bytes more = weaker (length bytes) _ _ (fields_stable opening bytes more)
item_stable depth opening hint (slots.Value kind id) bytes more = value_in_stable depth false hint kind bytes more
item_stable depth opening hint (slots.Elements kind left) bytes more = by_same false (length bytes) (left == 0) (left == 0) _ _ _ _ refl (weaker (length bytes) _ _ (end_stable bytes more)) (value_in_stable depth false hint kind bytes more)
item_stable depth opening hint (slots.Keys key value left) bytes more = by_same false (length bytes) (left == 0) (left == 0) _ _ _ _ refl (weaker (length bytes) _ _ (end_stable bytes more)) (value_in_stable depth true hint key bytes more)
item_stable depth opening hint (slots.Values key value left) bytes more = value_in_stable depth false hint value bytes more

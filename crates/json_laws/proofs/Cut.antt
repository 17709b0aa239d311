-- A scan of bytes that end within what it reads is truncated at their end, and one that reads stays within them.
use Rattle.std.proofs.Common.{◌≡◌, ℕ, ℤ, zero, suc, pos, negsuc, ◌+◌, ◌≤◌, Bool, true, false, cond, List, [], ◌∷◌, length, drop, Option, None, Some, Ok, Err, refl, ap, sym, subst, arith, inl, inr, length-append, length-drop}
use Rattle.std.specs.Prelude.{slice_index, nat_lt, nat_le, ◌==◌, ◌&&◌}
use Rattle.std.specs.List.{prefix_len}
use Rattle.std.proofs.lemmas.Bool.Decides.{nat_tests}
use Rattle.thrift_value.specs.declared.kind.Kind.{Kind}
use Rattle.thrift_value.specs.declared.kind.Kind.TheVariants as kinds
use Rattle.thrift_value.specs.Items.{Item}
use Rattle.protocol_traits.specs.declared.fault.Fault.{Fault}
use Rattle.protocol_traits.specs.declared.fault.Reason.{Reason}
use Rattle.protocol_traits.specs.declared.fault.Reason.TheVariants as reasons
use Rattle.protocol_traits.specs.declared.nest.Slot.{Slot}
use Rattle.protocol_traits.specs.declared.nest.Slot.TheVariants as slots
use Rattle.protocol_traits.specs.declared.proto.Hint.{Hint}
use Rattle.protocol_traits.specs.declared.proto.Hint.TheVariants as hints
use Rattle.protocol_traits.specs.Heads.{Header}
use Rattle.protocol_traits.specs.Steps.{Step}
use Rattle.protocol_traits.specs.Stack.{first_of}
use Rattle.type_walk.specs.Positions.{Position, hint_of}
use Rattle.type_walk.specs.Positions.{after as position_after}
use Rattle.json_text.specs.declared.scanned.Scan.{Scan as Text}
use Rattle.json_text.specs.declared.scanned.Scan.TheVariants.{Whole, Short, Bad}
use Rattle.json_text.specs.Scan.{is_white}
use Rattle.json_text.specs.Scan.{moved as text_moved}
use Rattle.json_text.specs.Int.{int_at}
use Rattle.json_text.specs.Number.{number_at}
use Rattle.json_text.specs.Text.{text_at}
use Rattle.json_text.specs.Blob.{blob_at}
use Rattle.json_text_laws.specs.Judged.{IsRange}
use Rattle.json_text_laws.proofs.TextLaw.{text_judged}
use Rattle.json_text_laws.proofs.BlobLaw.{whole_good}
use Rattle.json_protocol.specs.declared.opening.Opening.{Opening}
use Rattle.json_protocol.specs.declared.opening.Opening.TheVariants as openings
use Rattle.json_protocol.specs.Scan.{Scan, fault, shifted, ◌>>=◌, item, gap, further, mark_at, byte_fits, word_end}
use Rattle.json_protocol.specs.Words.{begins_two, begins_three, kind_at, wide_kind_at, large_kind_at, int_in, closed, quoted_int_in, whole_in, infinity_fits, spelled, number_in, quoted_number_in, double_in, text_in, blob_in, string_in}
use Rattle.json_protocol.specs.Values.{i16_low, field_at, first_at, next_at, bool_at, i8_at, i16_at, i32_at, i64_at, double_at, struct_at, size_in, sequence_at, list_at, set_at, map_head_at, no_pairs_at, map_then, map_at, end_at, opens, value_at, value_in}
use Rattle.json_protocol.specs.Reading.{State, begun, rest, lead_by, lead_pairs, lead_fields, lead_key, lead_at, item_in, begun_at, led, scan_at, moved, reads}
use Rattle.json_protocol.specs.Head.{front_at, back_at, head_at, headed, reads_head, end_scan, ended, reads_end}
use Rattle.json_laws.specs.Reads.{Reads}
use Rattle.json_laws.specs.Refused.{behind, Refuses, IsRefused}
use Rattle.json_laws.proofs.Inverse.{Token}
use Rattle.json_laws.proofs.Either.{same_blame}
use Rattle.json_laws.proofs.WordsBack.{int_whole, number_whole}
use Rattle.json_laws.proofs.ItemsBack.{range_flag, range_8, range_16, range_32, range_64, range_size}
use Rattle.json_laws.proofs.HeadBack.{range_version, range_type}

abbrev pub Cuts : {X : Type 0} → ℕ → Scan X → Type 0
Cuts size (Ok x) = x.1 ≤ size
Cuts size (Err f) = f.reason ≡ reasons.Truncated → f.place ≡ size

abbrev IsOther : Reason → Type 0
IsOther reason = reason ≡ reasons.Truncated → ⊥

-- ---- how scans are put together

bad : (size place : ℕ) (reason : Reason) → IsOther reason → reason ≡ reasons.Truncated → place ≡ size
bad size place reason other = λ t. absurd (other t)

by_test : {X : Type 0} → (size : ℕ) (b : Bool) (x y : Scan X) → (b ≡ true → Cuts size x) → (b ≡ false → Cuts size y) → Cuts size (cond b x y)
by_test size true x y f g = f refl
by_test size false x y f g = g refl

then_cuts : {X Y : Type 0} → (size : ℕ) (scan : Scan X) (go : X × ℕ → Scan Y) → Cuts size scan → ((x : X × ℕ) → x.1 ≤ size → Cuts size (go x)) → Cuts size (scan >>= go)
then_cuts size (Ok x) go h f = f x h
then_cuts size (Err e) go h f = h

shifted_cuts : {X : Type 0} → (size at left : ℕ) (scan : Scan X) → at + left ≡ size → Cuts left scan → Cuts size (shifted at scan)
shifted_cuts size at left (Ok x) is h = omega (arith, is, h)
shifted_cuts size at left (Err f) is h = λ t. omega (arith, is, h t)

run_most : (p : ℕ → Bool) (xs : List ℕ) → prefix_len p xs ≤ length xs
run_most p [] = omega arith
run_most p (x ∷ xs) = by_first (p x) (run_most p xs)
  where
    by_first : (b : Bool) → prefix_len p xs ≤ length xs → cond b (1 + prefix_len p xs) 0 ≤ suc (length xs)
    by_first true h = omega (arith, h)
    by_first false h = omega arith

pub gap_within : (n : ℕ) (bytes : List ℕ) → n ≤ length bytes → n + gap (drop n bytes) ≤ length bytes
gap_within n bytes most = omega (arith, most, run_most is_white (drop n bytes), length-drop n bytes)

further_cuts : {X : Type 0} → (n : ℕ) (scan : List ℕ → Scan X) (bytes : List ℕ) → n ≤ length bytes → ((r : List ℕ) → Cuts (length r) (scan r)) → Cuts (length bytes) (further n scan bytes)
further_cuts n scan bytes most h =
    let at = n + gap (drop n bytes) in
    let within = gap_within n bytes most in
    shifted_cuts (length bytes) at (length (drop at bytes)) (scan (drop at bytes)) (omega (arith, within, length-drop at bytes)) (h (drop at bytes))

pub mark_cuts : (m : ℕ) (bytes : List ℕ) → Cuts (length bytes) (mark_at m bytes)
unfolding mark_at
mark_cuts m bytes =
    by_test (length bytes) (nat_lt (length bytes) 1) _ _ (λ t u. grind (arith, nat_tests))
    (λ t. by_test (length bytes) (slice_index bytes 0 == m) _ _ (λ q. grind (arith, nat_tests)) (λ q. bad (length bytes) 0 reasons.BadToken (λ e. absurd (cc))))

pub further_mark : (m n : ℕ) (bytes : List ℕ) → n ≤ length bytes → Cuts (length bytes) (further n (mark_at m) bytes)
further_mark m n bytes most = further_cuts n (mark_at m) bytes most (mark_cuts m)

-- ---- words

word_cuts : {X : Type 0} → (bytes : List ℕ) (size : ℕ) (x : X) → Cuts (length bytes) (word_end bytes size x)
word_cuts bytes size x = by_test (length bytes) (nat_lt (length bytes) size) _ _ (λ t u. refl) (λ t. grind (arith, nat_tests))

large_cuts : (bytes : List ℕ) → Cuts (length bytes) (large_kind_at bytes)
unfolding large_kind_at
large_cuts bytes =
    let n = length bytes in
    by_test n (begins_three bytes 115 116 114) _ _ (λ t. word_cuts bytes 5 kinds.Str)
    (λ t. by_test n (begins_three bytes 114 101 99) _ _ (λ t. word_cuts bytes 5 kinds.Struct)
    (λ t. by_test n (begins_three bytes 109 97 112) _ _ (λ t. word_cuts bytes 5 kinds.Map)
    (λ t. by_test n (begins_three bytes 115 101 116) _ _ (λ t. word_cuts bytes 5 kinds.Set)
    (λ t. by_test n (begins_three bytes 108 115 116) _ _ (λ t. word_cuts bytes 5 kinds.List) (λ t. bad n 0 reasons.BadKind (λ e. absurd (cc)))))))

wide_cuts : (bytes : List ℕ) → Cuts (length bytes) (wide_kind_at bytes)
unfolding wide_kind_at
wide_cuts bytes =
    let n = length bytes in
    by_test n (begins_three bytes 105 49 54) _ _ (λ t. word_cuts bytes 5 kinds.I16)
    (λ t. by_test n (begins_three bytes 105 51 50) _ _ (λ t. word_cuts bytes 5 kinds.I32)
    (λ t. by_test n (begins_three bytes 105 54 52) _ _ (λ t. word_cuts bytes 5 kinds.I64)
    (λ t. by_test n (begins_three bytes 100 98 108) _ _ (λ t. word_cuts bytes 5 kinds.Double) (λ t. large_cuts bytes))))

pub kind_cuts : (bytes : List ℕ) → Cuts (length bytes) (kind_at bytes)
unfolding kind_at
kind_cuts bytes =
    let n = length bytes in
    by_test n (begins_two bytes 116 102) _ _ (λ t. word_cuts bytes 4 kinds.Bool) (λ t. by_test n (begins_two bytes 105 56) _ _ (λ t. word_cuts bytes 4 kinds.I8) (λ t. wide_cuts bytes))

item_cuts : {X : Type 0} → (reason : Reason) (bytes : List ℕ) (scan : Text X) → IsOther reason → ((x : X) (n : ℕ) → scan ≡ Whole x n → n ≤ length bytes) → Cuts (length bytes) (item reason bytes (text_moved 0 scan))
item_cuts reason bytes (Whole x n) other within = let w = within x n refl in omega (arith, w)
item_cuts reason bytes Short other within = λ t. refl
item_cuts reason bytes (Bad place) other within = λ t. absurd (other t)

closed_cuts : {X : Type 0} → (reason : Reason) (bytes : List ℕ) (scan : Text X) → IsOther reason → Cuts (length bytes) (closed reason bytes (text_moved 1 scan))
closed_cuts reason bytes (Whole x n) other =
    by_test (length bytes) (nat_le (length bytes) (1 + n)) _ _ (λ t u. refl)
    (λ t. by_test (length bytes) (slice_index bytes (1 + n) == 34) _ _ (λ q. grind (arith, nat_tests)) (λ q. bad (length bytes) 0 reason other))
closed_cuts reason bytes Short other = λ t. refl
closed_cuts reason bytes (Bad place) other = bad (length bytes) 0 reason other

quoted_cuts : {X : Type 0} → (reason : Reason) (bytes : List ℕ) (scan : Text X) → IsOther reason
    → Cuts (length bytes) (cond (nat_lt (length bytes) 1) (fault 0 reasons.Truncated) (cond (slice_index bytes 0 == 34) (closed reason bytes (text_moved 1 scan)) (fault 0 reason)))
quoted_cuts reason bytes scan other =
    by_test (length bytes) (nat_lt (length bytes) 1) _ _ (λ t u. grind (arith, nat_tests))
    (λ t. by_test (length bytes) (slice_index bytes 0 == 34) _ _ (λ q. closed_cuts reason bytes scan other) (λ q. bad (length bytes) 0 reason other))

token_within : (bytes : List ℕ) (n : ℕ) (Is : List ℕ → Type 0) → Token bytes n Is → n ≤ length bytes
token_within bytes n Is t = omega (arith, t.long, ap length t.laid, length-append t.token t.rest)

int_cuts : (reason : Reason) (low high : ℤ) → IsOther reason → IsRange low high → (bytes : List ℕ) → Cuts (length bytes) (int_in reason low high bytes)
unfolding int_in
int_cuts reason low high other range bytes = item_cuts reason bytes (int_at low high bytes) other (λ z n e. token_within bytes n _ (int_whole low high z bytes n range e))

quoted_int_cuts : (reason : Reason) (low high : ℤ) → IsOther reason → (bytes : List ℕ) → Cuts (length bytes) (quoted_int_in reason low high bytes)
unfolding quoted_int_in
quoted_int_cuts reason low high other bytes = quoted_cuts reason bytes (int_at low high (drop 1 bytes)) other

pub whole_cuts : (key : Bool) (reason : Reason) (low high : ℤ) → IsOther reason → IsRange low high → (bytes : List ℕ) → Cuts (length bytes) (whole_in key reason low high bytes)
whole_cuts true reason low high other range bytes = quoted_int_cuts reason low high other bytes
whole_cuts false reason low high other range bytes = int_cuts reason low high other range bytes

number_cuts : (bytes : List ℕ) → Cuts (length bytes) (number_in bytes)
unfolding number_in
number_cuts bytes = item_cuts reasons.BadNumber bytes (number_at bytes) (λ e. absurd (cc)) (λ x n e. token_within bytes n _ (number_whole bytes x n e))

quoted_number_cuts : (bytes : List ℕ) → Cuts (length bytes) (quoted_number_in bytes)
unfolding quoted_number_in
quoted_number_cuts bytes = quoted_cuts reasons.BadNumber bytes (number_at (drop 1 bytes)) (λ e. absurd (cc))

spelled_cuts : (from : ℕ) (bytes : List ℕ) (scan : Scan ℕ) → Cuts (length bytes) scan → Cuts (length bytes) (spelled from bytes scan)
spelled_cuts from bytes (Ok x) h = h
spelled_cuts from bytes (Err f) h = h

pub double_cuts : (key : Bool) (bytes : List ℕ) → Cuts (length bytes) (double_in key bytes)
unfolding double_in
double_cuts key bytes =
    let n = length bytes in
    by_test n (begins_three bytes 78 97 78) _ _ (λ t. spelled_cuts 1 bytes _ (word_cuts bytes 5 3))
    (λ t. by_test n (byte_fits bytes 0 34 && infinity_fits bytes 1) _ _ (λ t. spelled_cuts 1 bytes _ (word_cuts bytes 10 8))
    (λ t. by_test n (byte_fits bytes 0 34 && byte_fits bytes 1 45 && infinity_fits bytes 2) _ _ (λ t. spelled_cuts 1 bytes _ (word_cuts bytes 11 9))
    (λ t. by_test n key _ _ (λ t. spelled_cuts 1 bytes _ (quoted_number_cuts bytes)) (λ t. spelled_cuts 0 bytes _ (number_cuts bytes)))))

pub text_cuts : (bytes : List ℕ) → Cuts (length bytes) (text_in bytes)
unfolding text_in
text_cuts bytes =
    item_cuts reasons.BadString bytes (text_at bytes) (λ e. absurd (cc))
    (λ m n e. let g = ((text_judged bytes).0 m n).0 e in omega (arith, g.3, ap length g.2, length-append g.0 g.1))

pub blob_cuts : (bytes : List ℕ) → Cuts (length bytes) (blob_in bytes)
unfolding blob_in
blob_cuts bytes =
    item_cuts reasons.BadBase64 bytes (blob_at bytes) (λ e. absurd (cc))
    (λ m n e. let g = whole_good bytes m n e in omega (arith, g.3, ap length g.2, length-append g.0 g.1))

string_cuts : (hint : Hint) (bytes : List ℕ) → Cuts (length bytes) (string_in hint bytes)
unfolding string_in
string_cuts hints.Text bytes = then_cuts (length bytes) (text_in bytes) _ (text_cuts bytes) (λ x h. h)
string_cuts hints.Blob bytes = then_cuts (length bytes) (blob_in bytes) _ (blob_cuts bytes) (λ x h. h)
string_cuts hints.Unknown bytes = then_cuts (length bytes) (text_in bytes) _ (text_cuts bytes) (λ x h. h)

-- ---- items

field_cuts : (bytes : List ℕ) → Cuts (length bytes) (field_at bytes)
unfolding field_at
field_cuts bytes =
    let n = length bytes in
    then_cuts n (quoted_int_in reasons.BadId i16_low (pos 32767) bytes) _ (quoted_int_cuts reasons.BadId i16_low (pos 32767) (λ e. absurd (cc)) bytes)
    (λ id a. then_cuts n (further id.1 (mark_at 58) bytes) _ (further_mark 58 id.1 bytes a)
    (λ colon b. then_cuts n (further colon.1 (mark_at 123) bytes) _ (further_mark 123 colon.1 bytes b)
    (λ brace c. then_cuts n (further brace.1 kind_at bytes) _ (further_cuts brace.1 kind_at bytes c kind_cuts) (λ kind h. h))))

first_cuts : (bytes : List ℕ) → Cuts (length bytes) (first_at bytes)
unfolding first_at
first_cuts bytes =
    let n = length bytes in
    by_test n (nat_lt n 1) _ _ (λ t u. grind (arith, nat_tests))
    (λ t. by_test n (slice_index bytes 0 == 125) _ _ (λ q. grind (arith, nat_tests))
    (λ q. by_test n (slice_index bytes 0 == 34) _ _ (λ r. field_cuts bytes) (λ r. bad n 0 reasons.BadToken (λ e. absurd (cc)))))

next_cuts : (bytes : List ℕ) → Cuts (length bytes) (next_at bytes)
unfolding next_at
next_cuts bytes =
    let n = length bytes in
    by_test n (nat_lt n 1) _ _ (λ t u. grind (arith, nat_tests))
    (λ t. by_test n (slice_index bytes 0 == 125) _ _ (λ q. grind (arith, nat_tests))
    (λ q. by_test n (slice_index bytes 0 == 44) _ _ (λ r. further_cuts 1 field_at bytes (grind (arith, nat_tests)) field_cuts) (λ r. bad n 0 reasons.BadToken (λ e. absurd (cc)))))

size_cuts : (bytes : List ℕ) → Cuts (length bytes) (size_in bytes)
size_cuts bytes = then_cuts (length bytes) (int_in reasons.BadSize (pos 0) (pos 2147483647) bytes) _ (int_cuts reasons.BadSize (pos 0) (pos 2147483647) (λ e. absurd (cc)) range_size bytes) (λ x h. h)

sequence_cuts : (bytes : List ℕ) → Cuts (length bytes) (sequence_at bytes)
unfolding sequence_at
sequence_cuts bytes =
    let n = length bytes in
    then_cuts n (mark_at 91 bytes) _ (mark_cuts 91 bytes)
    (λ bracket a. then_cuts n (further bracket.1 kind_at bytes) _ (further_cuts bracket.1 kind_at bytes a kind_cuts)
    (λ kind b. then_cuts n (further kind.1 (mark_at 44) bytes) _ (further_mark 44 kind.1 bytes b)
    (λ comma c. then_cuts n (further comma.1 size_in bytes) _ (further_cuts comma.1 size_in bytes c size_cuts) (λ size h. h))))

map_head_cuts : (bytes : List ℕ) → Cuts (length bytes) (map_head_at bytes)
unfolding map_head_at
map_head_cuts bytes =
    let n = length bytes in
    then_cuts n (mark_at 91 bytes) _ (mark_cuts 91 bytes)
    (λ bracket a. then_cuts n (further bracket.1 kind_at bytes) _ (further_cuts bracket.1 kind_at bytes a kind_cuts)
    (λ key b. then_cuts n (further key.1 (mark_at 44) bytes) _ (further_mark 44 key.1 bytes b)
    (λ comma c. then_cuts n (further comma.1 kind_at bytes) _ (further_cuts comma.1 kind_at bytes c kind_cuts)
    (λ value d. then_cuts n (further value.1 (mark_at 44) bytes) _ (further_mark 44 value.1 bytes d)
    (λ second e. then_cuts n (further second.1 size_in bytes) _ (further_cuts second.1 size_in bytes e size_cuts) (λ size h. h))))))

no_pairs_cuts : (at : ℕ) (bytes : List ℕ) → at ≤ length bytes → Cuts (length bytes) (no_pairs_at at bytes)
unfolding no_pairs_at
no_pairs_cuts at bytes most =
    let n = length bytes in
    then_cuts n (further at (mark_at 44) bytes) _ (further_mark 44 at bytes most)
    (λ comma a. then_cuts n (further comma.1 (mark_at 123) bytes) _ (further_mark 123 comma.1 bytes a)
    (λ brace b. then_cuts n (further brace.1 (mark_at 125) bytes) _ (further_mark 125 brace.1 bytes b)
    (λ last c. then_cuts n (further last.1 (mark_at 93) bytes) _ (further_mark 93 last.1 bytes c) (λ bracket h. h))))

map_then_cuts : (bytes : List ℕ) (key value : Kind) (size at : ℕ) → at ≤ length bytes → Cuts (length bytes) (map_then bytes key value size at)
map_then_cuts bytes key value zero at most = no_pairs_cuts at bytes most
map_then_cuts bytes key value (suc size) at most = most

map_cuts : (bytes : List ℕ) → Cuts (length bytes) (map_at bytes)
unfolding map_at
map_cuts bytes = then_cuts (length bytes) (map_head_at bytes) _ (map_head_cuts bytes) (λ m h. map_then_cuts bytes m.0.0.0 m.0.0.1 m.0.1 m.1 h)

end_cuts : (bytes : List ℕ) → Cuts (length bytes) (end_at bytes)
unfolding end_at
end_cuts bytes = then_cuts (length bytes) (mark_at 93 bytes) _ (mark_cuts 93 bytes) (λ x h. h)

value_cuts : (key : Bool) (hint : Hint) (kind : Kind) (bytes : List ℕ) → Cuts (length bytes) (value_at key hint kind bytes)
unfolding value_at bool_at i8_at i16_at i32_at i64_at double_at struct_at list_at set_at
value_cuts key hint kinds.Bool bytes = then_cuts (length bytes) (whole_in key reasons.BadBool (pos 0) (pos 1) bytes) _ (whole_cuts key reasons.BadBool (pos 0) (pos 1) (λ e. absurd (cc)) range_flag bytes) (λ x h. h)
value_cuts key hint kinds.I8 bytes = then_cuts (length bytes) (whole_in key reasons.BadNumber (negsuc 127) (pos 127) bytes) _ (whole_cuts key reasons.BadNumber (negsuc 127) (pos 127) (λ e. absurd (cc)) range_8 bytes) (λ x h. h)
value_cuts key hint kinds.I16 bytes = then_cuts (length bytes) (whole_in key reasons.BadNumber i16_low (pos 32767) bytes) _ (whole_cuts key reasons.BadNumber i16_low (pos 32767) (λ e. absurd (cc)) range_16 bytes) (λ x h. h)
value_cuts key hint kinds.I32 bytes =
    then_cuts (length bytes) (whole_in key reasons.BadNumber (negsuc 2147483647) (pos 2147483647) bytes) _ (whole_cuts key reasons.BadNumber (negsuc 2147483647) (pos 2147483647) (λ e. absurd (cc)) range_32 bytes) (λ x h. h)
value_cuts key hint kinds.I64 bytes =
    then_cuts (length bytes) (whole_in key reasons.BadNumber (negsuc 9223372036854775807) (pos 9223372036854775807) bytes) _
    (whole_cuts key reasons.BadNumber (negsuc 9223372036854775807) (pos 9223372036854775807) (λ e. absurd (cc)) range_64 bytes) (λ x h. h)
value_cuts key hint kinds.Double bytes = then_cuts (length bytes) (double_in key bytes) _ (double_cuts key bytes) (λ x h. h)
value_cuts key hint kinds.Str bytes = string_cuts hint bytes
value_cuts key hint kinds.Struct bytes = then_cuts (length bytes) (mark_at 123 bytes) _ (mark_cuts 123 bytes) (λ x h. h)
value_cuts key hint kinds.Map bytes = map_cuts bytes
value_cuts key hint kinds.Set bytes = then_cuts (length bytes) (sequence_at bytes) _ (sequence_cuts bytes) (λ x h. h)
value_cuts key hint kinds.List bytes = then_cuts (length bytes) (sequence_at bytes) _ (sequence_cuts bytes) (λ x h. h)
value_cuts key hint kinds.Uuid bytes = bad (length bytes) 0 reasons.BadKind (λ e. absurd (cc))

deep_cuts : (depth : ℕ) (key : Bool) (hint : Hint) (kind : Kind) (bytes : List ℕ) → Cuts (length bytes) (value_in depth key hint kind bytes)
unfolding value_in
deep_cuts depth key hint kind bytes =
    by_test (length bytes) (opens kind && nat_le 256 depth) _ _ (λ t. bad (length bytes) 0 reasons.TooDeep (λ e. absurd (cc))) (λ t. value_cuts key hint kind bytes)

-- ---- an item behind its marks

lead_cuts : (m : ℕ) (bytes : List ℕ) → Cuts (length bytes) (lead_by m bytes)
lead_cuts m bytes = then_cuts (length bytes) (further 0 (mark_at m) bytes) _ (further_mark m 0 bytes (omega arith)) (λ there h. gap_within there.1 bytes h)

pairs_cuts : (bytes : List ℕ) → Cuts (length bytes) (lead_pairs bytes)
unfolding lead_pairs
pairs_cuts bytes =
    let n = length bytes in
    then_cuts n (further 0 (mark_at 44) bytes) _ (further_mark 44 0 bytes (omega arith))
    (λ comma a. then_cuts n (further comma.1 (mark_at 123) bytes) _ (further_mark 123 comma.1 bytes a) (λ brace h. gap_within brace.1 bytes h))

gap_cuts : (bytes : List ℕ) → gap bytes ≤ length bytes
gap_cuts bytes = run_most is_white bytes

pub leads_cut : (opening : Opening) (slot : Slot) (bytes : List ℕ) → Cuts (length bytes) (lead_at opening slot bytes)
unfolding lead_at lead_fields lead_key
leads_cut openings.Body (slots.Fields last) bytes = lead_cuts 123 bytes
leads_cut openings.New (slots.Fields last) bytes = gap_cuts bytes
leads_cut openings.Old (slots.Fields last) bytes = lead_cuts 125 bytes
leads_cut opening (slots.Value kind id) bytes = lead_cuts 58 bytes
leads_cut opening (slots.Elements kind left) bytes = by_test (length bytes) (left == 0) _ _ (λ t. gap_cuts bytes) (λ t. lead_cuts 44 bytes)
leads_cut openings.Body (slots.Keys key value left) bytes = by_test (length bytes) (left == 0) _ _ (λ t. lead_cuts 125 bytes) (λ t. pairs_cuts bytes)
leads_cut openings.New (slots.Keys key value left) bytes = by_test (length bytes) (left == 0) _ _ (λ t. lead_cuts 125 bytes) (λ t. pairs_cuts bytes)
leads_cut openings.Old (slots.Keys key value left) bytes = by_test (length bytes) (left == 0) _ _ (λ t. lead_cuts 125 bytes) (λ t. lead_cuts 44 bytes)
leads_cut opening (slots.Values key value left) bytes = lead_cuts 58 bytes

items_cut : (depth : ℕ) (opening : Opening) (hint : Hint) (slot : Slot) (bytes : List ℕ) → Cuts (length bytes) (item_in depth opening hint slot bytes)
unfolding item_in
items_cut depth openings.Body hint (slots.Fields last) bytes = first_cuts bytes
items_cut depth openings.New hint (slots.Fields last) bytes = first_cuts bytes
items_cut depth openings.Old hint (slots.Fields last) bytes = next_cuts bytes
items_cut depth opening hint (slots.Value kind id) bytes = deep_cuts depth false hint kind bytes
items_cut depth opening hint (slots.Elements kind left) bytes = by_test (length bytes) (left == 0) _ _ (λ t. end_cuts bytes) (λ t. deep_cuts depth false hint kind bytes)
items_cut depth opening hint (slots.Keys key value left) bytes = by_test (length bytes) (left == 0) _ _ (λ t. end_cuts bytes) (λ t. deep_cuts depth true hint key bytes)
items_cut depth opening hint (slots.Values key value left) bytes = deep_cuts depth false hint value bytes

begun_cuts : (size start : ℕ) (scan : Scan Item) → Cuts size scan → Cuts size (begun_at start scan)
begun_cuts size start (Ok x) h = h
begun_cuts size start (Err f) h = h

led_cuts : (depth : ℕ) (opening : Opening) (hint : Hint) (slot : Slot) (bytes : List ℕ) (lead : Scan (Unit {0})) → Cuts (length bytes) lead → Cuts (length bytes) (led depth opening hint slot bytes lead)
led_cuts depth opening hint slot bytes (Ok x) h =
    begun_cuts (length bytes) x.1 (shifted x.1 (item_in depth opening hint slot (drop x.1 bytes)))
    (shifted_cuts (length bytes) x.1 (length (drop x.1 bytes)) (item_in depth opening hint slot (drop x.1 bytes)) (omega (arith, h, length-drop x.1 bytes)) (items_cut depth opening hint slot (drop x.1 bytes)))
led_cuts depth opening hint slot bytes (Err f) h = h

pub scan_cuts : (depth : ℕ) (opening : Opening) (hint : Hint) (top : Option Slot) (bytes : List ℕ) → Cuts (length bytes) (scan_at depth opening hint top bytes)
scan_cuts depth opening hint None bytes = bad (length bytes) 0 reasons.Trailing (λ e. absurd (cc))
scan_cuts depth opening hint (Some slot) bytes = led_cuts depth opening hint slot bytes (lead_at opening slot bytes) (leads_cut opening slot bytes)

-- ---- the header and the end

front_cuts : (bytes : List ℕ) → Cuts (length bytes) (front_at bytes)
unfolding front_at
front_cuts bytes =
    let n = length bytes in
    then_cuts n (further 0 (mark_at 91) bytes) _ (further_mark 91 0 bytes (omega arith))
    (λ bracket a. then_cuts n (further bracket.1 (int_in reasons.BadVersion (pos 1) (pos 1)) bytes) _
    (further_cuts bracket.1 (int_in reasons.BadVersion (pos 1) (pos 1)) bytes a (int_cuts reasons.BadVersion (pos 1) (pos 1) (λ e. absurd (cc)) range_version))
    (λ version b. then_cuts n (further version.1 (mark_at 44) bytes) _ (further_mark 44 version.1 bytes b) (λ comma h. gap_within comma.1 bytes h)))

back_cuts : (name : ℕ) (bytes : List ℕ) → name ≤ length bytes → Cuts (length bytes) (back_at name bytes)
unfolding back_at
back_cuts name bytes most =
    let n = length bytes in
    then_cuts n (further name (mark_at 44) bytes) _ (further_mark 44 name bytes most)
    (λ first a. then_cuts n (further first.1 (int_in reasons.BadType (pos 1) (pos 4)) bytes) _
    (further_cuts first.1 (int_in reasons.BadType (pos 1) (pos 4)) bytes a (int_cuts reasons.BadType (pos 1) (pos 4) (λ e. absurd (cc)) range_type))
    (λ kind b. then_cuts n (further kind.1 (mark_at 44) bytes) _ (further_mark 44 kind.1 bytes b)
    (λ second c. then_cuts n (further second.1 (int_in reasons.BadNumber (negsuc 2147483647) (pos 2147483647)) bytes) _
    (further_cuts second.1 (int_in reasons.BadNumber (negsuc 2147483647) (pos 2147483647)) bytes c (int_cuts reasons.BadNumber (negsuc 2147483647) (pos 2147483647) (λ e. absurd (cc)) range_32))
    (λ seq d. then_cuts n (further seq.1 (mark_at 44) bytes) _ (further_mark 44 seq.1 bytes d) (λ third h. h)))))

pub head_cuts : (bytes : List ℕ) → Cuts (length bytes) (head_at bytes)
unfolding head_at
head_cuts bytes =
    let n = length bytes in
    then_cuts n (front_at bytes) _ (front_cuts bytes)
    (λ front a. then_cuts n (shifted front.1 (text_in (drop front.1 bytes))) _
    (shifted_cuts n front.1 (length (drop front.1 bytes)) (text_in (drop front.1 bytes)) (omega (arith, a, length-drop front.1 bytes)) (text_cuts (drop front.1 bytes)))
    (λ name b. then_cuts n (back_at name.1 bytes) _ (back_cuts name.1 bytes b) (λ back h. h)))

pub end_scan_cuts : (bytes : List ℕ) → Cuts (length bytes) (end_scan bytes)
unfolding end_scan
end_scan_cuts bytes =
    let n = length bytes in
    then_cuts n (further 0 (mark_at 93) bytes) _ (further_mark 93 0 bytes (omega arith))
    (λ bracket a. by_test n (bracket.1 + gap (drop bracket.1 bytes) == length bytes) _ _ (λ t. omega arith) (λ t. bad n _ reasons.Trailing (λ e. absurd (cc))))

-- ---- call by call

abbrev state_in : {X : Type 0} → State → Step State X → State
state_in s (Ok x) = x.1
state_in s (Err f) = s

abbrev IsWithin : List ℕ → State → Type 0
IsWithin bytes s = (s.frame ≡ bytes) × (s.place ≤ length bytes)

abbrev IsCut : List ℕ → Fault → Type 0
IsCut bytes f = f.reason ≡ reasons.Truncated → f.place ≡ length bytes

abbrev shown : ℕ → Fault → Fault
shown n f = record { place = n + f.place; reason = f.reason }

cut_there : (bytes : List ℕ) (s : State) (b f : Fault) → IsWithin bytes s → (b.reason ≡ reasons.Truncated → b.place ≡ length (rest s)) → shown s.place b ≡ f → IsCut bytes f
cut_there bytes s b f (frame, most) h e =
    subst (IsCut bytes) e (λ t. let at = h t in let same : length s.frame ≡ length bytes = ap length frame in omega (arith, at, same, most, length-drop s.place s.frame))

read_within : (bytes : List ℕ) (s next : State) (hint : Hint) (item : Item) → IsWithin bytes s → reads s hint ≡ Ok (item, next) → IsWithin bytes next
unfolding reads
read_within bytes s next hint item (frame, most) = of_scan (scan_at (length s.nest) s.opening hint (first_of s.nest) (rest s)) (scan_cuts (length s.nest) s.opening hint (first_of s.nest) (rest s))
  where
    of_scan : (scan : Scan (Item × ℕ)) → Cuts (length (rest s)) scan → moved s scan ≡ Ok (item, next) → IsWithin bytes next
    of_scan (Err f) h e = absurd (cc)
    of_scan (Ok x) h e =
        let same : length s.frame ≡ length bytes = ap length frame in
        let there : state_in s (moved s (Ok x)) ≡ next = ap (state_in s) e in
        subst (IsWithin bytes) there (frame, omega (arith, h, same, most, length-drop s.place s.frame))

read_fault : (bytes : List ℕ) (s : State) (hint : Hint) (f : Fault) → IsWithin bytes s → reads s hint ≡ Err f → IsCut bytes f
unfolding reads
read_fault bytes s hint f within = of_scan (scan_at (length s.nest) s.opening hint (first_of s.nest) (rest s)) (scan_cuts (length s.nest) s.opening hint (first_of s.nest) (rest s))
  where
    of_scan : (scan : Scan (Item × ℕ)) → Cuts (length (rest s)) scan → moved s scan ≡ Err f → IsCut bytes f
    of_scan (Ok x) h e = absurd (cc)
    of_scan (Err b) h e = cut_there bytes s b f within h (same_blame {X = Item} (shown s.place b) f e)

end_fault : (bytes : List ℕ) (s : State) (f : Fault) → IsWithin bytes s → reads_end s ≡ Err f → IsCut bytes f
unfolding reads_end
end_fault bytes s f within = of_scan (end_scan (rest s)) (end_scan_cuts (rest s))
  where
    of_scan : (scan : Scan (Unit {0})) → Cuts (length (rest s)) scan → ended s scan ≡ Err f → IsCut bytes f
    of_scan (Ok x) h e = absurd (cc)
    of_scan (Err b) h e = cut_there bytes s b f within h (same_blame {X = Unit {0}} (shown s.place b) f e)

body_cut : (items : List Item) (bytes : List ℕ) (p : Position) (s last : State) (f : Fault) → IsWithin bytes s → Reads p s items last → Refuses (behind p items) last f → IsCut bytes f
body_cut [] bytes p s last f within same (inl (some, e)) = read_fault bytes s (hint_of p) f within (subst (λ t. reads t (hint_of p) ≡ Err f) (sym same) e)
body_cut [] bytes p s last f within same (inr (none, e)) = end_fault bytes s f within (subst (λ t. reads_end t ≡ Err f) (sym same) e)
body_cut (item ∷ items) bytes p s last f within (next, e, body) refuses = body_cut items bytes (position_after p item) next last f (read_within bytes s next (hint_of p) item within e) body refuses

head_within : (bytes : List ℕ) (h : Header) (first : State) → reads_head (begun bytes) ≡ Ok (h, first) → IsWithin bytes first
unfolding reads_head
head_within bytes h first = of_scan (head_at bytes) (head_cuts bytes)
  where
    of_scan : (scan : Scan (Header × ℕ)) → Cuts (length bytes) scan → headed (begun bytes) scan ≡ Ok (h, first) → IsWithin bytes first
    of_scan (Err f) cuts e = absurd (cc)
    of_scan (Ok x) cuts e = let there : state_in (begun bytes) (headed (begun bytes) (Ok x)) ≡ first = ap (state_in (begun bytes)) e in subst (IsWithin bytes) there (refl, omega (arith, cuts))

head_fault : (bytes : List ℕ) (f : Fault) → reads_head (begun bytes) ≡ Err f → IsCut bytes f
unfolding reads_head
head_fault bytes f = of_scan (head_at bytes) (head_cuts bytes)
  where
    of_scan : (scan : Scan (Header × ℕ)) → Cuts (length bytes) scan → headed (begun bytes) scan ≡ Err f → IsCut bytes f
    of_scan (Ok x) cuts e = absurd (cc)
    of_scan (Err b) cuts e = subst (IsCut bytes) (same_blame {X = Header} (shown 0 b) f e) (λ t. let at = cuts t in omega (arith, at))

-- what is refused as truncated is refused at its end
pub cut_at_end : (p : Position) (bytes : List ℕ) (f : Fault) → IsRefused p bytes f → IsCut bytes f
cut_at_end p bytes f (inl e) = head_fault bytes f e
cut_at_end p bytes f (inr (h, items, first, last, head, body, refuses)) = body_cut items bytes p first last f (head_within bytes h first head) body refuses

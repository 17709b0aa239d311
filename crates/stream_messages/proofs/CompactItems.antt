-- The items and the header of the Compact protocol, byte by byte.
use Rattle.std.proofs.Common.{◌≡◌, ℕ, zero, suc, ◌+◌, ◌*◌, ◌/◌, ◌%◌, Bool, true, false, cond, List, [], ◌∷◌, length, take, drop, Ok, Err, refl, arith, sym, ap, ◌∙◌, length-drop}
use Rattle.std.specs.Prelude.{ℤ, Result, Option, Some, None, nat_lt, nat_le, ◌==◌, ◌&&◌, if◌then◌else◌}
use Rattle.std.specs.Int.{w32, cast_signed}
use Rattle.std.proofs.lemmas.Bool.Decides.{nat_tests}
use Rattle.varint_zigzag.specs.declared.fault.VarFault.{VarFault}
use Rattle.varint_zigzag.specs.declared.fault.VarFault.TheVariants.{Short, Bad}
use Rattle.varint_zigzag.specs.Varint.{varint_at}
use Rattle.varint_zigzag.specs.Bounds.{Found, varint_found}
use Rattle.varint_zigzag.specs.Zigzag.{unfolded}
use Rattle.thrift_value.specs.declared.kind.Kind.{Kind}
use Rattle.thrift_value.specs.declared.kind.Kind.TheVariants as kinds
use Rattle.thrift_value.specs.declared.kind.MessageType.{MessageType}
use Rattle.thrift_value.specs.Items.{Item, field, stop, bool_value, i16_value, i32_value, i64_value, text, empty_map, map_begin, set_begin, list_begin}
use Rattle.protocol_traits.specs.declared.fault.Reason.TheVariants as reasons
use Rattle.protocol_traits.specs.declared.nest.Slot.{Slot}
use Rattle.protocol_traits.specs.declared.nest.Slot.TheVariants as slots
use Rattle.protocol_traits.specs.Follow.{after, spent}
use Rattle.protocol_traits.specs.Stack.{rest_of}
use Rattle.protocol_traits.specs.Heads.{Header}
use Rattle.compact_protocol.specs.Codes.{kind_of, type_of}
use Rattle.compact_protocol.specs.Scan.{Scan, fault, shifted, ◌>>=◌, varint_of, varint16_at, varint32_at, varint64_at, id_at, size_at, string_at, next_id, short_field, long_field, field_of, field_at, bool_at, i8_at, i16_at, i32_at, i64_at, double_at, text_at, uuid_at, elements_of, elements_at, set_at, list_at, both_kinds, kinds_at, map_at, value_at, type_or_fault, type_at}
use Rattle.stream_messages.specs.declared.scan.Wire.{Wire}
use Rattle.stream_messages.specs.declared.parts.Next.{Next}
use Rattle.stream_messages.specs.declared.parts.Next.TheVariants as next
use Rattle.stream_messages.specs.declared.parts.Part.TheVariants as part
use Rattle.stream_messages.specs.declared.parts.CompactPart.TheVariants as compact
use Rattle.stream_messages.specs.declared.parts.CompactSized.TheVariants as sizes
use Rattle.stream_messages.specs.declared.parts.CompactPassed.TheVariants as whose
use Rattle.stream_messages.specs.Levels.{opens, nests}
use Rattle.stream_messages.specs.Compact as of
use Rattle.stream_messages.specs.Feeding.{Ran, goes, short, wrong, behind, led, run}
use Rattle.stream_messages.proofs.Seen.{seen, seen_head, body_open}
use Rattle.stream_messages.proofs.Runs.{any_law, ran_any}
use Rattle.stream_messages.proofs.BinaryHead.{later}
use Rattle.stream_messages.proofs.Varints.{passed_value, value_run, passed_sequence, sequence_run, number_law, number_run, begun_at, from_size, from_id}

once : (n : ℕ) → 0 + 1 * n ≡ n
once n = omega arith

-- a size and a string by the varint in front
abbrev pub size_scan : ℕ → Result (ℕ × ℕ) VarFault → Scan ℕ
size_scan long r = varint_of long r >>= λ n. if nat_lt n.0 2147483648 then Ok n else fault 0 reasons.BadSize

abbrev pub string_scan : List ℕ → Result (ℕ × ℕ) VarFault → Scan (List ℕ)
string_scan bytes r =
    size_scan (length bytes) r >>= λ size.
    if nat_lt (length bytes) (size.1 + size.0) then fault (length bytes) reasons.Truncated
    else Ok (take size.0 (drop size.1 bytes), size.1 + size.0)

-- the kind and the number of elements, behind the first byte
abbrev pub elements_scan : Kind → Scan ℕ → Scan (Kind × ℕ)
elements_scan kind s = shifted 1 s >>= λ size. Ok ((kind, size.0), size.1)

abbrev pub set_scan : Scan (Kind × ℕ) → Scan Item
set_scan s = s >>= λ x. Ok (set_begin x.0.0 x.0.1, x.1)

abbrev pub list_scan : Scan (Kind × ℕ) → Scan Item
list_scan s = s >>= λ x. Ok (list_begin x.0.0 x.0.1, x.1)

module _ (wire : Wire) (slot : Slot) (up : List Slot) where
  abbrev pub first_value : Kind → List ℕ → Ran
  first_value kind [] = short
  first_value kind (b ∷ more) = led (of.value_of kind b (slot ∷ up)).0 (of.value_of kind b (slot ∷ up)).1 (run wire more)

  abbrev pub led_to : List ℕ → Next × List Slot → Ran
  led_to more x = led x.0 x.1 (run wire more)

  one_there : (b : ℕ) (more : List ℕ) → nat_lt (length (b ∷ more)) 1 ≡ false
  one_there b more = grind (arith, nat_tests)

  wide_law : (k b : ℕ) (more : List ℕ) (item : Item) → after item (slot ∷ up) ≡ spent (slot ∷ up)
      → seen (slot ∷ up) (cond (nat_lt (length (b ∷ more)) (suc (suc k))) (fault (length (b ∷ more)) reasons.Truncated) (Ok (item, suc (suc k)))) ≡ behind (run wire more (part.Any (suc k)) (spent (slot ∷ up)))
  wide_law k b more item e = by_test (nat_lt (length more) (suc k)) refl ∙ ap behind (sym (any_law wire k more (spent (slot ∷ up))))
    where
      by_test : (t : Bool) → nat_lt (length more) (suc k) ≡ t
          → seen (slot ∷ up) (cond (nat_lt (length (b ∷ more)) (suc (suc k))) (fault (length (b ∷ more)) reasons.Truncated) (Ok (item, suc (suc k)))) ≡ behind (ran_any (suc k) more (spent (slot ∷ up)))
      by_test true t = let s : nat_lt (suc (length more)) (suc (suc k)) ≡ true = grind (arith, nat_tests) in rw (s, t) refl
      by_test false t =
          let s : nat_lt (suc (length more)) (suc (suc k)) ≡ false = grind (arith, nat_tests) in
          let n : suc k + 1 ≡ suc (suc k) = omega arith in
          rw (s, t, n) (ap (λ l. goes l (suc (suc k))) e)

  i8_law : (bytes : List ℕ) → seen (slot ∷ up) (i8_at bytes) ≡ first_value kinds.I8 bytes
  unfolding i8_at of.value_of
  i8_law [] = refl
  i8_law (b ∷ more) = rw (one_there b more) refl

  double_law : (bytes : List ℕ) → seen (slot ∷ up) (double_at bytes) ≡ first_value kinds.Double bytes
  unfolding double_at of.value_of
  double_law [] = refl
  double_law (b ∷ more) = wide_law 6 b more _ refl

  uuid_law : (bytes : List ℕ) → seen (slot ∷ up) (uuid_at bytes) ≡ first_value kinds.Uuid bytes
  unfolding uuid_at of.value_of
  uuid_law [] = refl
  uuid_law (b ∷ more) = wide_law 14 b more _ refl

  bool_law : (bytes : List ℕ) → seen (slot ∷ up) (bool_at bytes) ≡ first_value kinds.Bool bytes
  unfolding bool_at of.value_of
  bool_law [] = refl
  bool_law (b ∷ more) = rw (one_there b more) (by_tests (b == 1) (b == 2) (b == 0) (nat_lt 2 b) refl refl refl refl)
    where
      by_tests : (x y z w : Bool) → (b == 1) ≡ x → (b == 2) ≡ y → (b == 0) ≡ z → nat_lt 2 b ≡ w
          → seen (slot ∷ up) (cond x (Ok (bool_value true, 1)) (cond y (Ok (bool_value false, 1)) (cond z (Ok (bool_value false, 1)) (fault 0 reasons.BadBool))))
          ≡ led_to more (cond w (next.Bad, slot ∷ up) (of.wide 1 (slot ∷ up)))
      by_tests true y z true p q r s = absurd (grind (arith, nat_tests))
      by_tests true y z false p q r s = refl
      by_tests false true z true p q r s = absurd (grind (arith, nat_tests))
      by_tests false true z false p q r s = refl
      by_tests false false true true p q r s = absurd (grind (arith, nat_tests))
      by_tests false false true false p q r s = refl
      by_tests false false false true p q r s = refl
      by_tests false false false false p q r s = absurd (grind (arith, nat_tests))

  -- ---- numbers that aren't needed

  i16_law : (bytes : List ℕ) → seen (slot ∷ up) (i16_at bytes) ≡ first_value kinds.I16 bytes
  unfolding i16_at id_at varint16_at of.value_of of.step_of
  i16_law bytes = by_found (varint_at 5 16 bytes) ∙ sym (passed_value wire (slot ∷ up) 4 16 bytes) ∙ same bytes
    where
      by_found : (r : Result (ℕ × ℕ) VarFault) → seen (slot ∷ up) ((varint_of (length bytes) r >>= λ n. Ok (unfolded n.0, n.1)) >>= λ n. Ok (i16_value n.0, n.1)) ≡ value_run wire (slot ∷ up) r
      by_found (Ok x) = refl
      by_found (Err Short) = refl
      by_found (Err Bad) = refl

      same : (bytes : List ℕ) → run wire bytes (part.Compact (compact.Passed whose.Value 5 16)) (slot ∷ up) ≡ first_value kinds.I16 bytes
      same [] = refl
      same (b ∷ more) = refl

  i32_law : (bytes : List ℕ) → seen (slot ∷ up) (i32_at bytes) ≡ first_value kinds.I32 bytes
  unfolding i32_at varint32_at of.value_of of.step_of
  i32_law bytes = by_found (varint_at 5 32 bytes) ∙ sym (passed_value wire (slot ∷ up) 4 32 bytes) ∙ same bytes
    where
      by_found : (r : Result (ℕ × ℕ) VarFault) → seen (slot ∷ up) (varint_of (length bytes) r >>= λ n. Ok (i32_value (unfolded n.0), n.1)) ≡ value_run wire (slot ∷ up) r
      by_found (Ok x) = refl
      by_found (Err Short) = refl
      by_found (Err Bad) = refl

      same : (bytes : List ℕ) → run wire bytes (part.Compact (compact.Passed whose.Value 5 32)) (slot ∷ up) ≡ first_value kinds.I32 bytes
      same [] = refl
      same (b ∷ more) = refl

  i64_law : (bytes : List ℕ) → seen (slot ∷ up) (i64_at bytes) ≡ first_value kinds.I64 bytes
  unfolding i64_at varint64_at of.value_of of.step_of
  i64_law bytes = by_found (varint_at 10 64 bytes) ∙ sym (passed_value wire (slot ∷ up) 9 64 bytes) ∙ same bytes
    where
      by_found : (r : Result (ℕ × ℕ) VarFault) → seen (slot ∷ up) (varint_of (length bytes) r >>= λ n. Ok (i64_value (unfolded n.0), n.1)) ≡ value_run wire (slot ∷ up) r
      by_found (Ok x) = refl
      by_found (Err Short) = refl
      by_found (Err Bad) = refl

      same : (bytes : List ℕ) → run wire bytes (part.Compact (compact.Passed whose.Value 10 64)) (slot ∷ up) ≡ first_value kinds.I64 bytes
      same [] = refl
      same (b ∷ more) = refl

  -- ---- strings

  text_of : (bytes : List ℕ) (r : Result (ℕ × ℕ) VarFault) → Found 32 (length bytes) r
      → seen (slot ∷ up) (string_scan bytes r >>= λ x. Ok (text x.0, x.1)) ≡ number_run wire sizes.Text (slot ∷ up) 1 0 bytes r
  unfolding of.numbered of.size_read
  text_of bytes (Err Short) f = refl
  text_of bytes (Err Bad) f = refl
  text_of bytes (Ok (n, t)) f = rw (once n) (by_small (nat_lt n 2147483648) refl)
    where
      by_long : (k : ℕ) (y : Bool) → nat_lt (length bytes) (t + suc k) ≡ y
          → seen (slot ∷ up) (cond y (fault (length bytes) reasons.Truncated) (Ok (take (suc k) (drop t bytes), t + suc k)) >>= λ x. Ok (text x.0, x.1)) ≡ later t (ran_any (suc k) (drop t bytes) (spent (slot ∷ up)))
      by_long k true q = let s : nat_lt (length (drop t bytes)) (suc k) ≡ true = let l = length-drop t bytes in let m = f.1 in grind (arith, nat_tests) in rw s refl
      by_long k false q =
          let s : nat_lt (length (drop t bytes)) (suc k) ≡ false = let l = length-drop t bytes in let m = f.1 in grind (arith, nat_tests) in
          let e : t + suc k ≡ suc k + t = omega arith in
          rw s (ap (λ j. goes (spent (slot ∷ up)) j) e)

      by_count : (n : ℕ) → seen (slot ∷ up) (cond (nat_lt (length bytes) (t + n)) (fault (length bytes) reasons.Truncated) (Ok (take n (drop t bytes), t + n)) >>= λ x. Ok (text x.0, x.1))
          ≡ later t (begun_at wire sizes.Text (slot ∷ up) (of.size_read sizes.Text n (slot ∷ up)) (drop t bytes))
      by_count zero =
          let s : nat_lt (length bytes) (t + 0) ≡ false = let m = f.1 in grind (arith, nat_tests) in
          let e : t + 0 ≡ 0 + t = omega arith in
          rw s (ap (λ j. goes (spent (slot ∷ up)) j) e)
      by_count (suc k) =
          let some : (suc k == 0) ≡ false = grind (arith, nat_tests) in
          rw some (by_long k (nat_lt (length bytes) (t + suc k)) refl ∙ ap (λ r. later t r) (sym (any_law wire k (drop t bytes) (spent (slot ∷ up)))))

      by_small : (y : Bool) → nat_lt n 2147483648 ≡ y
          → seen (slot ∷ up) ((cond y (Ok (n, t)) (fault 0 reasons.BadSize) >>= λ size. if nat_lt (length bytes) (size.1 + size.0) then fault (length bytes) reasons.Truncated else Ok (take size.0 (drop size.1 bytes), size.1 + size.0)) >>= λ x. Ok (text x.0, x.1))
          ≡ later t (begun_at wire sizes.Text (slot ∷ up) (cond y (of.size_read sizes.Text n (slot ∷ up)) (next.Bad, slot ∷ up)) (drop t bytes))
      by_small true p = by_count n
      by_small false p = refl

  text_law : (bytes : List ℕ) → seen (slot ∷ up) (text_at bytes) ≡ first_value kinds.Str bytes
  unfolding text_at string_at size_at varint32_at of.value_of of.step_of
  text_law bytes = text_of bytes (varint_at 5 32 bytes) (varint_found 5 32 bytes) ∙ sym (number_law wire sizes.Text (slot ∷ up) 4 32 1 0 bytes from_size) ∙ same bytes
    where
      same : (bytes : List ℕ) → run wire bytes (part.Compact (compact.Number sizes.Text 32 1 0)) (slot ∷ up) ≡ first_value kinds.Str bytes
      same [] = refl
      same (b ∷ more) = refl

  -- ---- sets and lists

  set_of : nat_le 256 (length (slot ∷ up)) ≡ false → (kind : Kind) (more : List ℕ) (r : Result (ℕ × ℕ) VarFault)
      → seen (slot ∷ up) (set_scan (elements_scan kind (size_scan (length more) r))) ≡ behind (number_run wire (sizes.Set kind) (slot ∷ up) 1 0 more r)
  unfolding of.numbered of.size_read
  set_of shallow kind more (Err Short) = refl
  set_of shallow kind more (Err Bad) = refl
  set_of shallow kind more (Ok (n, t)) = rw (once n) (by_small (nat_lt n 2147483648))
    where
      by_small : (y : Bool) → seen (slot ∷ up) (set_scan (elements_scan kind (cond y (Ok (n, t)) (fault 0 reasons.BadSize))))
          ≡ behind (later t (begun_at wire (sizes.Set kind) (slot ∷ up) (cond y (opens (slots.Elements kind n) (slot ∷ up)) (next.Bad, slot ∷ up)) (drop t more)))
      by_small true = let e : 1 + t ≡ 0 + t + 1 = omega arith in rw shallow (ap (λ j. goes (slots.Elements kind n ∷ spent (slot ∷ up)) j) e)
      by_small false = refl

  list_of : nat_le 256 (length (slot ∷ up)) ≡ false → (kind : Kind) (more : List ℕ) (r : Result (ℕ × ℕ) VarFault)
      → seen (slot ∷ up) (list_scan (elements_scan kind (size_scan (length more) r))) ≡ behind (number_run wire (sizes.List kind) (slot ∷ up) 1 0 more r)
  unfolding of.numbered of.size_read
  list_of shallow kind more (Err Short) = refl
  list_of shallow kind more (Err Bad) = refl
  list_of shallow kind more (Ok (n, t)) = rw (once n) (by_small (nat_lt n 2147483648))
    where
      by_small : (y : Bool) → seen (slot ∷ up) (list_scan (elements_scan kind (cond y (Ok (n, t)) (fault 0 reasons.BadSize))))
          ≡ behind (later t (begun_at wire (sizes.List kind) (slot ∷ up) (cond y (opens (slots.Elements kind n) (slot ∷ up)) (next.Bad, slot ∷ up)) (drop t more)))
      by_small true = let e : 1 + t ≡ 0 + t + 1 = omega arith in rw shallow (ap (λ j. goes (slots.Elements kind n ∷ spent (slot ∷ up)) j) e)
      by_small false = refl

  short_size : (b : ℕ) → nat_lt (b / 16) 15 ≡ nat_lt b 240
  short_size b = by_test (nat_lt b 240) refl
    where
      by_test : (t : Bool) → nat_lt b 240 ≡ t → nat_lt (b / 16) 15 ≡ t
      by_test true e = grind (arith, nat_tests)
      by_test false e = grind (arith, nat_tests)

  set_law : nat_le 256 (length (slot ∷ up)) ≡ false → (bytes : List ℕ) → seen (slot ∷ up) (set_at bytes) ≡ first_value kinds.Set bytes
  unfolding set_at elements_at size_at varint32_at of.value_of of.set_of
  set_law shallow [] = refl
  set_law shallow (b ∷ more) = rw (one_there b more) (by_kind (kind_of (b % 16)))
    where
      by_size : (kind : Kind) (y : Bool) → nat_lt b 240 ≡ y
          → seen (slot ∷ up) (set_scan (cond y (Ok ((kind, b / 16), 1)) (elements_scan kind (size_scan (length more) (varint_at 5 32 more)))))
          ≡ led_to more (cond y (opens (slots.Elements kind (b / 16)) (slot ∷ up)) (of.goes_on (compact.Number (sizes.Set kind) 32 1 0), slot ∷ up))
      by_size kind true p = rw shallow refl
      by_size kind false p = set_of shallow kind more (varint_at 5 32 more) ∙ ap behind (sym (number_law wire (sizes.Set kind) (slot ∷ up) 4 32 1 0 more from_size))

      by_kind : (k : Option Kind) → seen (slot ∷ up) (set_scan (elements_of (b ∷ more) k)) ≡ led_to more (of.elements_read (λ kind. sizes.Set kind) k b (slot ∷ up))
      by_kind None = refl
      by_kind (Some kind) = rw (short_size b) (by_size kind (nat_lt b 240) refl)

  list_law : nat_le 256 (length (slot ∷ up)) ≡ false → (bytes : List ℕ) → seen (slot ∷ up) (list_at bytes) ≡ first_value kinds.List bytes
  unfolding list_at elements_at size_at varint32_at of.value_of of.list_of
  list_law shallow [] = refl
  list_law shallow (b ∷ more) = rw (one_there b more) (by_kind (kind_of (b % 16)))
    where
      by_size : (kind : Kind) (y : Bool) → nat_lt b 240 ≡ y
          → seen (slot ∷ up) (list_scan (cond y (Ok ((kind, b / 16), 1)) (elements_scan kind (size_scan (length more) (varint_at 5 32 more)))))
          ≡ led_to more (cond y (opens (slots.Elements kind (b / 16)) (slot ∷ up)) (of.goes_on (compact.Number (sizes.List kind) 32 1 0), slot ∷ up))
      by_size kind true p = rw shallow refl
      by_size kind false p = list_of shallow kind more (varint_at 5 32 more) ∙ ap behind (sym (number_law wire (sizes.List kind) (slot ∷ up) 4 32 1 0 more from_size))

      by_kind : (k : Option Kind) → seen (slot ∷ up) (list_scan (elements_of (b ∷ more) k)) ≡ led_to more (of.elements_read (λ kind. sizes.List kind) k b (slot ∷ up))
      by_kind None = refl
      by_kind (Some kind) = rw (short_size b) (by_size kind (nat_lt b 240) refl)

  -- ---- maps

  -- the kinds of so many pairs behind their number
  kinds_run : nat_le 256 (length (slot ∷ up)) ≡ false → (n t : ℕ) (rest : List ℕ)
      → seen (slot ∷ up) (shifted t (kinds_at rest) >>= λ x. Ok (map_begin x.0.0 x.0.1 n, x.1)) ≡ later t (run wire rest (part.Compact (compact.Kinds n)) (slot ∷ up))
  unfolding kinds_at of.step_of of.kinds_of
  kinds_run shallow n t [] = refl
  kinds_run shallow n t (c ∷ rest) = rw (one_there c rest) (by_kinds (kind_of (c / 16)) (kind_of (c % 16)))
    where
      by_kinds : (k l : Option Kind) → seen (slot ∷ up) (shifted t (both_kinds k l) >>= λ x. Ok (map_begin x.0.0 x.0.1 n, x.1)) ≡ later t (led_to rest (of.kinds_read n k l (slot ∷ up)))
      by_kinds None l = refl
      by_kinds (Some key) None = refl
      by_kinds (Some key) (Some value) = let e : t + 1 ≡ 1 + t = omega arith in rw shallow (ap (λ j. goes (slots.Keys key value n ∷ spent (slot ∷ up)) j) e)

  map_of : nat_le 256 (length (slot ∷ up)) ≡ false → (bytes : List ℕ) (r : Result (ℕ × ℕ) VarFault)
      → seen (slot ∷ up) (size_scan (length bytes) r >>= λ size. if size.0 == 0 then Ok (empty_map, size.1) else shifted size.1 (kinds_at (drop size.1 bytes)) >>= λ x. Ok (map_begin x.0.0 x.0.1 size.0, x.1))
      ≡ number_run wire sizes.Map (slot ∷ up) 1 0 bytes r
  unfolding of.numbered of.size_read
  map_of shallow bytes (Err Short) = refl
  map_of shallow bytes (Err Bad) = refl
  map_of shallow bytes (Ok (n, t)) = rw (once n) (by_small (nat_lt n 2147483648))
    where
      by_none : (z : Bool) → seen (slot ∷ up) (cond z (Ok (empty_map, t)) (shifted t (kinds_at (drop t bytes)) >>= λ x. Ok (map_begin x.0.0 x.0.1 n, x.1)))
          ≡ later t (begun_at wire sizes.Map (slot ∷ up) (cond z (next.Ended, spent (slot ∷ up)) (of.goes_on (compact.Kinds n), slot ∷ up)) (drop t bytes))
      by_none true = let e : t ≡ 0 + t = omega arith in ap (λ j. goes (spent (slot ∷ up)) j) e
      by_none false = kinds_run shallow n t (drop t bytes)

      by_small : (y : Bool)
          → seen (slot ∷ up) (cond y (Ok (n, t)) (fault 0 reasons.BadSize) >>= λ size. if size.0 == 0 then Ok (empty_map, size.1) else shifted size.1 (kinds_at (drop size.1 bytes)) >>= λ x. Ok (map_begin x.0.0 x.0.1 size.0, x.1))
          ≡ later t (begun_at wire sizes.Map (slot ∷ up) (cond y (of.map_read n (slot ∷ up)) (next.Bad, slot ∷ up)) (drop t bytes))
      by_small true = by_none (n == 0)
      by_small false = refl

  map_law : nat_le 256 (length (slot ∷ up)) ≡ false → (bytes : List ℕ) → seen (slot ∷ up) (map_at bytes) ≡ first_value kinds.Map bytes
  unfolding map_at size_at varint32_at of.value_of of.step_of
  map_law shallow bytes = map_of shallow bytes (varint_at 5 32 bytes) ∙ sym (number_law wire sizes.Map (slot ∷ up) 4 32 1 0 bytes from_size) ∙ same bytes
    where
      same : (bytes : List ℕ) → run wire bytes (part.Compact (compact.Number sizes.Map 32 1 0)) (slot ∷ up) ≡ first_value kinds.Map bytes
      same [] = refl
      same (b ∷ more) = refl

  pub value_law : (kind : Kind) → (kind ≡ kinds.Struct → ⊥) → (nests kind && nat_le 256 (length (slot ∷ up))) ≡ false → (bytes : List ℕ) → seen (slot ∷ up) (value_at kind bytes) ≡ first_value kind bytes
  unfolding value_at
  value_law kinds.Bool s t bytes = bool_law bytes
  value_law kinds.I8 s t bytes = i8_law bytes
  value_law kinds.I16 s t bytes = i16_law bytes
  value_law kinds.I32 s t bytes = i32_law bytes
  value_law kinds.I64 s t bytes = i64_law bytes
  value_law kinds.Double s t bytes = double_law bytes
  value_law kinds.Str s t bytes = text_law bytes
  value_law kinds.Uuid s t bytes = uuid_law bytes
  value_law kinds.Struct s t bytes = absurd (s refl)
  value_law kinds.Map s t bytes = map_law t bytes
  value_law kinds.Set s t bytes = set_law t bytes
  value_law kinds.List s t bytes = list_law t bytes

  -- ---- fields

  abbrev pub first_field : ℤ → List ℕ → Ran
  first_field last [] = short
  first_field last (b ∷ more) = led (of.field_of last b (slot ∷ up)).0 (of.field_of last b (slot ∷ up)).1 (run wire more)

  id_run : (kind : Kind) (more : List ℕ) (r : Result (ℕ × ℕ) VarFault) → Found 16 (length more) r
      → seen (slot ∷ up) (shifted 1 (varint_of (length more) r >>= λ n. Ok (unfolded n.0, n.1)) >>= λ id. Ok (field id.0 kind, id.1)) ≡ behind (number_run wire (sizes.Id kind) (slot ∷ up) 1 0 more r)
  unfolding of.numbered of.id_read
  id_run kind more (Err Short) f = refl
  id_run kind more (Err Bad) f = refl
  id_run kind more (Ok (n, t)) f =
      let s : nat_lt n 65536 ≡ true = let m = f.2 in grind (arith, nat_tests) in
      let e : 1 + t ≡ 0 + t + 1 = omega arith in
      rw (once n, s) (ap (λ j. goes (slots.Value kind (unfolded n) ∷ up) j) e)

  pub field_law : (last : ℤ) (bytes : List ℕ) → seen (slot ∷ up) (field_at last bytes) ≡ first_field last bytes
  unfolding field_at long_field id_at varint16_at of.field_of of.field_behind
  field_law last [] = refl
  field_law last (b ∷ more) = rw (one_there b more) (by_zero (b == 0))
    where
      by_next : (kind : Kind) (k : Option ℤ) → seen (slot ∷ up) (short_field kind k) ≡ led_to more (of.id_behind kind k (slot ∷ up))
      by_next kind None = refl
      by_next kind (Some id) = refl

      by_form : (kind : Kind) (z : Bool)
          → seen (slot ∷ up) (cond z (long_field kind (b ∷ more)) (short_field kind (next_id last (b / 16))))
          ≡ led_to more (cond z (of.goes_on (compact.Number (sizes.Id kind) 16 1 0), slot ∷ up) (of.id_behind kind (next_id last (b / 16)) (slot ∷ up)))
      by_form kind true = id_run kind more (varint_at 5 16 more) (varint_found 5 16 more) ∙ ap behind (sym (number_law wire (sizes.Id kind) (slot ∷ up) 4 16 1 0 more from_id))
      by_form kind false = by_next kind (next_id last (b / 16))

      by_kind : (k : Option Kind) → seen (slot ∷ up) (field_of last (b ∷ more) k) ≡ led_to more (of.field_kind last b k (slot ∷ up))
      by_kind None = refl
      by_kind (Some kind) = by_form kind (b / 16 == 0)

      by_zero : (z : Bool) → seen (slot ∷ up) (cond z (Ok (stop, 1)) (field_of last (b ∷ more) (kind_of (b % 16))))
          ≡ led_to more (cond z (next.Ended, rest_of (slot ∷ up)) (of.field_kind last b (kind_of (b % 16)) (slot ∷ up)))
      by_zero true = refl
      by_zero false = by_kind (kind_of (b % 16))

-- ---- the header

-- a header whose name stands behind so many bytes
abbrev pub headed : ℕ → MessageType → ℤ → Scan (List ℕ) → Scan Header
headed at mtype seq s = shifted at s >>= λ name. Ok (record { name = name.0; mtype = mtype; seq = seq }, name.1)

module _ (wire : Wire) where
  name_of : (at : ℕ) (bytes : List ℕ) (mtype : MessageType) (seq : ℤ) (r : Result (ℕ × ℕ) VarFault) → Found 32 (length bytes) r
      → seen_head (headed at mtype seq (string_scan bytes r)) ≡ later at (number_run wire sizes.Name body_open 1 0 bytes r)
  unfolding of.numbered of.size_read
  name_of at bytes mtype seq (Err Short) f = refl
  name_of at bytes mtype seq (Err Bad) f = refl
  name_of at bytes mtype seq (Ok (n, t)) f = rw (once n) (by_small (nat_lt n 2147483648))
    where
      by_long : (k : ℕ) (y : Bool) → nat_lt (length bytes) (t + suc k) ≡ y
          → seen_head (headed at mtype seq (cond y (fault (length bytes) reasons.Truncated) (Ok (take (suc k) (drop t bytes), t + suc k)))) ≡ later at (later t (ran_any (suc k) (drop t bytes) body_open))
      by_long k true q = let s : nat_lt (length (drop t bytes)) (suc k) ≡ true = let l = length-drop t bytes in let m = f.1 in grind (arith, nat_tests) in rw s refl
      by_long k false q =
          let s : nat_lt (length (drop t bytes)) (suc k) ≡ false = let l = length-drop t bytes in let m = f.1 in grind (arith, nat_tests) in
          let e : at + (t + suc k) ≡ suc k + t + at = omega arith in
          rw s (ap (λ j. goes body_open j) e)

      by_count : (n : ℕ) → seen_head (headed at mtype seq (cond (nat_lt (length bytes) (t + n)) (fault (length bytes) reasons.Truncated) (Ok (take n (drop t bytes), t + n))))
          ≡ later at (later t (begun_at wire sizes.Name body_open (of.size_read sizes.Name n body_open) (drop t bytes)))
      by_count zero =
          let s : nat_lt (length bytes) (t + 0) ≡ false = let m = f.1 in grind (arith, nat_tests) in
          let e : at + (t + 0) ≡ 0 + t + at = omega arith in
          rw s (ap (λ j. goes body_open j) e)
      by_count (suc k) =
          let some : (suc k == 0) ≡ false = grind (arith, nat_tests) in
          rw some (by_long k (nat_lt (length bytes) (t + suc k)) refl ∙ ap (λ r. later at (later t r)) (sym (any_law wire k (drop t bytes) body_open)))

      by_small : (y : Bool)
          → seen_head (headed at mtype seq (cond y (Ok (n, t)) (fault 0 reasons.BadSize) >>= λ size. if nat_lt (length bytes) (size.1 + size.0) then fault (length bytes) reasons.Truncated else Ok (take size.0 (drop size.1 bytes), size.1 + size.0)))
          ≡ later at (later t (begun_at wire sizes.Name body_open (cond y (of.size_read sizes.Name n body_open) (next.Bad, body_open)) (drop t bytes)))
      by_small true = by_count n
      by_small false = refl

  -- the name behind the sequence number
  name_law : (at : ℕ) (bytes : List ℕ) (mtype : MessageType) (seq : ℤ) → seen_head (headed at mtype seq (string_at bytes)) ≡ later at (run wire bytes (part.Compact (compact.Number sizes.Name 32 1 0)) body_open)
  unfolding string_at size_at varint32_at
  name_law at bytes mtype seq = name_of at bytes mtype seq (varint_at 5 32 bytes) (varint_found 5 32 bytes) ∙ ap (λ r. later at r) (sym (number_law wire sizes.Name body_open 4 32 1 0 bytes from_size))

  -- what stands behind the type
  abbrev pub numbered_front : MessageType → Scan ℕ → Scan (MessageType × ℤ)
  numbered_front mtype s = s >>= λ n. Ok ((mtype, cast_signed w32 n.0), n.1)

  abbrev pub front_behind : List ℕ → Scan MessageType → Scan (MessageType × ℤ)
  front_behind bytes s = s >>= λ t. numbered_front t.0 (shifted t.1 (varint32_at (drop t.1 bytes)))

  abbrev pub name_behind : List ℕ → Scan (MessageType × ℤ) → Scan Header
  name_behind bytes s = s >>= λ front. headed front.1 front.0.0 front.0.1 (string_at (drop front.1 bytes))

  abbrev pub behind_type : List ℕ → Scan MessageType → Scan Header
  behind_type bytes s = name_behind bytes (front_behind bytes s)

  sequence_of : (b c : ℕ) (rest : List ℕ) (mtype : MessageType) (r : Result (ℕ × ℕ) VarFault)
      → seen_head (name_behind (b ∷ c ∷ rest) (numbered_front mtype (shifted 2 (varint_of (length rest) r)))) ≡ later 2 (sequence_run wire body_open rest r)
  sequence_of b c rest mtype (Err Short) = refl
  sequence_of b c rest mtype (Err Bad) = refl
  sequence_of b c rest mtype (Ok (n, t)) =
      let e : 2 + t ≡ suc (suc t) = omega arith in
      name_law (2 + t) (drop (2 + t) (b ∷ c ∷ rest)) mtype (cast_signed w32 n)
      ∙ ap (λ j. later (2 + t) (run wire (drop j (b ∷ c ∷ rest)) (part.Compact (compact.Number sizes.Name 32 1 0)) body_open)) e
      ∙ two (run wire (drop t rest) (part.Compact (compact.Number sizes.Name 32 1 0)) body_open)
    where
      two : (r : Ran) → later (2 + t) r ≡ later 2 (later t r)
      two (goes l m) = let e : m + (2 + t) ≡ m + t + 2 = omega arith in ap (λ j. goes l j) e
      two short = refl
      two wrong = refl

  pub head_compact : (bytes : List ℕ) → seen_head (behind_type bytes (type_at bytes)) ≡ run wire bytes (part.Compact compact.Start) body_open
  unfolding type_at varint32_at of.step_of
  head_compact [] = refl
  head_compact (b ∷ []) = by_byte (b == 130)
    where
      by_byte : (y : Bool) → seen_head (behind_type (b ∷ []) (cond y (fault 1 reasons.Truncated) (fault 0 reasons.BadVersion))) ≡ led (cond y (of.goes_on compact.Version) next.Bad) body_open (run wire [])
      by_byte true = refl
      by_byte false = refl
  head_compact (b ∷ c ∷ rest) =
      let one : nat_lt (suc (suc (length rest))) 1 ≡ false = grind (arith, nat_tests) in
      let two : nat_lt (suc (suc (length rest))) 2 ≡ false = grind (arith, nat_tests) in
      rw (one, two) (by_byte (b == 130))
    where
      by_type : (k : Option MessageType) → seen_head (behind_type (b ∷ c ∷ rest) (type_or_fault k)) ≡ behind (led (of.sequence_behind k) body_open (run wire rest))
      by_type None = refl
      by_type (Some mtype) = sequence_of b c rest mtype (varint_at 5 32 rest) ∙ two_behind (sequence_run wire body_open rest (varint_at 5 32 rest)) ∙ ap (λ r. behind (behind r)) (sym (passed_sequence wire body_open 4 32 rest))
        where
          two_behind : (r : Ran) → later 2 r ≡ behind (behind r)
          two_behind (goes l m) = let e : m + 2 ≡ m + 1 + 1 = omega arith in ap (λ j. goes l j) e
          two_behind short = refl
          two_behind wrong = refl

      by_version : (y : Bool) → seen_head (behind_type (b ∷ c ∷ rest) (cond y (type_or_fault (type_of (c / 32))) (fault 1 reasons.BadVersion)))
          ≡ behind (led (cond y (of.sequence_behind (type_of (c / 32))) next.Bad) body_open (run wire rest))
      by_version true = by_type (type_of (c / 32))
      by_version false = refl

      by_byte : (y : Bool)
          → seen_head (behind_type (b ∷ c ∷ rest) (cond y (cond (c % 32 == 1) (type_or_fault (type_of (c / 32))) (fault 1 reasons.BadVersion)) (fault 0 reasons.BadVersion)))
          ≡ led (cond y (of.goes_on compact.Version) next.Bad) body_open (run wire (c ∷ rest))
      by_byte true = by_version (c % 32 == 1)
      by_byte false = refl

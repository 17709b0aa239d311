-- Words found at a place of a frame: integers and kind names.
use Rattle.std.proofs.Common.{◌≡◌, ℕ, ℤ, pos, negsuc, Option, Some, None, zero, suc, ◌+◌, ◌-◌, ◌<◌, ◌≤◌, ◌≤ℤ◌, true, false, List, [], ◌∷◌, ◌++◌, length, drop, get_or, Ok, refl, sym, ap, ◌∙◌, arith, length-drop, length-append}
use lib.IntN.{nat_abs}
use Rattle.std.specs.Prelude.{IfSome, nat_lt, nat_le, ◌==◌, slice_index}
use Rattle.std.specs.Int.{w32, from_le_bytes}
use Rattle.std.proofs.lemmas.Bool.Decides.{nat_tests}
use Rattle.std.proofs.lemmas.List.{drop-drop, get_or-drop}
use Rattle.std.proofs.lemmas.Nat.{le_bytes_4}
use Rattle.thrift_value.specs.declared.kind.Kind.{Kind}
use Rattle.thrift_value.specs.declared.kind.Kind.TheVariants as kinds
use Rattle.protocol_traits.specs.declared.fault.Reason.{Reason}
use Rattle.protocol_traits.specs.declared.fault.Reason.TheVariants as reasons
use Rattle.json_text.specs.declared.scanned.Scan.TheVariants.{Whole}
use Rattle.json_text.specs.Int.{is_int_byte, int_at}
use Rattle.json_text.specs.Places.{IsInside}
use Rattle.json_text.specs.Scan.{is_white}
use Rattle.json_text.specs.Scan as words
use Rattle.json_protocol.specs.Scan.{item}
use Rattle.json_protocol.specs.Words.{large_kind_at, wide_kind_at, kind_at, int_in, quoted_int_in}
use Rattle.json_protocol.specs.Values.{size_of}
use Rattle.json_protocol.specs.Writing.{kind_name}
use Rattle.json_protocol.specs.ReadForms.{Finds, IsMark, SizeFound}

-- ---- integers

-- an integer of a range, wherever the range is asked for
abbrev pub IsInt : List ℕ → ℕ → ℤ → ℕ → Type 0
IsInt frame at value behind = (low high : ℤ) → low ≤ℤ value → value ≤ℤ high → int_at low high (drop at frame) ≡ Whole value (behind - at)

int_clear : (x : ℕ) → is_int_byte x ≡ true → is_white x ≡ false
int_clear x e = grind (arith, nat_tests)

pub int_solid : (frame : List ℕ) (at : ℕ) → is_int_byte (slice_index frame at) ≡ true → is_white (slice_index frame at) ≡ false
int_solid frame at e = int_clear (slice_index frame at) e

pub int_found : (frame : List ℕ) (at behind : ℕ) (value low high : ℤ) (reason : Reason) → IsInside frame at behind → IsInt frame at value behind → low ≤ℤ value → value ≤ℤ high → Finds frame at (int_in reason low high) value behind
unfolding int_in
int_found frame at behind value low high reason inside found a b =
    (ap (λ s. item reason (drop at frame) (words.moved 0 s)) (found low high a b) ∙ ap (λ n. Ok (value, n)) (omega arith), inside)

pub plain_found : (frame : List ℕ) (at : ℕ) (found : Option (ℤ × ℕ)) → IfSome found (λ x. IsInside frame at x.1) → IfSome found (λ x. IsInt frame at x.0 x.1)
    → IfSome found (λ x. (reason : Reason) (low high : ℤ) → low ≤ℤ x.0 → x.0 ≤ℤ high → Finds frame at (int_in reason low high) x.0 x.1)
plain_found frame at (Some x) inside found = λ reason low high a b. int_found frame at x.1 x.0 low high reason inside found a b
plain_found frame at None inside found = tt

pub size_abs : (z : ℤ) → pos 0 ≤ℤ z → size_of z ≡ nat_abs z
size_abs (pos n) low = refl
size_abs (negsuc n) low = absurd (grind arith)

pub quoted_found : (frame : List ℕ) (at begin stop behind : ℕ) (value low high : ℤ) (reason : Reason) → IsMark frame at 34 begin → IsInside frame begin stop → IsInt frame begin value stop → IsMark frame stop 34 behind → low ≤ℤ value → value ≤ℤ high
    → Finds frame at (quoted_int_in reason low high) value behind
unfolding quoted_int_in
quoted_found frame at begin stop behind value low high reason quote inside found last a b =
    let long : length (drop at frame) ≡ length frame - at = length-drop at frame in
    let some : nat_lt (length (drop at frame)) 1 ≡ false = grind (arith, nat_tests, long, quote.1, quote.2) in
    let first : (slice_index (drop at frame) 0 == 34) ≡ true = grind (arith, nat_tests, get_or-drop at frame 0 0, quote.0) in
    let next : drop 1 (drop at frame) ≡ drop begin frame = drop-drop 1 at frame ∙ ap (λ n. drop n frame) (omega (arith, quote.1)) in
    let number : int_at low high (drop 1 (drop at frame)) ≡ Whole value (stop - begin) = ap (int_at low high) next ∙ found low high a b in
    let there : at + (1 + (stop - begin)) ≡ stop = omega (arith, quote.1, inside.0) in
    let left : nat_le (length (drop at frame)) (1 + (stop - begin)) ≡ false = grind (arith, nat_tests, long, there, last.1, last.2, inside.0) in
    let end : (slice_index (drop at frame) (1 + (stop - begin)) == 34) ≡ true = grind (arith, nat_tests, get_or-drop at frame (1 + (stop - begin)) 0, ap (slice_index frame) there, last.0) in
    let all : 1 + (stop - begin) + 1 ≡ behind - at = omega (arith, quote.1, inside.0, last.1) in
    (rw (some, first, number, left, end) (ap (λ n. Ok (value, n)) all), (omega (arith, quote.1, inside.0, last.1), last.2))

pub size_found : (frame : List ℕ) (at begin behind : ℕ) (value : ℤ) (size : ℕ) → IsMark frame at 44 begin → is_int_byte (slice_index frame begin) ≡ true → IsInside frame begin behind → IsInt frame begin value behind
    → pos 0 ≤ℤ value → value ≤ℤ pos 2147483647 → size_of value ≡ size → SizeFound frame at size behind
size_found frame at begin behind value size comma clear inside found low high is = record {
  place = begin;
  comma = comma;
  solid = int_solid frame begin clear;
  found = let number = int_found frame begin behind value (pos 0) (pos 2147483647) reasons.BadSize inside found low high in (rw (number.0) (ap (λ n. Ok (n, behind - begin)) is), inside);
}

-- ---- kind names

module _ (bytes : List ℕ) (quote : slice_index bytes 0 ≡ 34) (long : 5 ≤ length bytes) where
  there : (i : ℕ) → i < 5 → nat_le (length bytes) i ≡ false
  there i few = grind (arith, nat_tests)

  five : nat_lt (length bytes) 5 ≡ false
  five = grind (arith, nat_tests)

  four : nat_lt (length bytes) 4 ≡ false
  four = grind (arith, nat_tests)

  -- a name of three letters
  pub named : (kind : Kind) → length (kind_name kind) ≡ 3 → slice_index bytes 1 ∷ slice_index bytes 2 ∷ slice_index bytes 3 ∷ slice_index bytes 4 ∷ [] ≡ kind_name kind ++ 34 ∷ [] → kind_at bytes ≡ Ok (kind, 5)
  unfolding kind_at wide_kind_at large_kind_at
  named kind three is = each kind three (ap (λ l. get_or l 0 0) is) (ap (λ l. get_or l 1 0) is) (ap (λ l. get_or l 2 0) is) (ap (λ l. get_or l 3 0) is)
    where
      letter : Kind → ℕ → ℕ
      letter kind i = get_or (kind_name kind ++ 34 ∷ []) i 0

      each : (kind : Kind) → length (kind_name kind) ≡ 3 → slice_index bytes 1 ≡ letter kind 0 → slice_index bytes 2 ≡ letter kind 1 → slice_index bytes 3 ≡ letter kind 2 → slice_index bytes 4 ≡ letter kind 3 → kind_at bytes ≡ Ok (kind, 5)
      each kinds.Bool few a b c d = absurd (omega (arith, few))
      each kinds.I8 few a b c d = absurd (omega (arith, few))
      each kinds.I16 letters a b c d = rw (there 0 (omega arith), there 1 (omega arith), there 2 (omega arith), there 3 (omega arith), there 4 (omega arith), quote, a, b, c, d, five) refl
      each kinds.I32 letters a b c d = rw (there 0 (omega arith), there 1 (omega arith), there 2 (omega arith), there 3 (omega arith), there 4 (omega arith), quote, a, b, c, d, five) refl
      each kinds.I64 letters a b c d = rw (there 0 (omega arith), there 1 (omega arith), there 2 (omega arith), there 3 (omega arith), there 4 (omega arith), quote, a, b, c, d, five) refl
      each kinds.Double letters a b c d = rw (there 0 (omega arith), there 1 (omega arith), there 2 (omega arith), there 3 (omega arith), there 4 (omega arith), quote, a, b, c, d, five) refl
      each kinds.Str letters a b c d = rw (there 0 (omega arith), there 1 (omega arith), there 2 (omega arith), there 3 (omega arith), there 4 (omega arith), quote, a, b, c, d, five) refl
      each kinds.Struct letters a b c d = rw (there 0 (omega arith), there 1 (omega arith), there 2 (omega arith), there 3 (omega arith), there 4 (omega arith), quote, a, b, c, d, five) refl
      each kinds.Map letters a b c d = rw (there 0 (omega arith), there 1 (omega arith), there 2 (omega arith), there 3 (omega arith), there 4 (omega arith), quote, a, b, c, d, five) refl
      each kinds.Set letters a b c d = rw (there 0 (omega arith), there 1 (omega arith), there 2 (omega arith), there 3 (omega arith), there 4 (omega arith), quote, a, b, c, d, five) refl
      each kinds.List letters a b c d = rw (there 0 (omega arith), there 1 (omega arith), there 2 (omega arith), there 3 (omega arith), there 4 (omega arith), quote, a, b, c, d, five) refl
      each kinds.Uuid few a b c d = absurd (omega (arith, few))

  -- names of two letters
  pub bool_named : slice_index bytes 1 ≡ 116 → slice_index bytes 2 ≡ 102 → slice_index bytes 3 ≡ 34 → kind_at bytes ≡ Ok (kinds.Bool, 4)
  unfolding kind_at
  bool_named a b c = rw (there 0 (omega arith), there 1 (omega arith), there 2 (omega arith), there 3 (omega arith), quote, a, b, c, four) refl

  pub i8_named : slice_index bytes 1 ≡ 105 → slice_index bytes 2 ≡ 56 → slice_index bytes 3 ≡ 34 → kind_at bytes ≡ Ok (kinds.I8, 4)
  unfolding kind_at
  i8_named a b c = rw (there 0 (omega arith), there 1 (omega arith), there 2 (omega arith), there 3 (omega arith), quote, a, b, c, four) refl

-- four bytes that make the number of a name are the name
spelled_word : (name : List ℕ) (b c d e word : ℕ) → b < 256 → c < 256 → d < 256 → e < 256 → word ≡ from_le_bytes w32 (b ∷ c ∷ d ∷ e ∷ []) → length name ≡ 4 → ((i : ℕ) → get_or name i 0 < 256) → word ≡ from_le_bytes w32 name
    → b ∷ c ∷ d ∷ e ∷ [] ≡ name
spelled_word name b c d e word hb hc hd he is long small same = sym (le_bytes_4 (b ∷ c ∷ d ∷ e ∷ []) word refl below is) ∙ le_bytes_4 name word long small same
  where
    below : (i : ℕ) → get_or (b ∷ c ∷ d ∷ e ∷ []) i 0 < 256
    below zero = hb
    below (suc zero) = hc
    below (suc (suc zero)) = hd
    below (suc (suc (suc zero))) = he
    below (suc (suc (suc (suc i)))) = omega arith

three : (a b c : ℕ) → a < 256 → b < 256 → c < 256 → (i : ℕ) → get_or (a ∷ b ∷ c ∷ 34 ∷ []) i 0 < 256
three a b c ha hb hc zero = ha
three a b c ha hb hc (suc zero) = hb
three a b c ha hb hc (suc (suc zero)) = hc
three a b c ha hb hc (suc (suc (suc zero))) = omega arith
three a b c ha hb hc (suc (suc (suc (suc i)))) = omega arith

two : (a b : ℕ) → a < 256 → b < 256 → (i : ℕ) → get_or (a ∷ b ∷ 34 ∷ []) i 0 < 256
two a b ha hb zero = ha
two a b ha hb (suc zero) = hb
two a b ha hb (suc (suc zero)) = omega arith
two a b ha hb (suc (suc (suc i))) = omega arith

small_name : (kind : Kind) (i : ℕ) → get_or (kind_name kind ++ 34 ∷ []) i 0 < 256
small_name kinds.Bool i = two 116 102 (omega arith) (omega arith) i
small_name kinds.I8 i = two 105 56 (omega arith) (omega arith) i
small_name kinds.I16 i = three 105 49 54 (omega arith) (omega arith) (omega arith) i
small_name kinds.I32 i = three 105 51 50 (omega arith) (omega arith) (omega arith) i
small_name kinds.I64 i = three 105 54 52 (omega arith) (omega arith) (omega arith) i
small_name kinds.Double i = three 100 98 108 (omega arith) (omega arith) (omega arith) i
small_name kinds.Str i = three 115 116 114 (omega arith) (omega arith) (omega arith) i
small_name kinds.Struct i = three 114 101 99 (omega arith) (omega arith) (omega arith) i
small_name kinds.Map i = three 109 97 112 (omega arith) (omega arith) (omega arith) i
small_name kinds.Set i = three 115 101 116 (omega arith) (omega arith) (omega arith) i
small_name kinds.List i = three 108 115 116 (omega arith) (omega arith) (omega arith) i
small_name kinds.Uuid i = two 105 56 (omega arith) (omega arith) i

module _ (frame : List ℕ) (at : ℕ) (long : at + 5 < length frame) (quote : slice_index frame at ≡ 34) where
  byte_there : (i : ℕ) → slice_index (drop at frame) i ≡ slice_index frame (at + i)
  byte_there i = get_or-drop at frame i 0

  first_quote : slice_index (drop at frame) 0 ≡ 34
  first_quote = byte_there 0 ∙ ap (slice_index frame) (omega arith) ∙ quote

  five_there : 5 ≤ length (drop at frame)
  five_there = omega (arith, length-drop at frame)

  pub long_kind : (word : ℕ) (kind : Kind) → ((i : ℕ) → get_or frame i 0 < 256)
      → word ≡ from_le_bytes w32 (slice_index frame (at + 1) ∷ slice_index frame (at + 2) ∷ slice_index frame (at + 3) ∷ slice_index frame (at + 4) ∷ [])
      → word ≡ from_le_bytes w32 (kind_name kind ++ 34 ∷ []) → length (kind_name kind) ≡ 3 → Finds frame at kind_at kind (at + 5)
  long_kind word kind small is same three =
      let name = spelled_word (kind_name kind ++ 34 ∷ []) _ _ _ _ word (small (at + 1)) (small (at + 2)) (small (at + 3)) (small (at + 4)) is (length-append (kind_name kind) (34 ∷ []) ∙ ap (λ n. n + 1) three) (small_name kind) same in
      let here : slice_index (drop at frame) 1 ∷ slice_index (drop at frame) 2 ∷ slice_index (drop at frame) 3 ∷ slice_index (drop at frame) 4 ∷ [] ≡ kind_name kind ++ 34 ∷ [] =
      ap (λ x. x ∷ slice_index (drop at frame) 2 ∷ slice_index (drop at frame) 3 ∷ slice_index (drop at frame) 4 ∷ []) (byte_there 1)
      ∙ ap (λ x. slice_index frame (at + 1) ∷ x ∷ slice_index (drop at frame) 3 ∷ slice_index (drop at frame) 4 ∷ []) (byte_there 2)
      ∙ ap (λ x. slice_index frame (at + 1) ∷ slice_index frame (at + 2) ∷ x ∷ slice_index (drop at frame) 4 ∷ []) (byte_there 3)
      ∙ ap (λ x. slice_index frame (at + 1) ∷ slice_index frame (at + 2) ∷ slice_index frame (at + 3) ∷ x ∷ []) (byte_there 4) ∙ name in
      (named (drop at frame) first_quote five_there kind three here ∙ ap (λ n. Ok (kind, n)) (omega arith), (omega arith, long))

  pub bool_kind : slice_index frame (at + 1) ≡ 116 → slice_index frame (at + 2) ≡ 102 → slice_index frame (at + 3) ≡ 34 → Finds frame at kind_at kinds.Bool (at + 4)
  bool_kind a b c = (bool_named (drop at frame) first_quote five_there (byte_there 1 ∙ a) (byte_there 2 ∙ b) (byte_there 3 ∙ c) ∙ ap (λ n. Ok (kinds.Bool, n)) (omega arith), (omega arith, omega arith))

  pub i8_kind : slice_index frame (at + 1) ≡ 105 → slice_index frame (at + 2) ≡ 56 → slice_index frame (at + 3) ≡ 34 → Finds frame at kind_at kinds.I8 (at + 4)
  i8_kind a b c = (i8_named (drop at frame) first_quote five_there (byte_there 1 ∙ a) (byte_there 2 ∙ b) (byte_there 3 ∙ c) ∙ ap (λ n. Ok (kinds.I8, n)) (omega arith), (omega arith, omega arith))

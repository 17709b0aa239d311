-- A header that is read is spelled so.
use Rattle.std.proofs.Common.{◌≡◌, ℕ, ℤ, ◌+◌, ◌*◌, ◌/◌, ◌%◌, ◌<◌, ◌^◌, true, false, List, [], ◌∷◌, ◌++◌, length, drop, Option, Some, None, Ok, Err, refl, ap, ◌∙◌, sym, subst, arith, length-append, append_assoc}
use Rattle.std.specs.Prelude.{nat_lt, ◌==◌, FitsSigned, slice_index}
use Rattle.std.specs.Int.{w32, cast_signed, cast_unsigned}
use Rattle.std.proofs.lemmas.Bool.Decides.{nat_tests}
use Rattle.std.proofs.lemmas.Int.{of_z-to_z, ints}
use Rattle.varint_zigzag.specs.Varint.{Spells}
use Rattle.thrift_value.specs.declared.kind.MessageType.{MessageType}
use Rattle.thrift_value.specs.declared.kind.MessageType.TheVariants as types
use Rattle.thrift_value.specs.Trees.{Members}
use Rattle.protocol_traits.specs.Heads.{Header}
use Rattle.compact_protocol.specs.Codes.{type_code, type_of}
use Rattle.compact_protocol.specs.Scan.{Scan, shifted, varint32_at, string_at, type_or_fault, type_at, front_at}
use Rattle.compact_protocol.specs.Grammar.{SpellsHeader}
use Rattle.compact_protocol.specs.Reading.{State, named, headed, begun, reads_head}
use Rattle.gate_base.specs.Bytes.{AreBytes}
use Rattle.binary_laws.proofs.Inverse.{is_read, same_value, same_size, no_fault}
use Rattle.binary_laws.proofs.Begun.{past, unless}
use Rattle.binary_laws.proofs.Headed.{message_of}
use Rattle.compact_laws.proofs.Inverse.{Front, then_read, shift_read, behind_front, rest_bytes, varint32_read, string_read}
use Rattle.compact_laws.proofs.Spelled.{At, body_open, headed_state}
use Rattle.compact_laws.proofs.Steps.{same_answer, no_step}

-- ---- the version and the type

type_is : (x : ℕ) (t : MessageType) → type_of x ≡ Some t → x ≡ type_code t
type_is x types.Call e = grind (arith, nat_tests)
type_is x types.Reply e = grind (arith, nat_tests)
type_is x types.Exception e = grind (arith, nat_tests)
type_is x types.Oneway e = grind (arith, nat_tests)

abbrev pub IsVersion : MessageType → List ℕ → Type 0
IsVersion t l = l ≡ 130 ∷ (32 * type_code t + 1) ∷ []

abbrev typed : MessageType → ℕ → Scan MessageType
typed t taken = is_read (t, taken)

type_first : (l : List ℕ) (t : MessageType) (taken : ℕ) → (slice_index l 0 == 130) ≡ true → nat_lt (length l) 2 ≡ false → (slice_index l 1 % 32 == 1) ≡ true → (found : Option MessageType) → type_of (slice_index l 1 / 32) ≡ found
    → type_or_fault found ≡ typed t taken → Front (IsVersion t) l taken
type_first [] t taken first long version found is e = absurd (grind (arith, nat_tests))
type_first (x ∷ []) t taken first long version found is e = absurd (grind (arith, nat_tests))
type_first (x ∷ y ∷ rest) t taken first long version None is e = absurd (no_fault _ (t, taken) e)
type_first (x ∷ y ∷ rest) t taken first long version (Some found) is e =
    let one : x ≡ 130 = grind (arith, nat_tests, first) in
    let low : y % 32 ≡ 1 = grind (arith, nat_tests, version) in
    let high : y / 32 ≡ type_code t = type_is (y / 32) found is ∙ ap type_code (same_value found t 2 taken e) in
    let two : y ≡ 32 * type_code t + 1 = omega (arith, low, high) in
    record { front = x ∷ y ∷ []; rest = rest; laid = refl; size = sym (same_size found t 2 taken e); spells = ap (λ z. z ∷ y ∷ []) one ∙ ap (λ z. 130 ∷ z ∷ []) two }

pub type_read : (bytes : List ℕ) (t : MessageType) (taken : ℕ) → type_at bytes ≡ Ok (t, taken) → Front (IsVersion t) bytes taken
unfolding type_at
type_read bytes t taken e =
    let h = past _ (nat_lt (length bytes) 1) _ (t, taken) e in
    let k = unless _ (slice_index bytes 0 == 130) _ (t, taken) h.1 in
    let l = past _ (nat_lt (length bytes) 2) _ (t, taken) k.1 in
    let v = unless _ (slice_index bytes 1 % 32 == 1) (type_or_fault (type_of (slice_index bytes 1 / 32))) (t, taken) l.1 in
    type_first bytes t taken k.0 l.0 v.0 (type_of (slice_index bytes 1 / 32)) refl v.1

-- ---- and the sequence number

abbrev pub IsFront : MessageType → ℤ → List ℕ → Type 0
IsFront t z l = FitsSigned w32 z × ((number : List ℕ) × Spells 5 32 number (cast_unsigned w32 z) × (l ≡ 130 ∷ (32 * type_code t + 1) ∷ number))

pub fits_32 : (n : ℕ) → n < 2 ^ 32 → FitsSigned w32 (cast_signed w32 n)
fits_32 n h = omega (arith, ints)

pub front_read : (bytes : List ℕ) → AreBytes bytes → (t : MessageType) (z : ℤ) (taken : ℕ) → front_at bytes ≡ Ok ((t, z), taken) → Front (IsFront t z) bytes taken
unfolding front_at
front_read bytes are t z taken e =
    let p = then_read (type_at bytes) _ ((t, z), taken) e in
    let found = p.0.0 in
    let k = p.0.1 in
    let q = then_read (shifted k (varint32_at (drop k bytes))) (λ n. Ok ((found, cast_signed w32 n.0), n.1)) ((t, z), taken) p.2 in
    let n = q.0.0 in
    let s = shift_read k (varint32_at (drop k bytes)) n q.0.1 q.1 in
    let f = type_read bytes found k p.1 in
    let v = varint32_read f.rest (rest_bytes (IsVersion found) bytes k f are) n s.0 (ap varint32_at (sym (behind_front (IsVersion found) bytes k f)) ∙ s.1) in
    let both = same_value (found, cast_signed w32 n) (t, z) q.0.1 taken q.2 in
    let same_type : found ≡ t = ap (λ (y : MessageType × ℤ). y.0) both in
    let same_seq : cast_signed w32 n ≡ z = ap (λ (y : MessageType × ℤ). y.1) both in
    let small = v.spells.fits in
    let back : n ≡ cast_unsigned w32 z = sym (of_z-to_z w32 n small) ∙ ap (cast_unsigned w32) same_seq in
    record {
      front = f.front ++ v.front;
      rest = v.rest;
      laid = f.laid ∙ ap (λ l. f.front ++ l) v.laid ∙ sym (append_assoc f.front v.front v.rest);
      size = omega (arith, same_size (found, cast_signed w32 n) (t, z) q.0.1 taken q.2, s.2, f.size, v.size, length-append f.front v.front);
      spells = (
        subst (FitsSigned w32) same_seq (fits_32 n small),
        (v.front, subst (λ m. Spells 5 32 v.front m) back v.spells, ap (λ l. l ++ v.front) f.spells ∙ ap (λ y. 130 ∷ (32 * type_code y + 1) ∷ v.front) same_type),
      );
    }

-- ---- a header

pub record Headed (bytes : List ℕ) (h : Header) (first : State) : Type 0 where
  pub header : List ℕ
  pub body : List ℕ
  pub laid : bytes ≡ header ++ body
  pub at : ℕ
  pub long : ℕ
  pub whole : at + long ≡ length header
  pub start : first ≡ headed_state bytes at long
  pub spells : (ms : Members) → SpellsHeader (message_of h ms) header

abbrev fronted : MessageType × ℤ → ℕ → Scan (MessageType × ℤ)
fronted x at = is_read (x, at)

abbrev header_with : List ℕ → MessageType × ℤ → Header
header_with name front = record { name = name; mtype = front.0; seq = front.1 }

name_read : (bytes : List ℕ) → AreBytes bytes → (front : MessageType × ℤ) (at : ℕ) → front_at bytes ≡ fronted front at → (scan : Scan (List ℕ)) → string_at (drop at bytes) ≡ scan → (h : Header) (first : State)
    → named (begun bytes) front at (shifted at scan) ≡ Ok (h, first) → Headed bytes h first
name_read bytes are front at f (Err g) s h first e = absurd (no_step _ (h, first) e)
name_read bytes are front at f (Ok x) s h first e =
    let found = header_with x.0 front in
    let same = same_answer found h (headed_state bytes at x.1) first e in
    let r = front_read bytes are front.0 front.1 at f in
    let n = string_read r.rest (rest_bytes (IsFront front.0 front.1) bytes at r are) x.0 x.1 (ap string_at (sym (behind_front (IsFront front.0 front.1) bytes at r)) ∙ s) in
    let number = r.spells.1.0 in
    let made : Headed bytes found first = record {
      header = r.front ++ n.front;
      body = n.rest;
      laid = r.laid ∙ ap (λ l. r.front ++ l) n.laid ∙ sym (append_assoc r.front n.front n.rest);
      at = at;
      long = x.1;
      whole = omega (arith, r.size, n.size, length-append r.front n.front);
      start = sym same.1;
      spells = (λ ms. (r.spells.0, (number, n.front, r.spells.1.1, n.spells, ap (λ l. l ++ n.front) r.spells.1.2)));
    } in
    subst (λ z. Headed bytes z first) same.0 made

by_front : (bytes : List ℕ) → AreBytes bytes → (scan : Scan (MessageType × ℤ)) → front_at bytes ≡ scan → (h : Header) (first : State) → headed (begun bytes) scan ≡ Ok (h, first) → Headed bytes h first
by_front bytes are (Err g) f h first e = absurd (no_step _ (h, first) e)
by_front bytes are (Ok x) f h first e = name_read bytes are x.0 x.1 f (string_at (drop x.1 bytes)) refl h first e

pub head_read : (bytes : List ℕ) → AreBytes bytes → (h : Header) (first : State) → reads_head (begun bytes) ≡ Ok (h, first) → Headed bytes h first
unfolding reads_head
head_read bytes are h first e = by_front bytes are (front_at bytes) refl h first e

-- the body is to come
pub at_body : (bytes : List ℕ) (h : Header) (first : State) (x : Headed bytes h first) → At first body_open false x.body
at_body bytes h first x =
    let whole = x.whole in
    subst (λ s. At s body_open false x.body) (sym x.start) (record { front = x.header; open_levels = refl; told = refl; laid = x.laid; place = omega (arith, whole) })

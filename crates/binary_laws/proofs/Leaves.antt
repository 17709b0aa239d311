-- One item of the grammar is read as that item, whatever follows it.
use Rattle.std.proofs.Common.{◌≡◌, ℕ, ℤ, ◌+◌, ◌<◌, ◌≤◌, ◌^◌, Bool, true, false, List, [], ◌∷◌, ◌++◌, length, take, drop, Option, Some, None, Ok, refl, ap, ◌∙◌, sym, arith, inl, inr, length-append}
use Rattle.std.specs.Prelude.{nat_lt, nat_le, ◌==◌, ◌&&◌, ◌||◌, FitsSigned, slice_index}
use Rattle.std.proofs.lemmas.Bool.Decides.{nat_tests}
use Rattle.std.proofs.lemmas.Nat.{from_be_bytes-to_be_bytes_2, from_be_bytes-to_be_bytes_4, from_be_bytes-to_be_bytes_8}
use Rattle.std.proofs.lemmas.Int.{to_z-of_z, ints}
use Rattle.std.specs.Int.{w8, w16, w32, w64, to_be_bytes, from_be_bytes, cast_unsigned, cast_signed}
use Rattle.thrift_value.specs.declared.kind.Kind.{Kind}
use Rattle.thrift_value.specs.declared.kind.Kind.TheVariants as kinds
use Rattle.thrift_value.specs.declared.kind.MessageType.{MessageType}
use Rattle.thrift_value.specs.declared.kind.MessageType.TheVariants as types
use Rattle.thrift_value.specs.Items.{Item, field, stop, bool_value, i8_value, i16_value, i32_value, i64_value, double_value, text, empty_map, map_begin, set_begin, list_begin, uuid_value}
use Rattle.binary_protocol.specs.Codes.{code_of_kind, kind_of_code, code_of_type, type_of_code}
use Rattle.binary_protocol.specs.Scan.{Scan, unsigned_at, signed_at, field_at, bool_at, i8_at, i16_at, i32_at, i64_at, double_at, uuid_at, size_at, zero_at, string_at, text_at, elements_at, set_at, list_at, map_at, map_of, is_bad_kind, shifted}
use Rattle.binary_protocol.specs.Grammar.{number, size, string, flag, IsKindByte}

pub take_front : (front rest : List ℕ) → take (length front) (front ++ rest) ≡ front
take_front [] rest = refl
take_front (x ∷ xs) rest = ap (λ r. x ∷ r) (take_front xs rest)

pub kind_again : (k : Kind) → kind_of_code (code_of_kind k) ≡ Some k
kind_again kinds.Bool = refl
kind_again kinds.I8 = refl
kind_again kinds.I16 = refl
kind_again kinds.I32 = refl
kind_again kinds.I64 = refl
kind_again kinds.Double = refl
kind_again kinds.Str = refl
kind_again kinds.Struct = refl
kind_again kinds.Map = refl
kind_again kinds.Set = refl
kind_again kinds.List = refl
kind_again kinds.Uuid = refl

pub code_some : (k : Kind) → 0 < code_of_kind k
code_some kinds.Bool = omega arith
code_some kinds.I8 = omega arith
code_some kinds.I16 = omega arith
code_some kinds.I32 = omega arith
code_some kinds.I64 = omega arith
code_some kinds.Double = omega arith
code_some kinds.Str = omega arith
code_some kinds.Struct = omega arith
code_some kinds.Map = omega arith
code_some kinds.Set = omega arith
code_some kinds.List = omega arith
code_some kinds.Uuid = omega arith

pub type_again : (t : MessageType) → type_of_code (code_of_type t) ≡ Some t
type_again types.Call = refl
type_again types.Reply = refl
type_again types.Exception = refl
type_again types.Oneway = refl

-- ---- numbers

one_again : (n : ℕ) (more : List ℕ) → n < 2 ^ 8 → unsigned_at w8 (to_be_bytes w8 n ++ more) ≡ n
one_again n more h = omega arith

two_again : (n : ℕ) (more : List ℕ) → n < 2 ^ 16 → unsigned_at w16 (to_be_bytes w16 n ++ more) ≡ n
two_again n more h = from_be_bytes-to_be_bytes_2 n h

pub four_again : (n : ℕ) (more : List ℕ) → n < 2 ^ 32 → unsigned_at w32 (to_be_bytes w32 n ++ more) ≡ n
four_again n more h = from_be_bytes-to_be_bytes_4 n h

eight_again : (n : ℕ) (more : List ℕ) → n < 2 ^ 64 → unsigned_at w64 (to_be_bytes w64 n ++ more) ≡ n
eight_again n more h = from_be_bytes-to_be_bytes_8 n h

pub i8_signed : (z : ℤ) (more : List ℕ) → FitsSigned w8 z → signed_at w8 (number w8 z ++ more) ≡ z
i8_signed z more h = let fits : cast_unsigned w8 z < 2 ^ 8 = omega (arith, ints) in ap (cast_signed w8) (one_again (cast_unsigned w8 z) more fits) ∙ to_z-of_z w8 z h

pub i16_signed : (z : ℤ) (more : List ℕ) → FitsSigned w16 z → signed_at w16 (number w16 z ++ more) ≡ z
i16_signed z more h = let fits : cast_unsigned w16 z < 2 ^ 16 = omega (arith, ints) in ap (cast_signed w16) (two_again (cast_unsigned w16 z) more fits) ∙ to_z-of_z w16 z h

pub i32_signed : (z : ℤ) (more : List ℕ) → FitsSigned w32 z → signed_at w32 (number w32 z ++ more) ≡ z
i32_signed z more h = let fits : cast_unsigned w32 z < 2 ^ 32 = omega (arith, ints) in ap (cast_signed w32) (four_again (cast_unsigned w32 z) more fits) ∙ to_z-of_z w32 z h

pub i64_signed : (z : ℤ) (more : List ℕ) → FitsSigned w64 z → signed_at w64 (number w64 z ++ more) ≡ z
i64_signed z more h = let fits : cast_unsigned w64 z < 2 ^ 64 = omega (arith, ints) in ap (cast_signed w64) (eight_again (cast_unsigned w64 z) more fits) ∙ to_z-of_z w64 z h

pub i8_again : (z : ℤ) (more : List ℕ) → FitsSigned w8 z → i8_at (number w8 z ++ more) ≡ Ok (i8_value z, 1)
unfolding i8_at
i8_again z more h = let t : nat_lt (length (number w8 z ++ more)) 1 ≡ false = grind (arith, nat_tests) in rw (t, i8_signed z more h) refl

pub i16_again : (z : ℤ) (more : List ℕ) → FitsSigned w16 z → i16_at (number w16 z ++ more) ≡ Ok (i16_value z, 2)
unfolding i16_at
i16_again z more h = let t : nat_lt (length (number w16 z ++ more)) 2 ≡ false = grind (arith, nat_tests) in rw (t, i16_signed z more h) refl

pub i32_again : (z : ℤ) (more : List ℕ) → FitsSigned w32 z → i32_at (number w32 z ++ more) ≡ Ok (i32_value z, 4)
unfolding i32_at
i32_again z more h = let t : nat_lt (length (number w32 z ++ more)) 4 ≡ false = grind (arith, nat_tests) in rw (t, i32_signed z more h) refl

pub i64_again : (z : ℤ) (more : List ℕ) → FitsSigned w64 z → i64_at (number w64 z ++ more) ≡ Ok (i64_value z, 8)
unfolding i64_at
i64_again z more h = let t : nat_lt (length (number w64 z ++ more)) 8 ≡ false = grind (arith, nat_tests) in rw (t, i64_signed z more h) refl

pub eight_bytes : (bytes more : List ℕ) → length bytes ≡ 8 → double_at (bytes ++ more) ≡ Ok (double_value bytes, 8)
unfolding double_at
eight_bytes bytes more h =
    let t : nat_lt (length (bytes ++ more)) 8 ≡ false = let l = length-append bytes more in grind (arith, nat_tests) in
    let front : take 8 (bytes ++ more) ≡ bytes = ap (λ n. take n (bytes ++ more)) (sym h) ∙ take_front bytes more in
    rw (t, front) refl

pub sixteen_bytes : (bytes more : List ℕ) → length bytes ≡ 16 → uuid_at (bytes ++ more) ≡ Ok (uuid_value bytes, 16)
unfolding uuid_at
sixteen_bytes bytes more h =
    let t : nat_lt (length (bytes ++ more)) 16 ≡ false = let l = length-append bytes more in grind (arith, nat_tests) in
    let front : take 16 (bytes ++ more) ≡ bytes = ap (λ n. take n (bytes ++ more)) (sym h) ∙ take_front bytes more in
    rw (t, front) refl

pub bool_again : (b : Bool) (more : List ℕ) → bool_at ((flag b ∷ []) ++ more) ≡ Ok (bool_value b, 1)
unfolding bool_at
bool_again true more = grind (arith, nat_tests)
bool_again false more = grind (arith, nat_tests)

-- ---- sizes and what begins with them

pub size_scan : (bytes : List ℕ) (n : ℕ) → 4 ≤ length bytes → unsigned_at w32 bytes ≡ n → n < 2 ^ 31 → size_at bytes ≡ Ok (n, 4)
unfolding size_at
size_scan bytes n long e less =
    let t : nat_lt (length bytes) 4 ≡ false = grind (arith, nat_tests) in
    let u : nat_lt n (2 ^ 31) ≡ true = grind (arith, nat_tests) in
    rw (t, e, u) refl

pub size_again : (n : ℕ) (more : List ℕ) → n < 2 ^ 31 → size_at (size n ++ more) ≡ Ok (n, 4)
size_again n more h = size_scan (size n ++ more) n (omega arith) (four_again n more (omega arith)) h

pub string_scan : (bytes : List ℕ) (n : ℕ) → size_at bytes ≡ Ok (n, 4) → n + 4 ≤ length bytes → string_at bytes ≡ Ok (take n (drop 4 bytes), n + 4)
unfolding string_at
string_scan bytes n is long = let t : nat_lt (length bytes) (n + 4) ≡ false = grind (arith, nat_tests) in rw (is, t) refl

pub string_again : (b more : List ℕ) → length b < 2 ^ 31 → string_at (string b ++ more) ≡ Ok (b, length b + 4)
string_again b more h =
    let is = size_again (length b) (b ++ more) h in
    rw (string_scan (string b ++ more) (length b) is (omega (arith, length-append b more)), take_front b more) refl

pub text_again : (b more : List ℕ) → length b < 2 ^ 31 → text_at (string b ++ more) ≡ Ok (text b, length b + 4)
unfolding text_at
text_again b more h = rw (string_again b more h) refl

pub elements_scan : (bytes : List ℕ) (k : Kind) (n : ℕ) → 1 ≤ length bytes → kind_of_code (slice_index bytes 0) ≡ Some k → size_at (drop 1 bytes) ≡ Ok (n, 4) → elements_at bytes ≡ Ok ((k, n), 5)
unfolding elements_at
elements_scan bytes k n long kind is = let t : nat_lt (length bytes) 1 ≡ false = grind (arith, nat_tests) in rw (t, kind, is) refl

pub elements_again : (k : Kind) (n : ℕ) (more : List ℕ) → n < 2 ^ 31 → elements_at (code_of_kind k ∷ size n ++ more) ≡ Ok ((k, n), 5)
elements_again k n more h = elements_scan (code_of_kind k ∷ size n ++ more) k n (omega arith) (kind_again k) (size_again n more h)

pub list_again : (k : Kind) (n : ℕ) (more : List ℕ) → n < 2 ^ 31 → list_at (code_of_kind k ∷ size n ++ more) ≡ Ok (list_begin k n, 5)
unfolding list_at
list_again k n more h = rw (elements_again k n more h) refl

pub set_again : (k : Kind) (n : ℕ) (more : List ℕ) → n < 2 ^ 31 → set_at (code_of_kind k ∷ size n ++ more) ≡ Ok (set_begin k n, 5)
unfolding set_at
set_again k n more h = rw (elements_again k n more h) refl

-- ---- maps

pub map_scan : (bytes : List ℕ) (key value : Option Kind) (scan : Scan Item) → 2 ≤ length bytes → is_bad_kind (slice_index bytes 0) ≡ false → is_bad_kind (slice_index bytes 1) ≡ false
    → kind_of_code (slice_index bytes 0) ≡ key → kind_of_code (slice_index bytes 1) ≡ value → map_of key value (drop 2 bytes) ≡ scan → map_at bytes ≡ shifted 2 scan
unfolding map_at
map_scan bytes key value scan long a b k v is =
    let t : nat_lt (length bytes) 1 ≡ false = grind (arith, nat_tests) in
    let u : nat_lt (length bytes) 2 ≡ false = grind (arith, nat_tests) in
    rw (t, a, u, b, k, v, is) refl

pub good_kind : (k : Kind) → is_bad_kind (code_of_kind k) ≡ false
good_kind k = rw (kind_again k) refl

pub map_again : (key value : Kind) (n : ℕ) (more : List ℕ) → 1 ≤ n → n < 2 ^ 31 → map_at (code_of_kind key ∷ code_of_kind value ∷ size n ++ more) ≡ Ok (map_begin key value n, 6)
map_again key value n more some h =
    let t : (n == 0) ≡ false = grind (arith, nat_tests) in
    let inner : map_of (Some key) (Some value) (size n ++ more) ≡ Ok (map_begin key value n, 4) = rw (size_again n more h, t) refl in
    map_scan (code_of_kind key ∷ code_of_kind value ∷ size n ++ more) (Some key) (Some value) (Ok (map_begin key value n, 4)) (omega arith) (good_kind key) (good_kind value) (kind_again key) (kind_again value) inner

-- no kind, or one
record Named (byte : ℕ) : Type 0 where
  kind : Option Kind
  is : kind_of_code byte ≡ kind
  good : is_bad_kind byte ≡ false

named : (byte : ℕ) → IsKindByte byte → Named byte
named byte (inl e) = record { kind = None; is = ap (λ b. kind_of_code b) e; good = ap (λ b. is_bad_kind b) e }
named byte (inr (k, e)) = record { kind = Some k; is = ap (λ b. kind_of_code b) e ∙ kind_again k; good = ap (λ b. is_bad_kind b) e ∙ good_kind k }

pub or_true : (b : Bool) → (b || true) ≡ true
or_true true = refl
or_true false = refl

all_true : (a b c d : Bool) → a ≡ true → b ≡ true → c ≡ true → d ≡ true → ((a && b) && (c && d)) ≡ true
all_true a b c d p q r s = cc

zero_again : (more : List ℕ) → zero_at (size 0 ++ more) ≡ Ok (0, 4)
unfolding zero_at
zero_again more =
    let n = length (size 0 ++ more) in
    let t : nat_lt n 4 ≡ false = grind (arith, nat_tests) in
    let z = all_true (nat_le n 0 || true) (nat_le n 1 || true) (nat_le n 2 || true) (nat_le n 3 || true) (or_true _) (or_true _) (or_true _) (or_true _) in
    rw (z, t) refl

none_of : (key value : Option Kind) (more : List ℕ) → map_of key value (size 0 ++ more) ≡ Ok (empty_map, 4)
none_of (Some key) (Some value) more = rw (size_again 0 more (omega arith)) refl
none_of (Some key) None more = rw (zero_again more) refl
none_of None value more = rw (zero_again more) refl

pub no_map_again : (key value : ℕ) (more : List ℕ) → IsKindByte key → IsKindByte value → map_at (key ∷ value ∷ size 0 ++ more) ≡ Ok (empty_map, 6)
no_map_again key value more a b =
    let k = named key a in
    let v = named value b in
    map_scan (key ∷ value ∷ size 0 ++ more) k.kind v.kind (Ok (empty_map, 4)) (omega arith) k.good v.good k.is v.is (none_of k.kind v.kind more)

-- ---- fields

pub field_scan : (bytes : List ℕ) (k : Kind) (id : ℤ) → 3 ≤ length bytes → kind_of_code (slice_index bytes 0) ≡ Some k → cast_signed w16 (from_be_bytes w16 (slice_index bytes 1 ∷ slice_index bytes 2 ∷ [])) ≡ id → 0 < slice_index bytes 0
    → field_at bytes ≡ Ok (field id k, 3)
unfolding field_at
field_scan bytes k id long kind e some =
    let t : nat_lt (length bytes) 1 ≡ false = grind (arith, nat_tests) in
    let u : nat_lt (length bytes) 3 ≡ false = grind (arith, nat_tests) in
    let v : (slice_index bytes 0 == 0) ≡ false = grind (arith, nat_tests) in
    rw (t, v, kind, u, e) refl

pub field_again : (k : Kind) (id : ℤ) (more : List ℕ) → FitsSigned w16 id → field_at (code_of_kind k ∷ number w16 id ++ more) ≡ Ok (field id k, 3)
field_again k id more h = field_scan (code_of_kind k ∷ number w16 id ++ more) k id (omega arith) (kind_again k) (i16_signed id [] h) (code_some k)

pub stop_again : (more : List ℕ) → field_at ((0 ∷ []) ++ more) ≡ Ok (stop, 1)
unfolding field_at
stop_again more = grind (arith, nat_tests)

-- One item of the grammar is read as that item, whatever follows it.
use Rattle.std.proofs.Common.{◌≡◌, ℕ, ℤ, pos, negsuc, zero, suc, ◌+◌, ◌-◌, ◌*◌, ◌/◌, ◌%◌, ◌<◌, ◌≤◌, ◌^◌, Bool, true, false, List, [], ◌∷◌, ◌++◌, length, take, drop, Some, Ok, refl, ap, ◌∙◌, sym, subst, arith, ◌⊎◌, inl, inr, length-append, append_assoc}
use Rattle.std.specs.Prelude.{nat_lt, int_lt, ◌==◌, ◌+ℤ◌, reverse, FitsSigned, slice_index}
use Rattle.std.proofs.lemmas.Bool.Decides.{nat_tests}
use Rattle.std.proofs.lemmas.Int.{to_z-of_z}
use Rattle.std.proofs.lemmas.List.{reverse-reverse, length-reverse}
use Rattle.std.specs.Int.{w8, w16, cast_unsigned}
use Rattle.varint_zigzag.specs.Varint.{IsVarint, Spells, varint_at, below}
use Rattle.varint_zigzag.specs.Bounds.{at_last, at_more}
use Rattle.varint_zigzag.specs.Zigzag.{folded, unfolded}
use Rattle.varint_zigzag.proofs.Groups.{high_fits}
use Rattle.thrift_value.specs.declared.kind.Kind.{Kind}
use Rattle.thrift_value.specs.declared.kind.Kind.TheVariants as kinds
use Rattle.thrift_value.specs.Items.{field, stop, bool_value, i8_value, i16_value, i32_value, i64_value, double_value, text, empty_map, map_begin, set_begin, list_begin, uuid_value}
use Rattle.compact_protocol.specs.Codes.{kind_of, code_of, flag_code}
use Rattle.compact_protocol.specs.Scan.{varint_of, varint16_at, varint32_at, varint64_at, id_at, size_at, string_at, field_of, long_field, field_at, flag_of, bool_at, i8_at, i16_at, i32_at, i64_at, double_at, text_at, uuid_at, elements_of, elements_at, set_at, list_at, kinds_at, map_at}
use Rattle.compact_protocol.specs.Grammar.{IsSmall, IsWord, IsLong, IsSize, IsString, IsFlag, IsKind, IsFieldHeader, IsElementsHeader, IsPairsHeader}
use Rattle.binary_laws.proofs.Leaves.{take_front}
use Rattle.binary_laws.proofs.Heading.{drop_front}

-- ---- numbers

form_again : (bytes : List ℕ) (most width n : ℕ) (more : List ℕ) → IsVarint bytes n → length bytes ≤ most → n < 2 ^ width → varint_at most width (bytes ++ more) ≡ Ok (n, length bytes)
form_again [] most width n more form within fits = absurd form
form_again (b ∷ bs) zero width n more form within fits = absurd (omega arith)
form_again (b ∷ []) (suc most) width n more form within fits =
    let is = form.1 in
    at_last most width b more (omega (arith, form.0, is, fits)) form.0 ∙ ap (λ k. Ok (k, 1)) (sym is)
form_again (b ∷ c ∷ bs) (suc most) width n more form within fits =
    let high = form.2 in
    let inner = form_again (c ∷ bs) most (width - 7) high more form.4 (omega arith) (high_fits width n b high form.0 form.3 fits) in
    let low : b % 128 + 128 * high ≡ n = omega (arith, form.0, form.1, form.3) in
    let some : b % 128 ≤ n = omega (arith, form.0, form.1, form.3) in
    let long : length (c ∷ bs) + 1 ≡ length (b ∷ c ∷ bs) = omega arith in
    at_more most width b (c ∷ bs ++ more) (omega (arith, some, fits)) form.0 ∙ ap (below (b % 128)) inner ∙ ap (λ k. Ok (k, length (c ∷ bs) + 1)) low ∙ ap (λ k. Ok (n, k)) long

pub varint16_again : (n : ℕ) (bytes more : List ℕ) → Spells 5 16 bytes n → varint16_at (bytes ++ more) ≡ Ok (n, length bytes)
unfolding varint16_at
varint16_again n bytes more s = ap (varint_of (length (bytes ++ more))) (form_again bytes 5 16 n more s.form s.within s.fits)

pub varint32_again : (n : ℕ) (bytes more : List ℕ) → Spells 5 32 bytes n → varint32_at (bytes ++ more) ≡ Ok (n, length bytes)
unfolding varint32_at
varint32_again n bytes more s = ap (varint_of (length (bytes ++ more))) (form_again bytes 5 32 n more s.form s.within s.fits)

pub varint64_again : (n : ℕ) (bytes more : List ℕ) → Spells 10 64 bytes n → varint64_at (bytes ++ more) ≡ Ok (n, length bytes)
unfolding varint64_at
varint64_again n bytes more s = ap (varint_of (length (bytes ++ more))) (form_again bytes 10 64 n more s.form s.within s.fits)

pub signed_again : (z : ℤ) → unfolded (folded z) ≡ z
signed_again (pos n) = grind (arith, nat_tests)
signed_again (negsuc n) = grind (arith, nat_tests)

pub id_again : (z : ℤ) (bytes more : List ℕ) → IsSmall z bytes → id_at (bytes ++ more) ≡ Ok (z, length bytes)
unfolding id_at
id_again z bytes more h = rw (varint16_again (folded z) bytes more h.1, signed_again z) refl

pub size_again : (n : ℕ) (bytes more : List ℕ) → IsSize n bytes → size_at (bytes ++ more) ≡ Ok (n, length bytes)
unfolding size_at
size_again n bytes more h =
    let t : nat_lt n 2147483648 ≡ true = grind (arith, nat_tests, h.0) in
    rw (varint32_again n bytes more h.1, t) refl

string_scan : (bytes : List ℕ) (n k : ℕ) → size_at bytes ≡ Ok (n, k) → k + n ≤ length bytes → string_at bytes ≡ Ok (take n (drop k bytes), k + n)
unfolding string_at
string_scan bytes n k is long = let t : nat_lt (length bytes) (k + n) ≡ false = grind (arith, nat_tests) in rw (is, t) refl

pub string_again : (b bytes more : List ℕ) → IsString b bytes → string_at (bytes ++ more) ≡ Ok (b, length bytes)
string_again b bytes more (size, is, laid) =
    let all = size ++ (b ++ more) in
    let long : length all ≡ length size + (length b + length more) = length-append size (b ++ more) ∙ ap (λ k. length size + k) (length-append b more) in
    let whole : length size + length b ≡ length bytes = sym (length-append size b) ∙ ap length (sym laid) in
    let front : take (length b) (drop (length size) all) ≡ b = ap (λ l. take (length b) l) (drop_front size (b ++ more)) ∙ take_front b more in
    ap (λ l. string_at (l ++ more)) laid ∙ ap string_at (append_assoc size b more)
    ∙ string_scan all (length b) (length size) (size_again (length b) size (b ++ more) is) (omega (arith, long))
    ∙ ap (λ t. Ok (t, length size + length b)) front ∙ ap (λ k. Ok (b, k)) whole

-- ---- kinds

pub record IsCode (code : ℕ) (k : Kind) : Type 0 where
  pub kind : kind_of code ≡ Some k
  pub some : 1 ≤ code
  pub less : code ≤ 13

pub code_again : (k : Kind) → IsCode (code_of k) k
code_again kinds.Bool = record { kind = refl; some = omega arith; less = omega arith }
code_again kinds.I8 = record { kind = refl; some = omega arith; less = omega arith }
code_again kinds.I16 = record { kind = refl; some = omega arith; less = omega arith }
code_again kinds.I32 = record { kind = refl; some = omega arith; less = omega arith }
code_again kinds.I64 = record { kind = refl; some = omega arith; less = omega arith }
code_again kinds.Double = record { kind = refl; some = omega arith; less = omega arith }
code_again kinds.Str = record { kind = refl; some = omega arith; less = omega arith }
code_again kinds.Struct = record { kind = refl; some = omega arith; less = omega arith }
code_again kinds.Map = record { kind = refl; some = omega arith; less = omega arith }
code_again kinds.Set = record { kind = refl; some = omega arith; less = omega arith }
code_again kinds.List = record { kind = refl; some = omega arith; less = omega arith }
code_again kinds.Uuid = record { kind = refl; some = omega arith; less = omega arith }

pub flag_again : (b : Bool) → IsCode (flag_code b) kinds.Bool
flag_again true = record { kind = refl; some = omega arith; less = omega arith }
flag_again false = record { kind = refl; some = omega arith; less = omega arith }

same_code : (k : Kind) (code : ℕ) → code ≡ code_of k → IsCode code k
same_code k code e = subst (λ c. IsCode c k) (sym e) (code_again k)

bool_code : (code : ℕ) → (code ≡ 1) ⊎ (code ≡ 2) → IsCode code kinds.Bool
bool_code code (inl e) = subst (λ c. IsCode c kinds.Bool) (sym e) (flag_again true)
bool_code code (inr e) = subst (λ c. IsCode c kinds.Bool) (sym e) (flag_again false)

pub kind_again : (k : Kind) (code : ℕ) → IsKind k code → IsCode code k
kind_again kinds.Bool code h = bool_code code h
kind_again kinds.I8 code h = same_code kinds.I8 code h
kind_again kinds.I16 code h = same_code kinds.I16 code h
kind_again kinds.I32 code h = same_code kinds.I32 code h
kind_again kinds.I64 code h = same_code kinds.I64 code h
kind_again kinds.Double code h = same_code kinds.Double code h
kind_again kinds.Str code h = same_code kinds.Str code h
kind_again kinds.Struct code h = same_code kinds.Struct code h
kind_again kinds.Map code h = same_code kinds.Map code h
kind_again kinds.Set code h = same_code kinds.Set code h
kind_again kinds.List code h = same_code kinds.List code h
kind_again kinds.Uuid code h = same_code kinds.Uuid code h

-- ---- fields

pub field_scan : (last : ℤ) (bytes : List ℕ) (k : Kind) → 1 ≤ length bytes → 0 < slice_index bytes 0 → kind_of (slice_index bytes 0 % 16) ≡ Some k → field_at last bytes ≡ field_of last bytes (Some k)
unfolding field_at
field_scan last bytes k long some kind =
    let t : nat_lt (length bytes) 1 ≡ false = grind (arith, nat_tests) in
    let u : (slice_index bytes 0 == 0) ≡ false = grind (arith, nat_tests) in
    rw (t, u, kind) refl

short_scan : (last id : ℤ) (bytes : List ℕ) (k : Kind) (step : ℕ) → slice_index bytes 0 / 16 ≡ step → 1 ≤ step → id ≡ last +ℤ pos step → FitsSigned w16 id → field_of last bytes (Some k) ≡ Ok (field id k, 1)
short_scan last id bytes k step high some is fits =
    let t : (step == 0) ≡ false = grind (arith, nat_tests) in
    let u : int_lt (pos 32767) id ≡ false = grind (arith, nat_tests, fits) in
    rw (high, t, ← is, u) refl

long_scan : (last id : ℤ) (bytes : List ℕ) (k : Kind) (taken : ℕ) → slice_index bytes 0 / 16 ≡ 0 → id_at (drop 1 bytes) ≡ Ok (id, taken) → field_of last bytes (Some k) ≡ Ok (field id k, 1 + taken)
unfolding long_field
long_scan last id bytes k taken high is = rw (high, is) refl

pub field_again : (last id : ℤ) (code : ℕ) (k : Kind) (header more : List ℕ) → IsCode code k → IsFieldHeader last id code header → field_at last (header ++ more) ≡ Ok (field id k, length header)
field_again last id code k header more c (inl (step, some, most, is, fits, laid)) =
    let all = (16 * step + code) ∷ more in
    let few = c.less in
    let low : (16 * step + code) % 16 ≡ code = omega arith in
    let high : (16 * step + code) / 16 ≡ step = omega arith in
    ap (λ l. field_at last (l ++ more)) laid ∙ field_scan last all k (omega arith) (omega arith) (ap kind_of low ∙ c.kind) ∙ short_scan last id all k step high some is fits
    ∙ ap (λ l. Ok (field id k, length l)) (sym laid)
field_again last id code k header more c (inr (number, is, laid)) =
    let all = code ∷ (number ++ more) in
    let few = c.less in
    let one = c.some in
    let low : code % 16 ≡ code = omega arith in
    let high : code / 16 ≡ 0 = omega arith in
    let long : 1 + length number ≡ length (code ∷ number) = omega arith in
    ap (λ l. field_at last (l ++ more)) laid ∙ field_scan last all k (omega arith) (omega arith) (ap kind_of low ∙ c.kind) ∙ long_scan last id all k (length number) high (id_again id number more is)
    ∙ ap (λ n. Ok (field id k, n)) long ∙ ap (λ l. Ok (field id k, length l)) (sym laid)

flag_told : (b : Bool) (bytes : List ℕ) → slice_index bytes 0 % 16 ≡ flag_code b → flag_of bytes ≡ b
unfolding flag_of
flag_told true bytes e = rw e refl
flag_told false bytes e = rw e refl

-- a bool field's header tells its value
pub told_again : (last id : ℤ) (b : Bool) (header more : List ℕ) → IsFieldHeader last id (flag_code b) header → flag_of (header ++ more) ≡ b
told_again last id b header more (inl (step, some, most, is, fits, laid)) =
    let few = (flag_again b).less in
    let low : (16 * step + flag_code b) % 16 ≡ flag_code b = omega arith in
    ap (λ l. flag_of (l ++ more)) laid ∙ flag_told b ((16 * step + flag_code b) ∷ more) low
told_again last id b header more (inr (number, is, laid)) =
    let few = (flag_again b).less in
    let low : flag_code b % 16 ≡ flag_code b = omega arith in
    ap (λ l. flag_of (l ++ more)) laid ∙ flag_told b (flag_code b ∷ (number ++ more)) low

pub stop_again : (last : ℤ) (more : List ℕ) → field_at last (0 ∷ more) ≡ Ok (stop, 1)
unfolding field_at
stop_again last more = grind (arith, nat_tests)

-- ---- values

pub bool_again : (b : Bool) (byte : ℕ) (more : List ℕ) → IsFlag b byte → bool_at (byte ∷ more) ≡ Ok (bool_value b, 1)
unfolding bool_at
bool_again true byte more h = grind (arith, nat_tests)
bool_again false byte more (inl e) = grind (arith, nat_tests)
bool_again false byte more (inr e) = grind (arith, nat_tests)

pub i8_again : (z : ℤ) (more : List ℕ) → FitsSigned w8 z → i8_at (cast_unsigned w8 z ∷ more) ≡ Ok (i8_value z, 1)
unfolding i8_at
i8_again z more h =
    let t : nat_lt (length (cast_unsigned w8 z ∷ more)) 1 ≡ false = grind (arith, nat_tests) in
    rw (t, to_z-of_z w8 z h) refl

pub i16_again : (z : ℤ) (bytes more : List ℕ) → IsSmall z bytes → i16_at (bytes ++ more) ≡ Ok (i16_value z, length bytes)
unfolding i16_at
i16_again z bytes more h = rw (id_again z bytes more h) refl

pub i32_again : (z : ℤ) (bytes more : List ℕ) → IsWord z bytes → i32_at (bytes ++ more) ≡ Ok (i32_value z, length bytes)
unfolding i32_at
i32_again z bytes more h = rw (varint32_again (folded z) bytes more h.1, signed_again z) refl

pub i64_again : (z : ℤ) (bytes more : List ℕ) → IsLong z bytes → i64_at (bytes ++ more) ≡ Ok (i64_value z, length bytes)
unfolding i64_at
i64_again z bytes more h = rw (varint64_again (folded z) bytes more h.1, signed_again z) refl

pub eight_scan : (eight turned more : List ℕ) → length turned ≡ 8 → reverse turned ≡ eight → double_at (turned ++ more) ≡ Ok (double_value eight, 8)
unfolding double_at
eight_scan eight turned more long back =
    let t : nat_lt (length (turned ++ more)) 8 ≡ false = let l = length-append turned more in grind (arith, nat_tests) in
    let front : take 8 (turned ++ more) ≡ turned = ap (λ n. take n (turned ++ more)) (sym long) ∙ take_front turned more in
    rw (t, front, back) refl

pub eight_again : (eight more : List ℕ) → length eight ≡ 8 → double_at (reverse eight ++ more) ≡ Ok (double_value eight, 8)
eight_again eight more h = eight_scan eight (reverse eight) more (length-reverse eight ∙ h) (reverse-reverse eight)

pub sixteen_again : (bytes more : List ℕ) → length bytes ≡ 16 → uuid_at (bytes ++ more) ≡ Ok (uuid_value bytes, 16)
unfolding uuid_at
sixteen_again bytes more h =
    let t : nat_lt (length (bytes ++ more)) 16 ≡ false = let l = length-append bytes more in grind (arith, nat_tests) in
    let front : take 16 (bytes ++ more) ≡ bytes = ap (λ n. take n (bytes ++ more)) (sym h) ∙ take_front bytes more in
    rw (t, front) refl

pub text_again : (b bytes more : List ℕ) → IsString b bytes → text_at (bytes ++ more) ≡ Ok (text b, length bytes)
unfolding text_at
text_again b bytes more h = rw (string_again b bytes more h) refl

-- ---- containers

pub elements_scan : (bytes : List ℕ) (k : Kind) → 1 ≤ length bytes → kind_of (slice_index bytes 0 % 16) ≡ Some k → elements_at bytes ≡ elements_of bytes (Some k)
unfolding elements_at
elements_scan bytes k long kind = let t : nat_lt (length bytes) 1 ≡ false = grind (arith, nat_tests) in rw (t, kind) refl

few_scan : (bytes : List ℕ) (k : Kind) (n : ℕ) → slice_index bytes 0 / 16 ≡ n → n ≤ 14 → elements_of bytes (Some k) ≡ Ok ((k, n), 1)
few_scan bytes k n high few = let t : nat_lt n 15 ≡ true = grind (arith, nat_tests) in rw (high, t) refl

many_scan : (bytes : List ℕ) (k : Kind) (n taken : ℕ) → slice_index bytes 0 / 16 ≡ 15 → size_at (drop 1 bytes) ≡ Ok (n, taken) → elements_of bytes (Some k) ≡ Ok ((k, n), 1 + taken)
many_scan bytes k n taken high is = rw (high, is) refl

pub elements_again : (k : Kind) (n : ℕ) (header more : List ℕ) → IsElementsHeader k n header → elements_at (header ++ more) ≡ Ok ((k, n), length header)
elements_again k n header more (code, is, inl (few, laid)) =
    let c = kind_again k code is in
    let less = c.less in
    let all = (16 * n + code) ∷ more in
    let low : (16 * n + code) % 16 ≡ code = omega arith in
    let high : (16 * n + code) / 16 ≡ n = omega arith in
    ap (λ l. elements_at (l ++ more)) laid ∙ elements_scan all k (omega arith) (ap kind_of low ∙ c.kind) ∙ few_scan all k n high few ∙ ap (λ l. Ok ((k, n), length l)) (sym laid)
elements_again k n header more (code, is, inr (number, size, laid)) =
    let c = kind_again k code is in
    let less = c.less in
    let all = (240 + code) ∷ (number ++ more) in
    let low : (240 + code) % 16 ≡ code = omega arith in
    let high : (240 + code) / 16 ≡ 15 = omega arith in
    let long : 1 + length number ≡ length ((240 + code) ∷ number) = omega arith in
    ap (λ l. elements_at (l ++ more)) laid ∙ elements_scan all k (omega arith) (ap kind_of low ∙ c.kind) ∙ many_scan all k n (length number) high (size_again n number more size)
    ∙ ap (λ s. Ok ((k, n), s)) long ∙ ap (λ l. Ok ((k, n), length l)) (sym laid)

pub list_again : (k : Kind) (n : ℕ) (header more : List ℕ) → IsElementsHeader k n header → list_at (header ++ more) ≡ Ok (list_begin k n, length header)
unfolding list_at
list_again k n header more h = rw (elements_again k n header more h) refl

pub set_again : (k : Kind) (n : ℕ) (header more : List ℕ) → IsElementsHeader k n header → set_at (header ++ more) ≡ Ok (set_begin k n, length header)
unfolding set_at
set_again k n header more h = rw (elements_again k n header more h) refl

kinds_scan : (bytes : List ℕ) (key value : Kind) → 1 ≤ length bytes → kind_of (slice_index bytes 0 / 16) ≡ Some key → kind_of (slice_index bytes 0 % 16) ≡ Some value → kinds_at bytes ≡ Ok ((key, value), 1)
unfolding kinds_at
kinds_scan bytes key value long a b = let t : nat_lt (length bytes) 1 ≡ false = grind (arith, nat_tests) in rw (t, a, b) refl

map_scan : (bytes : List ℕ) (key value : Kind) (n k : ℕ) → size_at bytes ≡ Ok (n, k) → 1 ≤ n → kinds_at (drop k bytes) ≡ Ok ((key, value), 1) → map_at bytes ≡ Ok (map_begin key value n, k + 1)
unfolding map_at
map_scan bytes key value n k is some e = let t : (n == 0) ≡ false = grind (arith, nat_tests) in rw (is, t, e) refl

pub map_again : (key value : Kind) (n : ℕ) (header more : List ℕ) → 1 ≤ n → IsPairsHeader key value n header → map_at (header ++ more) ≡ Ok (map_begin key value n, length header)
map_again key value n header more some (number, size, (a, b, is_a, is_b, laid)) =
    let x = kind_again key a is_a in
    let y = kind_again value b is_b in
    let less = y.less in
    let tail = (16 * a + b) ∷ more in
    let all = number ++ tail in
    let high : (16 * a + b) / 16 ≡ a = omega arith in
    let low : (16 * a + b) % 16 ≡ b = omega arith in
    let kinds = kinds_scan tail key value (omega arith) (ap kind_of high ∙ x.kind) (ap kind_of low ∙ y.kind) in
    let whole : length number + 1 ≡ length header = sym (length-append number ((16 * a + b) ∷ [])) ∙ ap length (sym laid) in
    ap (λ l. map_at (l ++ more)) laid ∙ ap map_at (append_assoc number ((16 * a + b) ∷ []) more)
    ∙ map_scan all key value n (length number) (size_again n number tail size) some (ap kinds_at (drop_front number tail) ∙ kinds)
    ∙ ap (λ k. Ok (map_begin key value n, k)) whole

none_scan : (bytes : List ℕ) (k : ℕ) → size_at bytes ≡ Ok (0, k) → map_at bytes ≡ Ok (empty_map, k)
unfolding map_at
none_scan bytes k is = rw is refl

pub no_map_again : (bytes more : List ℕ) → IsSize 0 bytes → map_at (bytes ++ more) ≡ Ok (empty_map, length bytes)
no_map_again bytes more h = none_scan (bytes ++ more) (length bytes) (size_again 0 bytes more h)

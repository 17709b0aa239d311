-- What one scan has read is spelled so.
use Rattle.std.proofs.Common.{◌≡◌, ℕ, ℤ, pos, negsuc, zero, suc, ◌+◌, ◌*◌, ◌/◌, ◌%◌, ◌<◌, ◌≤◌, ◌^◌, Bool, true, false, cond, List, [], ◌∷◌, ◌++◌, length, take, drop, get_or, Option, Some, None, Ok, Err, refl, ap, ◌∙◌, sym, subst, arith, ◌⊎◌, inl, inr, length-take, length-append, append_assoc}
use Rattle.std.specs.Prelude.{nat_lt, int_lt, ◌==◌, ◌+ℤ◌, Result, FitsSigned, slice_index}
use Rattle.std.proofs.lemmas.Bool.Decides.{nat_tests}
use Rattle.std.proofs.lemmas.List.{take-append-drop}
use Rattle.std.specs.Int.{w16, w32, w64}
use Rattle.varint_zigzag.specs.declared.fault.VarFault.{VarFault}
use Rattle.varint_zigzag.specs.declared.fault.VarFault.TheVariants.{Short, Bad}
use Rattle.varint_zigzag.specs.Varint.{Spells, varint_at}
use Rattle.varint_zigzag.specs.Zigzag.{folded, unfolded}
use Rattle.varint_zigzag.proofs.Meaning.{Means, meant}
use Rattle.thrift_value.specs.declared.kind.Kind.{Kind}
use Rattle.thrift_value.specs.declared.kind.Kind.TheVariants as kinds
use Rattle.thrift_value.specs.Items.{Item, field, empty_map, map_begin}
use Rattle.compact_protocol.specs.Codes.{kind_of, flag_code}
use Rattle.compact_protocol.specs.Scan.{Scan, shifted, ◌>>=◌, varint_of, varint16_at, varint32_at, varint64_at, id_at, size_at, string_at, next_id, short_field, long_field, field_of, flag_of, elements_of, elements_at, both_kinds, kinds_at, map_at}
use Rattle.compact_protocol.specs.Grammar.{IsSmall, IsWord, IsLong, IsSize, IsString, IsKind, IsFieldHeader, IsElementsHeader, IsPairsHeader}
use Rattle.gate_base.specs.Bytes.{AreBytes}
use Rattle.binary_laws.proofs.Heading.{drop_by}
use Rattle.binary_laws.proofs.Inverse.{either, is_read, same_value, same_size, no_fault, bytes_front}
use Rattle.binary_laws.proofs.Begun.{past, unless}

-- ---- the front of the bytes

-- these bytes are at the front
pub record Front (Spelled : List ℕ → Type 0) (bytes : List ℕ) (taken : ℕ) : Type 0 where
  pub front : List ℕ
  pub rest : List ℕ
  pub laid : bytes ≡ front ++ rest
  pub size : taken ≡ length front
  pub spells : Spelled front

pub turned : (P Q : List ℕ → Type 0) (bytes : List ℕ) (n taken : ℕ) → Front P bytes n → n ≡ taken → ((l : List ℕ) → P l → Q l) → Front Q bytes taken
turned P Q bytes n taken f e g = record { front = f.front; rest = f.rest; laid = f.laid; size = sym e ∙ f.size; spells = g f.front f.spells }

pub behind_front : (P : List ℕ → Type 0) (bytes : List ℕ) (taken : ℕ) (f : Front P bytes taken) → drop taken bytes ≡ f.rest
behind_front P bytes taken f = ap (drop taken) f.laid ∙ drop_by taken f.front f.rest f.size

pub rest_bytes : (P : List ℕ → Type 0) (bytes : List ℕ) (taken : ℕ) (f : Front P bytes taken) → AreBytes bytes → AreBytes f.rest
rest_bytes P bytes taken f are = (bytes_front f.front f.rest (subst AreBytes f.laid are)).1

-- ---- how scans are put together

pub then_read : {X Y : Type 0} → (scan : Scan X) (go : X × ℕ → Scan Y) (y : Y × ℕ) → (scan >>= go) ≡ Ok y → (x : X × ℕ) × (scan ≡ Ok x) × (go x ≡ Ok y)
then_read {X} {Y} (Ok x) go y e = (x, refl, e)
then_read {X} {Y} (Err f) go y e = absurd (no_fault f y e)

pub shift_read : {X : Type 0} → (n : ℕ) (scan : Scan X) (x : X) (taken : ℕ) → shifted n scan ≡ Ok (x, taken) → (m : ℕ) × (scan ≡ Ok (x, m)) × (taken ≡ n + m)
shift_read {X} n (Ok y) x taken e = (y.1, ap (λ v. Ok (v, y.1)) (same_value y.0 x (n + y.1) taken e), sym (same_size y.0 x (n + y.1) taken e))
shift_read {X} n (Err f) x taken e = absurd (no_fault _ (x, taken) e)

-- ---- numbers

pub bytes_small : (xs : List ℕ) → AreBytes xs → (i : ℕ) → get_or xs i 0 < 256
bytes_small [] h i = omega arith
bytes_small (x ∷ xs) h zero = h.0
bytes_small (x ∷ xs) h (suc i) = bytes_small xs h.1 i

varint_read : (most width : ℕ) (bytes : List ℕ) → AreBytes bytes → (n taken : ℕ) → varint_at most width bytes ≡ Ok (n, taken) → Front (λ l. Spells most width l n) bytes taken
varint_read most width bytes are n taken e =
    let m = subst (Means most width bytes) e (meant most width bytes (bytes_small bytes are)) in
    record { front = take taken bytes; rest = drop taken bytes; laid = sym (take-append-drop taken bytes); size = omega (arith, length-take taken bytes, m.0); spells = m.1 }

found_read : (size : ℕ) (found : Result (ℕ × ℕ) VarFault) (n taken : ℕ) → varint_of size found ≡ Ok (n, taken) → found ≡ Ok (n, taken)
found_read size (Ok x) n taken e = ap (λ v. Ok (v, x.1)) (same_value x.0 n x.1 taken e) ∙ ap (λ m. Ok (n, m)) (same_size x.0 n x.1 taken e)
found_read size (Err Short) n taken e = absurd (no_fault _ (n, taken) e)
found_read size (Err Bad) n taken e = absurd (no_fault _ (n, taken) e)

varint16_read : (bytes : List ℕ) → AreBytes bytes → (n taken : ℕ) → varint16_at bytes ≡ Ok (n, taken) → Front (λ l. Spells 5 16 l n) bytes taken
unfolding varint16_at
varint16_read bytes are n taken e = varint_read 5 16 bytes are n taken (found_read (length bytes) (varint_at 5 16 bytes) n taken e)

pub varint32_read : (bytes : List ℕ) → AreBytes bytes → (n taken : ℕ) → varint32_at bytes ≡ Ok (n, taken) → Front (λ l. Spells 5 32 l n) bytes taken
unfolding varint32_at
varint32_read bytes are n taken e = varint_read 5 32 bytes are n taken (found_read (length bytes) (varint_at 5 32 bytes) n taken e)

pub varint64_read : (bytes : List ℕ) → AreBytes bytes → (n taken : ℕ) → varint64_at bytes ≡ Ok (n, taken) → Front (λ l. Spells 10 64 l n) bytes taken
unfolding varint64_at
varint64_read bytes are n taken e = varint_read 10 64 bytes are n taken (found_read (length bytes) (varint_at 10 64 bytes) n taken e)

pub refold : (n : ℕ) → folded (unfolded n) ≡ n
refold n = by_half (n % 2 == 0) refl
  where
    by_half : (b : Bool) → (n % 2 == 0) ≡ b → folded (cond b (pos (n / 2)) (negsuc (n / 2))) ≡ n
    by_half true e = grind (arith, nat_tests, e)
    by_half false e = grind (arith, nat_tests, e)

fits_16 : (n : ℕ) → n < 2 ^ 16 → FitsSigned w16 (unfolded n)
fits_16 n h = grind (arith, nat_tests)

pub fits_32 : (n : ℕ) → n < 2 ^ 32 → FitsSigned w32 (unfolded n)
fits_32 n h = grind (arith, nat_tests)

pub fits_64 : (n : ℕ) → n < 2 ^ 64 → FitsSigned w64 (unfolded n)
fits_64 n h = grind (arith, nat_tests)

pub small_of : (n : ℕ) (l : List ℕ) → Spells 5 16 l n → IsSmall (unfolded n) l
small_of n l s = (fits_16 n s.fits, subst (λ m. Spells 5 16 l m) (sym (refold n)) s)

pub word_of : (n : ℕ) (l : List ℕ) → Spells 5 32 l n → IsWord (unfolded n) l
word_of n l s = (fits_32 n s.fits, subst (λ m. Spells 5 32 l m) (sym (refold n)) s)

pub long_of : (n : ℕ) (l : List ℕ) → Spells 10 64 l n → IsLong (unfolded n) l
long_of n l s = (fits_64 n s.fits, subst (λ m. Spells 10 64 l m) (sym (refold n)) s)

pub id_read : (bytes : List ℕ) → AreBytes bytes → (z : ℤ) (taken : ℕ) → id_at bytes ≡ Ok (z, taken) → Front (IsSmall z) bytes taken
unfolding id_at
id_read bytes are z taken e =
    let p = then_read (varint16_at bytes) (λ n. Ok (unfolded n.0, n.1)) (z, taken) e in
    let n = p.0 in
    let same = same_value (unfolded n.0) z n.1 taken p.2 in
    turned (λ l. Spells 5 16 l n.0) (IsSmall z) bytes n.1 taken (varint16_read bytes are n.0 n.1 p.1) (same_size (unfolded n.0) z n.1 taken p.2) (λ l s. subst (λ v. IsSmall v l) same (small_of n.0 l s))

pub size_read : (bytes : List ℕ) → AreBytes bytes → (n taken : ℕ) → size_at bytes ≡ Ok (n, taken) → Front (IsSize n) bytes taken
unfolding size_at
size_read bytes are n taken e =
    let p = then_read (varint32_at bytes) _ (n, taken) e in
    let x = p.0 in
    let k = unless _ (nat_lt x.0 2147483648) (is_read x) (n, taken) p.2 in
    let same = same_value x.0 n x.1 taken k.1 in
    let less : x.0 < 2 ^ 31 = let t = k.0 in grind (arith, nat_tests) in
    turned (λ l. Spells 5 32 l x.0) (IsSize n) bytes x.1 taken (varint32_read bytes are x.0 x.1 p.1) (same_size x.0 n x.1 taken k.1) (λ l s. subst (λ v. IsSize v l) same (less, s))

pub string_read : (bytes : List ℕ) → AreBytes bytes → (b : List ℕ) (taken : ℕ) → string_at bytes ≡ Ok (b, taken) → Front (IsString b) bytes taken
unfolding string_at
string_read bytes are b taken e =
    let p = then_read (size_at bytes) _ (b, taken) e in
    let n = p.0.0 in
    let k = p.0.1 in
    let h = past _ (nat_lt (length bytes) (k + n)) (is_read (take n (drop k bytes), k + n)) (b, taken) p.2 in
    let z = size_read bytes are n k p.1 in
    let text : take n z.rest ≡ b = ap (take n) (sym (behind_front (IsSize n) bytes k z)) ∙ same_value (take n (drop k bytes)) b (k + n) taken h.1 in
    let enough : k + n ≤ length bytes = let t = h.0 in grind (arith, nat_tests) in
    let whole : length bytes ≡ length z.front + length z.rest = ap length z.laid ∙ length-append z.front z.rest in
    let long : length b ≡ n = omega (arith, ap length text, length-take n z.rest, enough, whole, z.size) in
    let split : z.rest ≡ b ++ drop n z.rest = sym (take-append-drop n z.rest) ∙ ap (λ l. l ++ drop n z.rest) text in
    record {
      front = z.front ++ b;
      rest = drop n z.rest;
      laid = z.laid ∙ ap (λ l. z.front ++ l) split ∙ sym (append_assoc z.front b (drop n z.rest));
      size = omega (arith, same_size (take n (drop k bytes)) b (k + n) taken h.1, length-append z.front b, z.size, long);
      spells = (z.front, subst (λ m. IsSize m z.front) (sym long) z.spells, refl);
    }

-- ---- kinds

eq_of : (x n : ℕ) → (x == n) ≡ true → x ≡ n
eq_of x n e = grind (arith, nat_tests)

pub bool_is : (x : ℕ) → kind_of x ≡ Some kinds.Bool → x ≡ flag_code (x == 1)
bool_is x e = by_one (x == 1) refl
  where
    by_one : (b : Bool) → (x == 1) ≡ b → x ≡ flag_code b
    by_one true t = eq_of x 1 t
    by_one false t = grind (arith, nat_tests)

flag_kind : (x : ℕ) (b : Bool) → x ≡ flag_code b → (x ≡ 1) ⊎ (x ≡ 2)
flag_kind x true e = inl e
flag_kind x false e = inr e

pub kind_is : (x : ℕ) (k : Kind) → kind_of x ≡ Some k → IsKind k x
kind_is x kinds.Bool e = flag_kind x (x == 1) (bool_is x e)
kind_is x kinds.I8 e = grind (arith, nat_tests)
kind_is x kinds.I16 e = grind (arith, nat_tests)
kind_is x kinds.I32 e = grind (arith, nat_tests)
kind_is x kinds.I64 e = grind (arith, nat_tests)
kind_is x kinds.Double e = grind (arith, nat_tests)
kind_is x kinds.Str e = grind (arith, nat_tests)
kind_is x kinds.Struct e = grind (arith, nat_tests)
kind_is x kinds.Map e = grind (arith, nat_tests)
kind_is x kinds.Set e = grind (arith, nat_tests)
kind_is x kinds.List e = grind (arith, nat_tests)
kind_is x kinds.Uuid e = grind (arith, nat_tests)

-- ---- fields

-- a field's header, and what its byte tells whatever follows
pub record IsHead (last id : ℤ) (k : Kind) (front : List ℕ) : Type 0 where
  pub code : ℕ
  pub kind : kind_of code ≡ Some k
  pub header : IsFieldHeader last id code front
  pub told : (more : List ℕ) → flag_of (front ++ more) ≡ (code == 1)

flag_first : (x : ℕ) (more : List ℕ) → flag_of (x ∷ more) ≡ (x % 16 == 1)
unfolding flag_of
flag_first x more = refl

next_fits : (last : ℤ) (step : ℕ) → FitsSigned w16 last → int_lt (pos 32767) (last +ℤ pos step) ≡ false → FitsSigned w16 (last +ℤ pos step)
next_fits (pos n) step fits e = grind (arith, nat_tests)
next_fits (negsuc n) step fits e = grind (arith, nat_tests)

-- it is a field, with such a header
pub record FieldRead (last : ℤ) (bytes : List ℕ) (item : Item) (taken : ℕ) : Type 0 where
  pub id : ℤ
  pub kind : Kind
  pub is : field id kind ≡ item
  pub fits : FitsSigned w16 id
  pub head : Front (IsHead last id kind) bytes taken

short_read : (last : ℤ) (x : ℕ) (rest : List ℕ) (k : Kind) (item : Item) (taken : ℕ) → FitsSigned w16 last → x < 256 → kind_of (x % 16) ≡ Some k → (x / 16 == 0) ≡ false → short_field k (next_id last (x / 16)) ≡ Ok (item, taken) → FieldRead last (x ∷ rest) item taken
short_read last x rest k item taken fits small kind high e = by_next (int_lt (pos 32767) (last +ℤ pos (x / 16))) refl e
  where
    by_next : (b : Bool) → int_lt (pos 32767) (last +ℤ pos (x / 16)) ≡ b → short_field k (cond b None (Some (last +ℤ pos (x / 16)))) ≡ Ok (item, taken) → FieldRead last (x ∷ rest) item taken
    by_next true t h = absurd (no_fault _ (item, taken) h)
    by_next false t h =
        let step = x / 16 in
        let id = last +ℤ pos step in
        let good = next_fits last step fits t in
        let some : 1 ≤ step = grind (arith, nat_tests, high) in
        let whole : x ≡ 16 * (x / 16) + x % 16 = omega arith in
        record {
          id = id;
          kind = k;
          is = same_value (field id k) item 1 taken h;
          fits = good;
          head = record {
            front = x ∷ [];
            rest = rest;
            laid = refl;
            size = sym (same_size (field id k) item 1 taken h);
            spells = record {
              code = x % 16;
              kind = kind;
              header = inl (step, some, omega (arith, small), refl, good, ap (λ y. y ∷ []) whole);
              told = (λ more. flag_first x more);
            };
          };
        }

long_read : (last : ℤ) (x : ℕ) (rest : List ℕ) (k : Kind) (item : Item) (taken : ℕ) → AreBytes rest → kind_of (x % 16) ≡ Some k → (x / 16 == 0) ≡ true → long_field k (x ∷ rest) ≡ Ok (item, taken) → FieldRead last (x ∷ rest) item taken
unfolding long_field
long_read last x rest k item taken are kind high e =
    let p = then_read (shifted 1 (id_at rest)) (λ id. Ok (field id.0 k, id.1)) (item, taken) e in
    let id = p.0.0 in
    let s = shift_read 1 (id_at rest) id p.0.1 p.1 in
    let f = id_read rest are id s.0 s.1 in
    let whole : x ≡ x % 16 = let z = eq_of (x / 16) 0 high in omega (arith, z) in
    record {
      id = id;
      kind = k;
      is = same_value (field id k) item p.0.1 taken p.2;
      fits = f.spells.0;
      head = record {
        front = x ∷ f.front;
        rest = f.rest;
        laid = ap (λ l. x ∷ l) f.laid;
        size = omega (arith, same_size (field id k) item p.0.1 taken p.2, s.2, f.size);
        spells = record { code = x % 16; kind = kind; header = inr (f.front, f.spells, ap (λ y. y ∷ f.front) whole); told = (λ more. flag_first x (f.front ++ more)) };
      };
    }

pub field_read : (last : ℤ) (x : ℕ) (rest : List ℕ) (found : Option Kind) (item : Item) (taken : ℕ) → FitsSigned w16 last → AreBytes (x ∷ rest) → kind_of (x % 16) ≡ found → field_of last (x ∷ rest) found ≡ Ok (item, taken) → FieldRead last (x ∷ rest) item taken
field_read last x rest None item taken fits are kind e = absurd (no_fault _ (item, taken) e)
field_read last x rest (Some k) item taken fits are kind e = by_form (either (x / 16 == 0) (long_field k (x ∷ rest)) (short_field k (next_id last (x / 16))) (Ok (item, taken)) e)
  where
    by_form : ((x / 16 == 0) ≡ true) × (long_field k (x ∷ rest) ≡ Ok (item, taken)) ⊎ ((x / 16 == 0) ≡ false) × (short_field k (next_id last (x / 16)) ≡ Ok (item, taken)) → FieldRead last (x ∷ rest) item taken
    by_form (inl h) = long_read last x rest k item taken are.1 kind h.0 h.1
    by_form (inr h) = short_read last x rest k item taken fits are.0 kind h.0 h.1

-- ---- the headers of containers

abbrev counted : Kind × ℕ → ℕ → Scan (Kind × ℕ)
counted x taken = is_read (x, taken)

few_read : (x : ℕ) (rest : List ℕ) (found k : Kind) (n taken : ℕ) → kind_of (x % 16) ≡ Some found → nat_lt (x / 16) 15 ≡ true → counted (found, x / 16) 1 ≡ counted (k, n) taken → Front (IsElementsHeader k n) (x ∷ rest) taken
few_read x rest found k n taken kind few e =
    let both = same_value (found, x / 16) (k, n) 1 taken e in
    let same_kind : found ≡ k = ap (λ (p : Kind × ℕ). p.0) both in
    let same_count : x / 16 ≡ n = ap (λ (p : Kind × ℕ). p.1) both in
    let less : x / 16 < 15 = grind (arith, nat_tests, few) in
    let whole : x ≡ 16 * n + x % 16 = omega (arith, same_count) in
    record {
      front = x ∷ [];
      rest = rest;
      laid = refl;
      size = sym (same_size (found, x / 16) (k, n) 1 taken e);
      spells = (x % 16, subst (λ z. IsKind z (x % 16)) same_kind (kind_is (x % 16) found kind), inl (omega (arith, less, same_count), ap (λ y. y ∷ []) whole));
    }

many_read : (x : ℕ) (rest : List ℕ) (found k : Kind) (n taken : ℕ) → AreBytes (x ∷ rest) → kind_of (x % 16) ≡ Some found → nat_lt (x / 16) 15 ≡ false → (shifted 1 (size_at rest) >>= λ size. Ok ((found, size.0), size.1)) ≡ counted (k, n) taken → Front (IsElementsHeader k n) (x ∷ rest) taken
many_read x rest found k n taken are kind many e =
    let p = then_read (shifted 1 (size_at rest)) (λ size. Ok ((found, size.0), size.1)) ((k, n), taken) e in
    let m = p.0.0 in
    let both = same_value (found, m) (k, n) p.0.1 taken p.2 in
    let same_kind : found ≡ k = ap (λ (q : Kind × ℕ). q.0) both in
    let same_count : m ≡ n = ap (λ (q : Kind × ℕ). q.1) both in
    let s = shift_read 1 (size_at rest) m p.0.1 p.1 in
    let f = size_read rest are.1 m s.0 s.1 in
    let full : 15 ≤ x / 16 = grind (arith, nat_tests, many) in
    let whole : x ≡ 240 + x % 16 = omega (arith, are.0, full) in
    record {
      front = x ∷ f.front;
      rest = f.rest;
      laid = ap (λ l. x ∷ l) f.laid;
      size = omega (arith, same_size (found, m) (k, n) p.0.1 taken p.2, s.2, f.size);
      spells = (x % 16, subst (λ z. IsKind z (x % 16)) same_kind (kind_is (x % 16) found kind), inr (f.front, subst (λ z. IsSize z f.front) same_count f.spells, ap (λ y. y ∷ f.front) whole));
    }

elements_first : (l : List ℕ) → AreBytes l → (k : Kind) (n taken : ℕ) → nat_lt (length l) 1 ≡ false → (found : Option Kind) → kind_of (slice_index l 0 % 16) ≡ found → elements_of l found ≡ counted (k, n) taken → Front (IsElementsHeader k n) l taken
elements_first [] are k n taken long found is e = absurd (grind (arith, nat_tests))
elements_first (x ∷ rest) are k n taken long None is e = absurd (no_fault _ ((k, n), taken) e)
elements_first (x ∷ rest) are k n taken long (Some kind) is e = by_size (either (nat_lt (x / 16) 15) (counted (kind, x / 16) 1) (shifted 1 (size_at rest) >>= λ size. Ok ((kind, size.0), size.1)) (counted (k, n) taken) e)
  where
    by_size : ((nat_lt (x / 16) 15 ≡ true) × (counted (kind, x / 16) 1 ≡ counted (k, n) taken)) ⊎ ((nat_lt (x / 16) 15 ≡ false) × ((shifted 1 (size_at rest) >>= λ size. Ok ((kind, size.0), size.1)) ≡ counted (k, n) taken)) → Front (IsElementsHeader k n) (x ∷ rest) taken
    by_size (inl h) = few_read x rest kind k n taken is h.0 h.1
    by_size (inr h) = many_read x rest kind k n taken are is h.0 h.1

pub elements_read : (bytes : List ℕ) → AreBytes bytes → (k : Kind) (n taken : ℕ) → elements_at bytes ≡ Ok ((k, n), taken) → Front (IsElementsHeader k n) bytes taken
unfolding elements_at
elements_read bytes are k n taken e =
    let h = past _ (nat_lt (length bytes) 1) (elements_of bytes (kind_of (slice_index bytes 0 % 16))) ((k, n), taken) e in
    elements_first bytes are k n taken h.0 (kind_of (slice_index bytes 0 % 16)) refl h.1

-- one byte with two kinds
abbrev pub IsKinds : Kind → Kind → List ℕ → Type 0
IsKinds key value l = (a : ℕ) × (b : ℕ) × IsKind key a × IsKind value b × (l ≡ (16 * a + b) ∷ [])

abbrev paired : Kind × Kind → ℕ → Scan (Kind × Kind)
paired x taken = is_read (x, taken)

both_read : (x : ℕ) (rest : List ℕ) (one two : Option Kind) (key value : Kind) (taken : ℕ) → kind_of (x / 16) ≡ one → kind_of (x % 16) ≡ two → both_kinds one two ≡ paired (key, value) taken → Front (IsKinds key value) (x ∷ rest) taken
both_read x rest None two key value taken a b e = absurd (no_fault _ ((key, value), taken) e)
both_read x rest (Some k) None key value taken a b e = absurd (no_fault _ ((key, value), taken) e)
both_read x rest (Some k) (Some v) key value taken a b e =
    let both = same_value (k, v) (key, value) 1 taken e in
    let same_key : k ≡ key = ap (λ (p : Kind × Kind). p.0) both in
    let same_kind : v ≡ value = ap (λ (p : Kind × Kind). p.1) both in
    let whole : x ≡ 16 * (x / 16) + x % 16 = omega arith in
    record {
      front = x ∷ [];
      rest = rest;
      laid = refl;
      size = sym (same_size (k, v) (key, value) 1 taken e);
      spells = (x / 16, x % 16, subst (λ z. IsKind z (x / 16)) same_key (kind_is (x / 16) k a), subst (λ z. IsKind z (x % 16)) same_kind (kind_is (x % 16) v b), ap (λ y. y ∷ []) whole);
    }

kinds_first : (l : List ℕ) (key value : Kind) (taken : ℕ) → nat_lt (length l) 1 ≡ false → both_kinds (kind_of (slice_index l 0 / 16)) (kind_of (slice_index l 0 % 16)) ≡ paired (key, value) taken → Front (IsKinds key value) l taken
kinds_first [] key value taken long e = absurd (grind (arith, nat_tests))
kinds_first (x ∷ rest) key value taken long e = both_read x rest (kind_of (x / 16)) (kind_of (x % 16)) key value taken refl refl e

pub kinds_read : (bytes : List ℕ) (key value : Kind) (taken : ℕ) → kinds_at bytes ≡ Ok ((key, value), taken) → Front (IsKinds key value) bytes taken
unfolding kinds_at
kinds_read bytes key value taken e =
    let h = past _ (nat_lt (length bytes) 1) (both_kinds (kind_of (slice_index bytes 0 / 16)) (kind_of (slice_index bytes 0 % 16))) ((key, value), taken) e in
    kinds_first bytes key value taken h.0 h.1

-- a map with no pairs, or with some
abbrev pub MapRead : List ℕ → Item → ℕ → Type 0
MapRead bytes item taken =
    ((empty_map ≡ item) × Front (IsSize 0) bytes taken)
    ⊎ ((key : Kind) × (value : Kind) × (n : ℕ) × (map_begin key value n ≡ item) × (1 ≤ n) × (n < 2 ^ 31) × Front (IsPairsHeader key value n) bytes taken)

pairs_read : (bytes : List ℕ) (item : Item) (taken n k : ℕ) → Front (IsSize n) bytes k → (n == 0) ≡ false → (shifted k (kinds_at (drop k bytes)) >>= λ x. Ok (map_begin x.0.0 x.0.1 n, x.1)) ≡ Ok (item, taken) → MapRead bytes item taken
pairs_read bytes item taken n k z some e =
    let p = then_read (shifted k (kinds_at (drop k bytes))) (λ x. Ok (map_begin x.0.0 x.0.1 n, x.1)) (item, taken) e in
    let key = p.0.0.0 in
    let value = p.0.0.1 in
    let s = shift_read k (kinds_at (drop k bytes)) (key, value) p.0.1 p.1 in
    let f = kinds_read z.rest key value s.0 (ap kinds_at (sym (behind_front (IsSize n) bytes k z)) ∙ s.1) in
    let least : 1 ≤ n = grind (arith, nat_tests, some) in
    let laid = f.spells.4 in
    inr (
      key,
      value,
      n,
      same_value (map_begin key value n) item p.0.1 taken p.2,
      least,
      z.spells.0,
      record {
        front = z.front ++ f.front;
        rest = f.rest;
        laid = z.laid ∙ ap (λ l. z.front ++ l) f.laid ∙ sym (append_assoc z.front f.front f.rest);
        size = omega (arith, same_size (map_begin key value n) item p.0.1 taken p.2, s.2, f.size, z.size, length-append z.front f.front);
        spells = (z.front, z.spells, (f.spells.0, f.spells.1, f.spells.2, f.spells.3, ap (λ l. z.front ++ l) laid));
      },
    )

pub map_read : (bytes : List ℕ) → AreBytes bytes → (item : Item) (taken : ℕ) → map_at bytes ≡ Ok (item, taken) → MapRead bytes item taken
unfolding map_at
map_read bytes are item taken e =
    let p = then_read (size_at bytes) _ (item, taken) e in
    let n = p.0.0 in
    let k = p.0.1 in
    by_none n k (size_read bytes are n k p.1) (either (n == 0) (is_read (empty_map, k)) (shifted k (kinds_at (drop k bytes)) >>= λ x. Ok (map_begin x.0.0 x.0.1 n, x.1)) (Ok (item, taken)) p.2)
  where
    by_none : (n k : ℕ) → Front (IsSize n) bytes k → ((n == 0) ≡ true) × (is_read (empty_map, k) ≡ Ok (item, taken)) ⊎ ((n == 0) ≡ false) × ((shifted k (kinds_at (drop k bytes)) >>= λ x. Ok (map_begin x.0.0 x.0.1 n, x.1)) ≡ Ok (item, taken)) → MapRead bytes item taken
    by_none n k z (inl h) = inl (same_value empty_map item k taken h.1, turned (IsSize n) (IsSize 0) bytes k taken z (same_size empty_map item k taken h.1) (λ l s. subst (λ m. IsSize m l) (eq_of n 0 h.0) s))
    by_none n k z (inr h) = pairs_read bytes item taken n k z h.0 h.1

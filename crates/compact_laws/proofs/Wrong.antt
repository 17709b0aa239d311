-- Where a part is called for and what begins there is none of it, the scan of the item tells that fault there.
use Rattle.std.proofs.Common.{◌≡◌, ℕ, ℤ, pos, ◌+◌, ◌/◌, ◌%◌, ◌≤◌, ◌^◌, Bool, true, false, List, [], ◌∷◌, ◌++◌, length, take, drop, Option, Some, None, Ok, Err, refl, ap, ◌∙◌, sym, subst, arith, ◌⊎◌, inl, inr}
use Rattle.std.specs.Prelude.{nat_lt, int_lt, ◌==◌, ◌+ℤ◌, Result, slice_index, T}
use Rattle.std.proofs.lemmas.Bool.Decides.{nat_tests}
use Rattle.std.proofs.lemmas.List.{append-nil, take-append-drop}
use Rattle.varint_zigzag.specs.declared.fault.VarFault.{VarFault}
use Rattle.varint_zigzag.specs.declared.fault.VarFault.TheVariants.{Short, Bad}
use Rattle.varint_zigzag.specs.Varint.{Spells, BeginsNone, varint_at}
use Rattle.varint_zigzag.proofs.Meaning.{Means, meant}
use Rattle.thrift_value.specs.declared.kind.Kind.{Kind}
use Rattle.thrift_value.specs.declared.kind.Kind.TheVariants as kinds
use Rattle.protocol_traits.specs.declared.fault.Reason.{Reason}
use Rattle.protocol_traits.specs.declared.fault.Reason.TheVariants as reasons
use Rattle.compact_protocol.specs.Codes.{kind_of}
use Rattle.compact_protocol.specs.Scan.{Scan, fault, varint_of, varint16_at, varint32_at, varint64_at, id_at, size_at, string_at, long_field, field_of, field_at, bool_at, i16_at, i32_at, i64_at, text_at, elements_of, elements_at, set_at, list_at, both_kinds, kinds_at, map_at, value_at}
use Rattle.gate_base.specs.Bytes.{AreBytes}
use Rattle.binary_laws.proofs.Heading.{drop_front}
use Rattle.compact_laws.specs.Called.{Part, field_byte, bool_byte, elements_byte, kinds_byte, varint_part, size_part, FieldCalls, ElementsCall, PairsCall, LevelCalls, ValueCalls}
use Rattle.compact_laws.specs.Faulty.{IsFaulty}
use Rattle.compact_laws.proofs.Inverse.{bytes_small}
use Rattle.compact_laws.proofs.Leaves.{varint32_again, size_again, kind_again, field_scan, elements_scan}

-- ---- numbers

take_all : (l : List ℕ) → take (length l) l ≡ l
take_all [] = refl
take_all (x ∷ l) = ap (λ k. x ∷ k) (take_all l)

varint_bad : (most width : ℕ) (l : List ℕ) → AreBytes l → BeginsNone most width l → varint_at most width l ≡ Err Bad
varint_bad most width l are n = by_found (varint_at most width l) (meant most width l (bytes_small l are))
  where
    by_found : (found : Result (ℕ × ℕ) VarFault) → Means most width l found → found ≡ Err Bad
    by_found (Ok x) m = absurd (n.none [] x.1 x.0 (subst (λ k. Spells most width (take x.1 k) x.0) (sym (append-nil l)) m.1))
    by_found (Err Short) m = let all = l ++ m.byte ∷ m.more in absurd (n.none (m.byte ∷ m.more) (length all) m.number (subst (λ k. Spells most width k m.number) (sym (take_all all)) m.spelled))
    by_found (Err Bad) m = refl

module _ (l : List ℕ) (are : AreBytes l) where
  varint16_bad : BeginsNone 5 16 l → varint16_at l ≡ fault 0 reasons.BadVarint
  unfolding varint16_at
  varint16_bad n = ap (varint_of (length l)) (varint_bad 5 16 l are n)

  pub varint32_bad : BeginsNone 5 32 l → varint32_at l ≡ fault 0 reasons.BadVarint
  unfolding varint32_at
  varint32_bad n = ap (varint_of (length l)) (varint_bad 5 32 l are n)

  varint64_bad : BeginsNone 10 64 l → varint64_at l ≡ fault 0 reasons.BadVarint
  unfolding varint64_at
  varint64_bad n = ap (varint_of (length l)) (varint_bad 10 64 l are n)

  id_bad : (r : Reason) → IsFaulty (varint_part 5 16) r l → id_at l ≡ fault 0 r
  unfolding id_at
  id_bad reasons.BadVarint n = rw (varint16_bad n) refl
  id_bad r n = absurd n

  large_scan : (n k : ℕ) → varint32_at l ≡ Ok (n, k) → 2 ^ 31 ≤ n → size_at l ≡ fault 0 reasons.BadSize
  unfolding size_at
  large_scan n k e big = let t : nat_lt n 2147483648 ≡ false = grind (arith, nat_tests, big) in rw (e, t) refl

  size_bad : (r : Reason) → IsFaulty size_part r l → size_at l ≡ fault 0 r
  unfolding size_at
  size_bad reasons.BadVarint n = rw (varint32_bad n) refl
  size_bad reasons.BadSize (n, s, big) = large_scan n (length (take _ l)) (ap varint32_at (sym (take-append-drop _ l)) ∙ varint32_again n (take _ l) (drop _ l) s) big
  size_bad r n = absurd n

  pub string_bad : (r : Reason) → IsFaulty size_part r l → string_at l ≡ fault 0 r
  unfolding string_at
  string_bad r n = rw (size_bad r n) refl

  -- ---- values

  text_bad : (r : Reason) → IsFaulty size_part r l → text_at l ≡ fault 0 r
  unfolding text_at
  text_bad r n = rw (string_bad r n) refl

  i16_bad : (r : Reason) → IsFaulty (varint_part 5 16) r l → i16_at l ≡ fault 0 r
  unfolding i16_at
  i16_bad r n = rw (id_bad r n) refl

  i32_bad : (r : Reason) → IsFaulty (varint_part 5 32) r l → i32_at l ≡ fault 0 r
  unfolding i32_at
  i32_bad reasons.BadVarint n = rw (varint32_bad n) refl
  i32_bad r n = absurd n

  i64_bad : (r : Reason) → IsFaulty (varint_part 10 64) r l → i64_at l ≡ fault 0 r
  unfolding i64_at
  i64_bad reasons.BadVarint n = rw (varint64_bad n) refl
  i64_bad r n = absurd n

  module _ (some : 1 ≤ length l) where
    long : nat_lt (length l) 1 ≡ false
    long = grind (arith, nat_tests)

    bool_bad : (r : Reason) → IsFaulty bool_byte r l → bool_at l ≡ fault 0 r
    unfolding bool_at
    bool_bad reasons.BadBool above =
        let a : (slice_index l 0 == 1) ≡ false = grind (arith, nat_tests) in
        let b : (slice_index l 0 == 2) ≡ false = grind (arith, nat_tests) in
        let c : (slice_index l 0 == 0) ≡ false = grind (arith, nat_tests) in
        rw (long, a, b, c) refl
    bool_bad r n = absurd n

    element_bad : (r : Reason) → IsFaulty elements_byte r l → elements_at l ≡ fault 0 r
    unfolding elements_at
    element_bad reasons.BadKind e = rw (long, e) refl
    element_bad r n = absurd n

    both_none : (key value : Option Kind) → (key ≡ None) ⊎ (value ≡ None) → both_kinds key value ≡ fault 0 reasons.BadKind
    both_none None value e = refl
    both_none (Some key) None e = refl
    both_none (Some key) (Some value) (inl e) = absurd (cc)
    both_none (Some key) (Some value) (inr e) = absurd (cc)

    kinds_bad : (r : Reason) → IsFaulty kinds_byte r l → kinds_at l ≡ fault 0 r
    unfolding kinds_at
    kinds_bad reasons.BadKind e = rw long (both_none (kind_of (slice_index l 0 / 16)) (kind_of (slice_index l 0 % 16)) e)
    kinds_bad r n = absurd n

    first_bad : (r : Reason) → IsFaulty size_part r l → map_at l ≡ fault 0 r
    unfolding map_at
    first_bad r n = rw (size_bad r n) refl

    is_so : (t : Bool) → T t → t ≡ true
    is_so true h = refl
    is_so false h = absurd h

    field_bad : (last : ℤ) (r : Reason) → IsFaulty (field_byte last) r l → field_at last l ≡ fault 0 r
    unfolding field_at
    field_bad last reasons.BadKind (differs, e) = let t : (slice_index l 0 == 0) ≡ false = grind (arith, nat_tests) in rw (long, t, e) refl
    field_bad last reasons.BadId (high, (k, e), past) =
        let t : (slice_index l 0 == 0) ≡ false = grind (arith, nat_tests) in
        let u : (slice_index l 0 / 16 == 0) ≡ false = grind (arith, nat_tests) in
        let v : int_lt (pos 32767) (last +ℤ pos (slice_index l 0 / 16)) ≡ true = is_so _ past.lt in
        rw (long, t, e, u, v) refl
    field_bad last r n = absurd n

-- ---- behind what stands already

-- where nothing stands before the part
from_only : {X : Type 0} → (scan : List ℕ → Scan X) (it part : Part) (begun rest : List ℕ) (r : Reason) → begun ≡ [] → part ≡ it → IsFaulty part r rest → (IsFaulty it r rest → scan rest ≡ fault 0 r) → scan (begun ++ rest) ≡ fault (length begun) r
from_only {X} scan it part begun rest r none is bad h = ap (λ b. scan (b ++ rest)) none ∙ h (subst (λ p. IsFaulty p r rest) is bad) ∙ ap (λ b. fault (length b) r) (sym none)

long_id_bad : (last : ℤ) (k : Kind) (l : List ℕ) (r : Reason) → slice_index l 0 / 16 ≡ 0 → id_at (drop 1 l) ≡ fault 0 r → field_of last l (Some k) ≡ fault 1 r
unfolding long_field
long_id_bad last k l r high e = rw (high, e) refl

many_bad : (l : List ℕ) (k : Kind) (r : Reason) → slice_index l 0 / 16 ≡ 15 → size_at (drop 1 l) ≡ fault 0 r → elements_of l (Some k) ≡ fault 1 r
many_bad l k r high e = rw (high, e) refl

pairs_bad : (l rest : List ℕ) (n k : ℕ) (r : Reason) → size_at l ≡ Ok (n, k) → 1 ≤ n → drop k l ≡ rest → kinds_at rest ≡ fault 0 r → map_at l ≡ fault (k + 0) r
unfolding map_at
pairs_bad l rest n k r is some behind e = let t : (n == 0) ≡ false = grind (arith, nat_tests) in rw (is, t, behind, e) refl

module _ (begun rest : List ℕ) (part : Part) (r : Reason) (are : AreBytes rest) (some : 1 ≤ length rest) (bad : IsFaulty part r rest) where
  pub fields_wrong : (last : ℤ) → FieldCalls last begun part → field_at last (begun ++ rest) ≡ fault (length begun) r
  fields_wrong last (inl (none, is)) = from_only (field_at last) (field_byte last) part begun rest r none is bad (field_bad rest are some last r)
  fields_wrong last (inr (k, code, kind, laid, is)) =
      let c = kind_again k code kind in
      let less = c.less in
      let one = c.some in
      let low : code % 16 ≡ code = omega arith in
      let high : code / 16 ≡ 0 = omega arith in
      let all = code ∷ rest in
      ap (λ b. field_at last (b ++ rest)) laid ∙ field_scan last all k (omega arith) (omega arith) (ap kind_of low ∙ c.kind) ∙ long_id_bad last k all r high (id_bad rest are r (subst (λ p. IsFaulty p r rest) is bad)) ∙ ap (λ b. fault (length b) r) (sym laid)

  elements_wrong : ElementsCall begun part → elements_at (begun ++ rest) ≡ fault (length begun) r
  elements_wrong (inl (none, is)) = from_only elements_at elements_byte part begun rest r none is bad (element_bad rest are some r)
  elements_wrong (inr (k, code, kind, laid, is)) =
      let c = kind_again k code kind in
      let less = c.less in
      let low : (240 + code) % 16 ≡ code = omega arith in
      let high : (240 + code) / 16 ≡ 15 = omega arith in
      let all = (240 + code) ∷ rest in
      ap (λ b. elements_at (b ++ rest)) laid ∙ elements_scan all k (omega arith) (ap kind_of low ∙ c.kind) ∙ many_bad all k r high (size_bad rest are r (subst (λ p. IsFaulty p r rest) is bad)) ∙ ap (λ b. fault (length b) r) (sym laid)

  pairs_wrong : PairsCall begun part → map_at (begun ++ rest) ≡ fault (length begun) r
  pairs_wrong (inl (none, is)) = from_only map_at size_part part begun rest r none is bad (first_bad rest are some r)
  pairs_wrong (inr (n, one, size, is)) =
      let same : length begun + 0 ≡ length begun = omega arith in
      pairs_bad (begun ++ rest) rest n (length begun) r (size_again n begun rest size) one (drop_front begun rest) (kinds_bad rest are some r (subst (λ p. IsFaulty p r rest) is bad)) ∙ ap (λ k. fault k r) same

  no_level : {X : Type 0} → (d : ℕ) → LevelCalls d begun part → X
  no_level {X} d (deep, none, is) = absurd (subst (λ p. IsFaulty p r rest) is bad)

  set_wrong : ElementsCall begun part → set_at (begun ++ rest) ≡ fault (length begun) r
  unfolding set_at
  set_wrong c = rw (elements_wrong c) refl

  list_wrong : ElementsCall begun part → list_at (begun ++ rest) ≡ fault (length begun) r
  unfolding list_at
  list_wrong c = rw (elements_wrong c) refl

  pub value_wrong : (d : ℕ) (k : Kind) → ValueCalls d k begun part → value_at k (begun ++ rest) ≡ fault (length begun) r
  unfolding value_at
  value_wrong d kinds.Bool (none, is) = from_only bool_at bool_byte part begun rest r none is bad (bool_bad rest are some r)
  value_wrong d kinds.I8 c = absurd c
  value_wrong d kinds.I16 (none, is) = from_only i16_at (varint_part 5 16) part begun rest r none is bad (i16_bad rest are r)
  value_wrong d kinds.I32 (none, is) = from_only i32_at (varint_part 5 32) part begun rest r none is bad (i32_bad rest are r)
  value_wrong d kinds.I64 (none, is) = from_only i64_at (varint_part 10 64) part begun rest r none is bad (i64_bad rest are r)
  value_wrong d kinds.Double c = absurd c
  value_wrong d kinds.Uuid c = absurd c
  value_wrong d kinds.Str (none, is) = from_only text_at size_part part begun rest r none is bad (text_bad rest are r)
  value_wrong d kinds.Struct c = no_level d c
  value_wrong d kinds.Map (inl c) = no_level d c
  value_wrong d kinds.Map (inr c) = pairs_wrong c
  value_wrong d kinds.Set (inl c) = no_level d c
  value_wrong d kinds.Set (inr c) = set_wrong c
  value_wrong d kinds.List (inl c) = no_level d c
  value_wrong d kinds.List (inr c) = list_wrong c

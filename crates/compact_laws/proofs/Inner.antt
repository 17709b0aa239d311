-- No part is called for inside another, and one with which the frame begins no message is refused.
use Rattle.std.proofs.Common.{◌≡◌, ℕ, zero, suc, ◌+◌, ◌-◌, ◌<◌, ◌≤◌, Bool, true, false, List, [], ◌∷◌, ◌++◌, length, take, drop, refl, ap, ◌∙◌, sym, subst, arith, ◌⊎◌, inl, inr, length-append, length-take-le, length-drop, take-take, take-append-drop, drop_at}
use Rattle.std.specs.Prelude.{⊤, nat_lt, nat_le, if◌then◌else◌}
use Rattle.std.proofs.lemmas.Bool.Decides.{nat_tests}
use Rattle.std.proofs.lemmas.List.{append-nil, take-append-le, drop-append-le, drop-take}
use Rattle.varint_zigzag.specs.Varint.{IsVarint, Spells, BeginsNone}
use Rattle.thrift_value.specs.declared.kind.Kind.{Kind}
use Rattle.thrift_value.specs.declared.kind.Kind.TheVariants as kinds
use Rattle.protocol_traits.specs.declared.nest.Slot.{Slot}
use Rattle.protocol_traits.specs.declared.nest.Slot.TheVariants as slots
use Rattle.protocol_traits.specs.declared.fault.Fault.{Fault}
use Rattle.protocol_traits.specs.declared.fault.Reason.{Reason}
use Rattle.protocol_traits.specs.declared.fault.Reason.TheVariants as reasons
use Rattle.compact_protocol.specs.Grammar.{CompactSpells}
use Rattle.gate_base.specs.Bytes.{AreBytes}
use Rattle.binary_laws.proofs.Closing.{bytes_join}
use Rattle.binary_laws.proofs.Inverse.{bytes_front}
use Rattle.binary_laws.proofs.OneFault.{same_fault}
use Rattle.binary_laws.proofs.Placed.{short_take}
use Rattle.compact_laws.specs.Called.{Part, protocol_byte, version_byte, field_byte, bool_byte, elements_byte, kinds_byte, varint_part, size_part, level_part, HeaderCalls, ElementsCall, ValueCalls, ItemCalls, BodyCalls, IsCalled}
use Rattle.compact_laws.specs.Extent.{varint_end, part_end}
use Rattle.compact_laws.specs.Faulty.{IsFaulty}
use Rattle.compact_laws.specs.Faults.{IsWhole, with_part, IsShallow, StandsAt, FaultAt, IsRefusedAt, HasNone}
use Rattle.compact_laws.specs.Refused.{IsViable, IsRefused}
use Rattle.compact_laws.proofs.Either.{one_fault}
use Rattle.compact_laws.proofs.Deep.{not_viable}
use Rattle.compact_laws.proofs.Placed.{Decided, is_truncated}
use Rattle.compact_laws.proofs.Staying.{refused_stays}
use Rattle.compact_laws.proofs.Viable.{cut_viable}
use Rattle.compact_laws.proofs.Faults.{no_faulty_depth, deep_first, ItemAt, item_refuses, judged, refuses, viable_front, before}

-- ---- varints that go on

-- a byte follows each of these
abbrev AllGoOn : List ℕ → Type 0
AllGoOn [] = ⊤
AllGoOn (b ∷ l) = (128 ≤ b) × AllGoOn l

higher : (b : ℕ) (v : List ℕ) (n : ℕ) → 128 ≤ b → IsVarint (b ∷ v) n → (high : ℕ) × IsVarint v high
higher b [] n big is = let low = is.0 in absurd (omega (arith, low, big))
higher b (c ∷ v) n big is = (is.2, is.4)

none_left : (b : ℕ) (v : List ℕ) (n : ℕ) → b < 128 → IsVarint (b ∷ v) n → v ≡ []
none_left b [] n low is = refl
none_left b (c ∷ v) n low is = let big = is.0 in absurd (omega (arith, low, big))

no_bytes : (v : List ℕ) (n : ℕ) → length v ≤ 0 → IsVarint v n → ⊥
no_bytes [] n none is = is
no_bytes (b ∷ v) n none is = absurd (omega (arith, none))

none_ends : (most : ℕ) (l more : List ℕ) (len n : ℕ) → AllGoOn l → most ≤ length l → length (take len (l ++ more)) ≤ most → IsVarint (take len (l ++ more)) n → ⊥
none_ends most [] more len n on long within is = no_bytes (take len more) n (omega (arith, long, within)) is
none_ends most (b ∷ l) more zero n on long within is = is
none_ends zero (b ∷ l) more (suc len) n on long within is = absurd (omega (arith, within))
none_ends (suc most) (b ∷ l) more (suc len) n on long within is =
    let h = higher b (take len (l ++ more)) n on.0 is in
    none_ends most l more len h.0 on.1 (omega (arith, long)) (omega (arith, within)) h.1

goes_on : (most width : ℕ) (l : List ℕ) → AllGoOn l → most ≤ length l → BeginsNone most width l
goes_on most width l on long = record { none = λ more len n s. none_ends most l more len n on long s.within s.form }

-- so many bytes that end no varint and are none of any other part
abbrev filler : ℕ → List ℕ
filler zero = []
filler (suc n) = 255 ∷ filler n

filler_on : (n : ℕ) → AllGoOn (filler n)
filler_on zero = tt
filler_on (suc n) = (omega arith, filler_on n)

filler_are : (n : ℕ) → AreBytes (filler n)
filler_are zero = tt
filler_are (suc n) = (omega arith, filler_are n)

filler_long : (n : ℕ) → length (filler n) ≡ n
filler_long zero = refl
filler_long (suc n) = ap (λ k. suc k) (filler_long n)

join_on : (xs ys : List ℕ) → AllGoOn xs → AllGoOn ys → AllGoOn (xs ++ ys)
join_on [] ys p q = q
join_on (x ∷ xs) ys p q = (p.0, join_on xs ys p.1 q)

-- inside a varint each byte goes on
before_end : (most : ℕ) (l : List ℕ) (j : ℕ) → j < varint_end most l → AllGoOn (take j l)
before_end zero l j less = absurd (omega (arith, less))
before_end (suc most) [] j less = absurd (omega (arith, less))
before_end (suc most) (b ∷ l) zero less = tt
before_end (suc most) (b ∷ l) (suc j) less = by_test (λ h. before_end most l j h) (nat_lt b 128) refl less
  where
    by_test : (j < varint_end most l → AllGoOn (take j l)) → (t : Bool) → nat_lt b 128 ≡ t → suc j < (if t then 1 else suc (varint_end most l)) → (128 ≤ b) × AllGoOn (take j l)
    by_test rest true e h = absurd (omega (arith, h))
    by_test rest false e h = (grind (arith, nat_tests), rest (omega (arith, h)))

-- ---- a varint through its end

-- where such a front of them is a number, it is one of all that they go on with
abbrev IsThrough : ℕ → List ℕ → List ℕ → List ℕ → ℕ → ℕ → Type 0
IsThrough most l front more len n =
    IsVarint (take len (front ++ more)) n → length (take len (front ++ more)) ≤ most → (long : ℕ) × (others : List ℕ) × (take len (front ++ more) ≡ take long (l ++ others))

through_end : (most : ℕ) (l more : List ℕ) (len n : ℕ) → IsThrough most l (take (varint_end most l) l) more len n
through_end zero l more len n = λ is within. absurd (no_bytes _ n within is)
through_end (suc most) [] more len n = λ is within. (len, more, refl)
through_end (suc most) (b ∷ l) more len n = by_test (λ k high. through_end most l more k high) (nat_lt b 128) refl len
  where
    by_test : ((k high : ℕ) → IsThrough most l (take (varint_end most l) l) more k high) → (t : Bool) → nat_lt b 128 ≡ t → (k : ℕ) → IsThrough (suc most) (b ∷ l) (take (if t then 1 else suc (varint_end most l)) (b ∷ l)) more k n
    by_test on true e zero = λ is within. absurd is
    by_test on true e (suc k) = λ is within. (1, [], ap (λ v. b ∷ v) (none_left b (take k more) n (grind (arith, nat_tests)) is))
    by_test on false e zero = λ is within. absurd is
    by_test on false e (suc k) = λ is within.
        let h = higher b (take k (take (varint_end most l) l ++ more)) n (grind (arith, nat_tests)) is in
        let rest = on k h.0 h.1 (omega (arith, within)) in
        (suc rest.0, rest.1, ap (λ v. b ∷ v) rest.2)

none_through : (most width : ℕ) (l : List ℕ) → BeginsNone most width l → BeginsNone most width (take (varint_end most l) l)
none_through most width l b = record {
  none = λ more len n s.
      let t = through_end most l more len n s.form s.within in
      b.none t.1 t.0 n (subst (λ v. Spells most width v n) t.2 s);
}

end_again : (most : ℕ) (l : List ℕ) → take (varint_end most (take (varint_end most l) l)) (take (varint_end most l) l) ≡ take (varint_end most l) l
end_again zero l = refl
end_again (suc most) [] = refl
end_again (suc most) (b ∷ l) = by_test (end_again most l) (nat_lt b 128) refl
  where
    by_test : take (varint_end most (take (varint_end most l) l)) (take (varint_end most l) l) ≡ take (varint_end most l) l → (t : Bool) → nat_lt b 128 ≡ t
        → take (varint_end (suc most) (take (if t then 1 else suc (varint_end most l)) (b ∷ l))) (take (if t then 1 else suc (varint_end most l)) (b ∷ l)) ≡ take (if t then 1 else suc (varint_end most l)) (b ∷ l)
    by_test again true e = rw e refl
    by_test again false e = rw e (ap (λ v. b ∷ v) again)

-- what is none of a part is so by the bytes through its end
still_faulty : (part : Part) (r : Reason) (b : ℕ) (k : List ℕ) → IsFaulty part r (b ∷ k) → IsFaulty part r (take (part_end part (b ∷ k)) (b ∷ k))
still_faulty protocol_byte reasons.BadVersion b k bad = bad
still_faulty protocol_byte r b k bad = absurd bad
still_faulty version_byte reasons.BadVersion b k bad = bad
still_faulty version_byte reasons.BadType b k bad = bad
still_faulty version_byte r b k bad = absurd bad
still_faulty (field_byte last) reasons.BadKind b k bad = bad
still_faulty (field_byte last) reasons.BadId b k bad = bad
still_faulty (field_byte last) r b k bad = absurd bad
still_faulty bool_byte reasons.BadBool b k bad = bad
still_faulty bool_byte r b k bad = absurd bad
still_faulty elements_byte reasons.BadKind b k bad = bad
still_faulty elements_byte r b k bad = absurd bad
still_faulty kinds_byte reasons.BadKind b k bad = bad
still_faulty kinds_byte r b k bad = absurd bad
still_faulty (varint_part most width) reasons.BadVarint b k bad = none_through most width (b ∷ k) bad
still_faulty (varint_part most width) r b k bad = absurd bad
still_faulty size_part reasons.BadVarint b k bad = none_through 5 32 (b ∷ k) bad
still_faulty size_part reasons.BadSize b k bad = (bad.0, subst (λ v. Spells 5 32 v bad.0) (sym (end_again 5 (b ∷ k))) bad.1, bad.2)
still_faulty size_part r b k bad = absurd bad
still_faulty level_part r b k bad = absurd bad

no_faulty_cut : (part : Part) (l : List ℕ) → IsFaulty part reasons.Truncated l → ⊥
no_faulty_cut protocol_byte l bad = bad
no_faulty_cut version_byte l bad = bad
no_faulty_cut (field_byte last) l bad = bad
no_faulty_cut bool_byte l bad = bad
no_faulty_cut elements_byte l bad = bad
no_faulty_cut kinds_byte l bad = bad
no_faulty_cut (varint_part most width) l bad = bad
no_faulty_cut size_part l bad = bad
no_faulty_cut level_part l bad = bad

-- ---- parts that are called for

abbrev CallsBehind : Part → List ℕ → Type 0
CallsBehind part front = (IsViable front × HeaderCalls front part) ⊎ BodyCalls front part

called_viable : (part : Part) (front : List ℕ) → CallsBehind part front → IsViable front
called_viable part front (inl c) = c.0
called_viable part front (inr b) = (b.more, b.message, b.spells)

-- a varint that is called for has a byte at least
abbrev HasBytes : Part → Type 0
HasBytes (varint_part most width) = 1 ≤ most
HasBytes part = ⊤

module _ (begun : List ℕ) (part : Part) where
  with_bytes : (p : Part) → HasBytes p → part ≡ p → HasBytes part
  with_bytes p has e = subst HasBytes (sym e) has

  elements_has : ElementsCall begun part → HasBytes part
  elements_has (inl (none, e)) = with_bytes elements_byte tt e
  elements_has (inr (kind, code, is, laid, e)) = with_bytes size_part tt e

  value_has : (d : ℕ) (k : Kind) → ValueCalls d k begun part → HasBytes part
  value_has d kinds.Bool (none, e) = with_bytes bool_byte tt e
  value_has d kinds.I8 c = absurd c
  value_has d kinds.I16 (none, e) = with_bytes (varint_part 5 16) (omega arith) e
  value_has d kinds.I32 (none, e) = with_bytes (varint_part 5 32) (omega arith) e
  value_has d kinds.I64 (none, e) = with_bytes (varint_part 10 64) (omega arith) e
  value_has d kinds.Double c = absurd c
  value_has d kinds.Uuid c = absurd c
  value_has d kinds.Str (none, e) = with_bytes size_part tt e
  value_has d kinds.Struct (deep, none, e) = with_bytes level_part tt e
  value_has d kinds.Map (inl (deep, none, e)) = with_bytes level_part tt e
  value_has d kinds.Map (inr (inl (none, e))) = with_bytes size_part tt e
  value_has d kinds.Map (inr (inr (size, some, spelled, e))) = with_bytes kinds_byte tt e
  value_has d kinds.Set (inl (deep, none, e)) = with_bytes level_part tt e
  value_has d kinds.Set (inr c) = elements_has c
  value_has d kinds.List (inl (deep, none, e)) = with_bytes level_part tt e
  value_has d kinds.List (inr c) = elements_has c

  item_has : (d : ℕ) (slot : Slot) → ItemCalls d slot begun part → HasBytes part
  item_has d (slots.Fields last) (inl (none, e)) = with_bytes (field_byte last) tt e
  item_has d (slots.Fields last) (inr (kind, code, is, laid, e)) = with_bytes (varint_part 5 16) (omega arith) e
  item_has d (slots.Value k id) (other, c) = value_has d k c
  item_has d (slots.Elements k left) (more, c) = value_has d k c
  item_has d (slots.Keys key value left) (more, c) = value_has d key c
  item_has d (slots.Values key value left) c = value_has d value c

  header_has : HeaderCalls begun part → HasBytes part
  header_has (inl (none, e)) = with_bytes protocol_byte tt e
  header_has (inr (inl (is, e))) = with_bytes version_byte tt e
  header_has (inr (inr (inl (mtype, is, e)))) = with_bytes (varint_part 5 32) (omega arith) e
  header_has (inr (inr (inr (mtype, number, n, spelled, is, e)))) = with_bytes size_part tt e

called_has : (part : Part) (front : List ℕ) → CallsBehind part front → HasBytes part
called_has part front (inl c) = header_has front part c.1
called_has part front (inr b) = item_has b.begun part _ b.slot b.calls

some_end : (most : ℕ) (b : ℕ) (k : List ℕ) → 1 ≤ most → 1 ≤ varint_end most (b ∷ k)
some_end zero b k has = absurd (omega (arith, has))
some_end (suc most) b k has = by_test (nat_lt b 128)
  where
    by_test : (t : Bool) → 1 ≤ (if t then 1 else suc (varint_end most k))
    by_test true = omega arith
    by_test false = omega arith

some_bytes : (part : Part) (r : Reason) (b : ℕ) (k : List ℕ) → HasBytes part → IsFaulty part r (b ∷ k) → 1 ≤ part_end part (b ∷ k)
some_bytes (varint_part most width) r b k has bad = some_end most b k has
some_bytes size_part r b k has bad = some_end 5 b k (omega arith)
some_bytes level_part r b k has bad = absurd bad
some_bytes part r b k has bad = omega arith

-- ---- no part is called for inside another

-- so many bytes of the filler are none of the part, which is no level
abbrev bound : Part → ℕ
bound (varint_part most width) = most
bound size_part = 5
bound part = 0

fills : (part : Part) (n : ℕ) → bound part ≤ n → 1 ≤ n → (part ≡ level_part) ⊎ ((r : Reason) × IsFaulty part r (filler n))
fills part zero long some = absurd (omega (arith, some))
fills protocol_byte (suc n) long some = inr (reasons.BadVersion, λ e. absurd (omega (arith, e)))
fills version_byte (suc n) long some = inr (reasons.BadVersion, λ e. absurd (omega (arith, e)))
fills (field_byte last) (suc n) long some = inr (reasons.BadKind, ((λ e. absurd (omega (arith, e))), refl))
fills bool_byte (suc n) long some = inr (reasons.BadBool, omega arith)
fills elements_byte (suc n) long some = inr (reasons.BadKind, refl)
fills kinds_byte (suc n) long some = inr (reasons.BadKind, inl refl)
fills (varint_part most width) (suc n) long some = let size = filler_long (suc n) in inr (reasons.BadVarint, goes_on most width (filler (suc n)) (filler_on (suc n)) (omega (arith, long, size)))
fills size_part (suc n) long some = let size = filler_long (suc n) in inr (reasons.BadVarint, goes_on 5 32 (filler (suc n)) (filler_on (suc n)) (omega (arith, long, size)))
fills level_part (suc n) long some = inl refl

-- what the laws of one fault take
abbrev at_place : ℕ → Reason → Fault
at_place place reason = record { place = place; reason = reason }

calls_at : (part : Part) (bytes others : List ℕ) (place : ℕ) → take place bytes ≡ take place others → IsCalled part others place → IsCalled part bytes place
calls_at part bytes others place same called = subst (CallsBehind part) (sym same) called

bytes_before : (n : ℕ) (bytes : List ℕ) → AreBytes bytes → AreBytes (take n bytes)
bytes_before n bytes are = (bytes_front (take n bytes) (drop n bytes) (subst AreBytes (sym (take-append-drop n bytes)) are)).0

not_bad_deep : reasons.BadVarint ≡ reasons.TooDeep → ⊥
not_bad_deep e = absurd (cc)

-- A varint is called for and goes on up to a later place. Then the frame up to there with a filler behind is refused at the varint.
module _ (bytes : List ℕ) (are : AreBytes bytes) (place later most : ℕ) (part : Part) (bad : (l : List ℕ) → AllGoOn l → most ≤ length l → IsFaulty part reasons.BadVarint l)
    (flat : IsShallow bytes place) (called : IsCalled part bytes place) (after : place < later) (within : later ≤ length bytes) (inside : later - place < varint_end most (drop place bytes)) (n : ℕ) (long : most < n) where
  abbrev whole : List ℕ
  whole = take later bytes ++ filler n

  front_size : length (take later bytes) ≡ later
  front_size = length-take-le later bytes within

  size : length whole ≡ later + n
  size = length-append (take later bytes) (filler n) ∙ ap (λ k. k + length (filler n)) front_size ∙ ap (λ k. later + k) (filler_long n)

  are_whole : AreBytes whole
  are_whole = bytes_join (take later bytes) (filler n) (bytes_before later bytes are) (filler_are n)

  same : (k : ℕ) → k ≤ later → take k whole ≡ take k bytes
  same k less = let long = front_size in take-append-le k (take later bytes) (filler n) (omega (arith, less, long)) ∙ take-take k later bytes less

  behind_place : drop place whole ≡ take (later - place) (drop place bytes) ++ filler n
  behind_place =
      let long = front_size in
      let on : later ≡ place + (later - place) = omega (arith, after) in
      drop-append-le place (take later bytes) (filler n) (omega (arith, after, long)) ∙ ap (λ k. drop place (take k bytes) ++ filler n) on ∙ ap (λ l. l ++ filler n) (drop-take place (later - place) bytes)

  behind_later : drop later whole ≡ filler n
  behind_later = drop_at (take later bytes) (filler n) later front_size

  refused : IsRefused whole (at_place place reasons.BadVarint)
  refused =
      let all = size in
      let rest = take (later - place) (drop place bytes) in
      let joined = length-append rest (filler n) in
      let filled = filler_long n in
      item_refuses whole (at_place place reasons.BadVarint) are_whole reasons.BadVarint refl (
        omega (arith, all, after),
        (λ early less c. flat early less (calls_at level_part bytes whole early (sym (same early (omega (arith, less, after)))) c)),
        (part, calls_at part whole bytes place (same place (omega (arith, after))) called, subst (IsFaulty part reasons.BadVarint) (sym behind_place) (bad (rest ++ filler n) (join_on rest (filler n) (before_end most (drop place bytes) (later - place) inside) (filler_on n)) (omega (arith, joined, filled, long)))),
      )

  not_deep : (k : ℕ) → k ≤ length whole → IsCalled level_part whole k → ⊥
  not_deep k less c = not_bad_deep (deep_first whole are_whole (at_place place reasons.BadVarint) refused k less c).0

  flat_later : IsShallow whole later
  flat_later k less c = let all = size in not_deep k (omega (arith, less, all)) c

  no_other : (r : Reason) → IsRefused whole (at_place later r) → ⊥
  no_other r stops = let e = ap (λ (f : Fault). f.place) (one_fault whole (at_place place reasons.BadVarint) (at_place later r) refused stops) in absurd (omega (arith, e, after))

  none_called : (other : Part) → bound other ≤ n → IsCalled other bytes later → ⊥
  none_called other small c = by_kind (fills other n small (omega (arith, long)))
    where
      there : IsCalled other whole later
      there = calls_at other whole bytes later (same later (omega arith)) c

      by_kind : (other ≡ level_part) ⊎ ((r : Reason) × IsFaulty other r (filler n)) → ⊥
      by_kind (inl level) = let all = size in not_deep later (omega (arith, all)) (subst (λ p. IsCalled p whole later) level there)
      by_kind (inr (r, fault)) = let all = size in no_other r (item_refuses whole (at_place later r) are_whole r refl (omega (arith, all, long), flat_later, (other, there, subst (IsFaulty other r) (sym behind_later) fault)))

  none_whole : IsWhole (take later bytes) → ⊥
  none_whole w = let all = size in no_other reasons.Trailing (refuses whole (at_place later reasons.Trailing) are_whole (omega (arith, all, long), flat_later, subst IsWhole (sym (same later (omega arith))) w))

module _ (bytes : List ℕ) (are : AreBytes bytes) (place later : ℕ) (flat : IsShallow bytes place) (after : place < later) (within : later ≤ length bytes) where
  of_varint : (most : ℕ) (part : Part) → ((l : List ℕ) → AllGoOn l → most ≤ length l → IsFaulty part reasons.BadVarint l) → IsCalled part bytes place → later < place + varint_end most (drop place bytes) → HasNone bytes later
  of_varint most part bad called inside =
      let near : later - place < varint_end most (drop place bytes) = omega (arith, inside, after) in (
        (λ other c. none_called bytes are place later most part bad flat called after within near (suc (most + bound other)) (omega arith) other (omega arith) c),
        none_whole bytes are place later most part bad flat called after within near (suc most) (omega arith),
      )

  pub inside_none : (part : Part) → IsCalled part bytes place → later < place + part_end part (drop place bytes) → HasNone bytes later
  inside_none (varint_part most width) called inside = of_varint most (varint_part most width) (goes_on most width) called inside
  inside_none size_part called inside = of_varint 5 size_part (goes_on 5 32) called inside
  inside_none level_part called inside = absurd (omega (arith, inside, after))
  inside_none part called inside = absurd (omega (arith, inside, after))

-- ---- a part at fault, by what the grammar spells

not_trailing_cut : reasons.Trailing ≡ reasons.Truncated → ⊥
not_trailing_cut e = absurd (cc)

not_trailing_deep : reasons.Trailing ≡ reasons.TooDeep → ⊥
not_trailing_deep e = absurd (cc)

module _ (bytes : List ℕ) (are : AreBytes bytes) (place : ℕ) (part : Part) (less : place < length bytes) (flat : IsShallow bytes place) (called : IsCalled part bytes place) where
  abbrev stop : ℕ
  stop = place + part_end part (drop place bytes)

  abbrev through : List ℕ
  through = with_part part bytes place

  are_through : AreBytes through
  are_through = bytes_before stop bytes are

  same_through : (k : ℕ) → k ≤ stop → take k through ≡ take k bytes
  same_through k early = take-take k stop bytes early

  flat_through : (k : ℕ) → k ≤ place → IsShallow through k
  flat_through k early before less c = flat before (omega (arith, less, early)) (calls_at level_part bytes through before (sym (same_through before (omega (arith, less, early)))) c)

  called_through : IsCalled part through place
  called_through = calls_at part through bytes place (same_through place (omega arith)) called

  reaches : place < stop → place < length through
  reaches on = by_test (nat_le stop (length bytes)) refl
    where
      by_test : (t : Bool) → nat_le stop (length bytes) ≡ t → place < length through
      by_test true e = let size = length-take-le stop bytes (grind (arith, nat_tests)) in omega (arith, size, on)
      by_test false e = let size = ap length (short_take stop bytes (grind (arith, nat_tests))) in omega (arith, size, less)

  within_stop : length through ≤ stop
  within_stop = by_test (nat_le stop (length bytes)) refl
    where
      by_test : (t : Bool) → nat_le stop (length bytes) ≡ t → length through ≤ stop
      by_test true e = let size = length-take-le stop bytes (grind (arith, nat_tests)) in omega (arith, size)
      by_test false e = let size = ap length (short_take stop bytes (grind (arith, nat_tests))) in grind (arith, nat_tests)

  within_bytes : length through ≤ length bytes
  within_bytes = let size = ap length (take-append-drop stop bytes) in let parts = length-append through (drop stop bytes) in omega (arith, size, parts)

  -- what is none of the part is so within its end
  pub refused_through : (r : Reason) → IsFaulty part r (drop place bytes) → IsRefused through (at_place place r)
  refused_through r bad = by_rest (drop place bytes) refl
    where
      by_rest : (rest : List ℕ) → drop place bytes ≡ rest → IsRefused through (at_place place r)
      by_rest [] e = let size = length-drop place bytes in let none = ap length e in absurd (omega (arith, size, none, less))
      by_rest (b ∷ k) e =
          let has = some_bytes part r b k (called_has part (take place bytes) called) (subst (IsFaulty part r) e bad) in
          let end = ap (part_end part) e in
          let behind : drop place through ≡ take (part_end part (b ∷ k)) (b ∷ k) = drop-take place (part_end part (drop place bytes)) bytes ∙ ap (λ l. take (part_end part l) l) e in
          item_refuses through (at_place place r) are_through r refl (
            reaches (omega (arith, has, end)),
            flat_through place (omega arith),
            (part, called_through, subst (IsFaulty part r) (sym behind) (still_faulty part r b k (subst (IsFaulty part r) e bad))),
          )

  pub none_with_part : (r : Reason) → IsFaulty part r (drop place bytes) → IsViable through → ⊥
  none_with_part r bad viable =
      not_viable through (at_place place r) are_through (refused_through r bad) (λ e. no_faulty_cut part (drop place bytes) (subst (λ x. IsFaulty part x (drop place bytes)) e bad))
      (λ e. no_faulty_depth part (drop place bytes) (subst (λ x. IsFaulty part x (drop place bytes)) e bad)) viable

-- ---- a part with which the frame begins no message

no_faulty_trail : (part : Part) (l : List ℕ) → IsFaulty part reasons.Trailing l → ⊥
no_faulty_trail protocol_byte l bad = bad
no_faulty_trail version_byte l bad = bad
no_faulty_trail (field_byte last) l bad = bad
no_faulty_trail bool_byte l bad = bad
no_faulty_trail elements_byte l bad = bad
no_faulty_trail kinds_byte l bad = bad
no_faulty_trail (varint_part most width) l bad = bad
no_faulty_trail size_part l bad = bad
no_faulty_trail level_part l bad = bad

abbrev ItemOf : ℕ → Reason → List ℕ → Type 0
ItemOf place r bytes = ItemAt r bytes place

module _ (bytes : List ℕ) (are : AreBytes bytes) (place : ℕ) (part : Part) (less : place < length bytes) (flat : IsShallow bytes place) (called : IsCalled part bytes place) (none : IsViable (with_part part bytes place) → ⊥) where
  abbrev end : ℕ
  end = place + part_end part (drop place bytes)

  abbrev cut : List ℕ
  cut = with_part part bytes place

  are_cut : AreBytes cut
  are_cut = are_through bytes are place part less flat called

  front_viable : IsViable (take place bytes)
  front_viable = called_viable part (take place bytes) called

  are_front : AreBytes (take place bytes)
  are_front = bytes_before place bytes are

  front_long : length (take place bytes) ≡ place
  front_long = length-take-le place bytes (omega (arith, less))

  -- the part has bytes, since what stands before it begins a message
  some : place < end
  some = by_test (nat_lt place end) refl
    where
      by_test : (t : Bool) → nat_lt place end ≡ t → place < end
      by_test true e = grind (arith, nat_tests)
      by_test false e = let same : end ≡ place = grind (arith, nat_tests) in absurd (none (subst (λ n. IsViable (take n bytes)) (sym same) front_viable))

  long : place < length cut
  long = reaches bytes are place part less flat called some

  same_cut : (k : ℕ) → k ≤ end → take k cut ≡ take k bytes
  same_cut = same_through bytes are place part less flat called

  flat_cut : (k : ℕ) → k ≤ place → IsShallow cut k
  flat_cut = flat_through bytes are place part less flat called

  -- where a part is called for no message ends
  no_message : IsWhole (take place bytes) → ⊥
  no_message w = by_kind (fills part n (omega arith) (omega arith))
    where
      n : ℕ
      n = suc (bound part)

      all : List ℕ
      all = take place bytes ++ filler n

      size : length all ≡ place + n
      size = length-append (take place bytes) (filler n) ∙ ap (λ k. k + length (filler n)) front_long ∙ ap (λ k. place + k) (filler_long n)

      same : (k : ℕ) → k ≤ place → take k all ≡ take k bytes
      same k early = let long = front_long in take-append-le k (take place bytes) (filler n) (omega (arith, early, long)) ∙ take-take k place bytes early

      are_all : AreBytes all
      are_all = bytes_join (take place bytes) (filler n) are_front (filler_are n)

      flat_all : IsShallow all place
      flat_all before early c = flat before early (calls_at level_part bytes all before (sym (same before early)) c)

      trails : IsRefused all (at_place place reasons.Trailing)
      trails = let whole = size in refuses all (at_place place reasons.Trailing) are_all (omega (arith, whole), flat_all, subst IsWhole (sym (same place (omega arith))) w)

      by_kind : (part ≡ level_part) ⊎ ((r : Reason) × IsFaulty part r (filler n)) → ⊥
      by_kind (inl level) = flat place (omega arith) (subst (λ p. IsCalled p bytes place) level called)
      by_kind (inr (r, bad)) =
          let whole = size in
          let behind : drop place all ≡ filler n = drop_at (take place bytes) (filler n) place front_long in
          let stops = item_refuses all (at_place place r) are_all r refl (omega (arith, whole), flat_all, (part, calls_at part all bytes place (same place (omega arith)) called, subst (IsFaulty part r) (sym behind) bad)) in
          let reason : r ≡ reasons.Trailing = ap (λ (f : Fault). f.reason) (one_fault all (at_place place r) (at_place place reasons.Trailing) stops trails) in
          no_faulty_trail part (filler n) (subst (λ x. IsFaulty part x (filler n)) reason bad)

  module _ (g : Fault) (stops : IsRefused cut g) (other : g.reason ≡ reasons.Truncated → ⊥) where
    -- it isn't refused before the part
    front_trails : g.place < place → IsWhole (take g.place cut) → ⊥
    front_trails early w =
        let size = front_long in
        let same : take g.place (take place bytes) ≡ take g.place cut = take-take g.place place bytes (omega (arith, early)) ∙ sym (same_cut g.place (omega (arith, early))) in
        let refused = refuses (take place bytes) (at_place g.place reasons.Trailing) are_front (
          omega (arith, early, size),
          (λ before less c. flat before (omega (arith, less, early)) (calls_at level_part bytes (take place bytes) before (sym (take-take before place bytes (omega (arith, less, early)))) c)),
          subst IsWhole (sym same) w,
        ) in
        not_viable (take place bytes) (at_place g.place reasons.Trailing) are_front refused not_trailing_cut not_trailing_deep front_viable

    earlier_item : (r : Reason) → g.place < place → ItemOf g.place r cut → ⊥
    earlier_item r early (here, shallow, (first, c, bad)) = by_test (nat_lt place (g.place + part_end first (drop g.place cut))) refl
      where
        by_test : (t : Bool) → nat_lt place (g.place + part_end first (drop g.place cut)) ≡ t → ⊥
        by_test true e =
            let size = long in
            (inside_none cut are_cut g.place place shallow early (omega (arith, size)) first c (grind (arith, nat_tests))).0 part (calls_at part cut bytes place (same_cut place (omega arith)) called)
        by_test false e =
            let n = g.place + part_end first (drop g.place cut) in
            let behind : n ≤ place = grind (arith, nat_tests) in
            let same : take n (take place bytes) ≡ take n cut = take-take n place bytes behind ∙ sym (same_cut n (omega (arith, behind))) in
            none_with_part cut are_cut g.place first here shallow c r bad (subst IsViable same (viable_front n (take place bytes) front_viable))

    earlier : (r : Reason) → r ≡ g.reason → g.place < place → StandsAt r cut g.place → ⊥
    earlier reasons.Truncated e early s = other (sym e)
    earlier reasons.TooDeep e early (here, c, first) = flat g.place (omega (arith, early)) (calls_at level_part bytes cut g.place (sym (same_cut g.place (omega (arith, early)))) c)
    earlier reasons.Trailing e early (here, shallow, w) = front_trails early w
    earlier r e early s = earlier_item r early s

    -- nor behind its first byte
    later_none : place < g.place → g.place < length cut → HasNone bytes g.place
    later_none after here =
        let bound = within_stop bytes are place part less flat called in
        let all = within_bytes bytes are place part less flat called in
        inside_none bytes are place g.place flat after (omega (arith, here, all)) part called (omega (arith, here, bound))

    in_bytes : (p : Part) → g.place < length cut → IsCalled p cut g.place → IsCalled p bytes g.place
    in_bytes p here c = let bound = within_stop bytes are place part less flat called in calls_at p bytes cut g.place (sym (same_cut g.place (omega (arith, here, bound)))) c

    later_deep : place < g.place → g.place ≤ length cut → IsCalled level_part cut g.place → FaultAt cut g → ⊥
    later_deep after here c stands = by_test (nat_lt g.place (length cut)) refl
      where
        by_test : (t : Bool) → nat_lt g.place (length cut) ≡ t → ⊥
        by_test true e = let inner : g.place < length cut = grind (arith, nat_tests) in (later_none after inner).0 level_part (in_bytes level_part inner c)
        by_test false e = let far : length cut ≤ g.place = grind (arith, nat_tests) in none (subst IsViable (short_take g.place cut far) (before cut g are_cut stands))

    later : (r : Reason) → r ≡ g.reason → place < g.place → FaultAt cut g → StandsAt r cut g.place → ⊥
    later reasons.Truncated e after stands s = other (sym e)
    later reasons.TooDeep e after stands (here, c, first) = later_deep after here c stands
    later reasons.Trailing e after stands (here, shallow, w) =
        let bound = within_stop bytes are place part less flat called in
        (later_none after here).1 (subst IsWhole (same_cut g.place (omega (arith, here, bound))) w)
    later r e after stands (here, shallow, (first, c, bad)) = (later_none after here).0 first (in_bytes first here c)

    not_trailing : (r : Reason) → r ≡ g.reason → g.place ≡ place → StandsAt r cut g.place → r ≡ reasons.Trailing → ⊥
    not_trailing reasons.Trailing e here (less, shallow, w) trail = no_message (subst IsWhole (ap (λ n. take n cut) here ∙ same_cut place (omega arith)) w)
    not_trailing r e here s trail = absurd (cc)

    by_place : FaultAt cut g → (a b : Bool) → nat_lt g.place place ≡ a → nat_lt place g.place ≡ b → IsRefusedAt bytes place
    by_place stands true b p q = absurd (earlier g.reason refl (grind (arith, nat_tests)) stands)
    by_place stands false true p q = absurd (later g.reason refl (grind (arith, nat_tests)) stands stands)
    by_place stands false false p q =
        let all = subst (λ l. IsRefused l g) (take-append-drop end bytes) (refused_stays cut (drop end bytes) g are_cut stops other).0 in
        let here : g.place ≡ place = grind (arith, nat_tests) in
        (g.reason, not_trailing g.reason refl here stands, subst (IsRefused bytes) (same_fault g (at_place place g.reason) here refl) all)

  pub refused_there : IsRefusedAt bytes place
  refused_there = by_reading (judged cut are_cut)
    where
      by_cut : (g : Fault) → IsRefused cut g → FaultAt cut g → Decided g.reason → IsRefusedAt bytes place
      by_cut g stops stands (inl t) = absurd (none (cut_viable cut g are_cut stops t).1)
      by_cut g stops stands (inr other) = by_place g stops other stands (nat_lt g.place place) (nat_lt place g.place) refl refl

      by_reading : IsWhole cut ⊎ ((g : Fault) × IsRefused cut g × FaultAt cut g) → IsRefusedAt bytes place
      by_reading (inl (m, spells, deep)) = absurd (none ([], m, subst (CompactSpells m) (sym (append-nil cut)) spells))
      by_reading (inr (g, stops, stands)) = by_cut g stops stands (is_truncated g.reason)

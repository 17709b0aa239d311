-- One fault stands in a frame: the one that refuses it.
use Rattle.std.proofs.Common.{◌≡◌, ℕ, ◌+◌, ◌<◌, ◌≤◌, ◌^◌, Bool, true, false, List, [], ◌∷◌, ◌++◌, length, take, drop, refl, ap, ◌∙◌, sym, subst, arith, ◌⊎◌, inl, inr, length-append, length-take-le}
use Rattle.std.specs.Prelude.{nat_lt}
use Rattle.std.specs.Int.{w32}
use Rattle.std.proofs.lemmas.Bool.Decides.{nat_tests}
use Rattle.std.proofs.lemmas.List.{append-nil}
use Rattle.thrift_value.specs.Trees.{Message}
use Rattle.protocol_traits.specs.declared.fault.Fault.{Fault}
use Rattle.protocol_traits.specs.declared.fault.Reason.{Reason}
use Rattle.protocol_traits.specs.declared.fault.Reason.TheVariants as reasons
use Rattle.binary_protocol.specs.Codes.{code_of_type}
use Rattle.binary_protocol.specs.Grammar.{number, size, BinarySpells, SpellsStrictHeader, SpellsOldHeader}
use Rattle.gate_base.specs.Bytes.{AreBytes}
use Rattle.binary_laws.specs.Called.{IsPart, width_of_all, depth_behind, HasStrictPart, HasItem, HasAt, IsCalled}
use Rattle.binary_laws.specs.Faults.{extent, IsWhole, IsShallow, StandsAt, FaultAt}
use Rattle.binary_laws.specs.Refused.{IsViable, IsRefused}
use Rattle.binary_laws.proofs.Unique.{one_message, size_same, low_first}
use Rattle.binary_laws.proofs.Reaching.{Lies, fault_lies}
use Rattle.binary_laws.proofs.Placed.{Not, Outcome, outcome, again, cut_before, front_are, whole_front, whole_before, not_shallow}
use Rattle.binary_laws.proofs.Fronts.{row_called, deep_called}
use Rattle.binary_laws.proofs.Depth.{take_take, take_kept, width_append, one_header}
use Rattle.binary_laws.proofs.Wide.{members_width}
use Rattle.binary_laws.proofs.Overlap.{part_room, room_inside}
use Rattle.binary_laws.proofs.Pinned.{cut_pinned}
use Rattle.binary_laws.proofs.Either.{one_fault}
use Rattle.binary_laws.proofs.Faults.{judged, apart}
use Rattle.binary_laws.proofs.OneFault.{same_fault, not_begun, no_deep, not_short, not_beyond, not_behind, deep_one, cut_one, trailing_one}

-- ---- the first bytes

header_long : (m : Message) (header : List ℕ) → SpellsStrictHeader m header ⊎ SpellsOldHeader m header → 9 ≤ length header
header_long m header (inl (u, less, is)) = let n = ap length is in omega (arith, n, length-append m.name (number w32 m.seq))
header_long m header (inr is) = let n = ap length is in omega (arith, n, length-append m.name (code_of_type m.mtype ∷ number w32 m.seq))

old_long : (m : Message) (header : List ℕ) → SpellsOldHeader m header → length header ≡ length m.name + 9
old_long m header is = let n = ap length is in omega (arith, n, length-append m.name (code_of_type m.mtype ∷ number w32 m.seq))

first_four : (bytes more : List ℕ) (place : ℕ) → 4 ≤ place → place ≤ length bytes → take 4 (take place bytes ++ more) ≡ take 4 bytes
first_four bytes more place some less = let n = length-take-le place bytes less in take_kept 4 (take place bytes) more (omega (arith, n, some)) ∙ take_take 4 place bytes some

strict_four : (m : Message) (w header body : List ℕ) → SpellsStrictHeader m header → w ≡ header ++ body → (tail : List ℕ) × (take 4 w ≡ 128 ∷ tail)
strict_four m w header body (u, less, is) laid = (1 ∷ u ∷ code_of_type m.mtype ∷ [], ap (take 4) laid ∙ ap (λ h. take 4 (h ++ body)) is)

old_four : (m : Message) (w header body : List ℕ) → SpellsOldHeader m header → w ≡ header ++ body → take 4 w ≡ size (length m.name)
old_four m w header body is laid = ap (take 4) laid ∙ ap (λ h. take 4 (h ++ body)) is

not_both_forms : (m : Message) (four tail : List ℕ) → length m.name < 2 ^ 31 → four ≡ size (length m.name) → four ≡ 128 ∷ tail → ⊥
not_both_forms m four tail few e h = low_first (length m.name) [] tail few (append-nil (size (length m.name)) ∙ sym e ∙ h)

one_size : (m n : Message) (four : List ℕ) → length m.name < 2 ^ 31 → length n.name < 2 ^ 31 → four ≡ size (length m.name) → four ≡ size (length n.name) → length m.name ≡ length n.name
one_size m n four p q e h = (size_same (length m.name) (length n.name) [] [] p q (append-nil (size (length m.name)) ∙ sym e ∙ h ∙ sym (append-nil (size (length n.name))))).0

-- ---- the item of another fault beside it

module _ (bytes : List ℕ) (f h : Fault) (within : f.place < length bytes) (beyond : h.place < f.place + extent f.reason) (close : (f.place < h.place + extent h.reason) ⊎ (f.place ≤ h.place)) (inside : h.place ≤ length bytes) where
  far_off : (a : Reason) (k : ℕ) → IsPart a k h.reason h.place → k + extent a ≤ f.place → k < f.place → ⊥
  far_off a k (e, n) less short = by_close close
    where
      by_close : (f.place < h.place + extent h.reason) ⊎ (f.place ≤ h.place) → ⊥
      by_close (inl c) = let s = ap extent e in omega (arith, c, s, n, less)
      by_close (inr c) = omega (arith, c, n, short)

  beyond_it : (a b : Reason) (j k : ℕ) → IsPart a j f.reason f.place → IsPart b k h.reason h.place → j + extent a ≤ k → ⊥
  beyond_it a b j k (e, n) (g, m) less = let s = ap extent e in omega (arith, beyond, s, n, m, less)

  same_part : (a : Reason) (j : ℕ) → IsPart a j f.reason f.place → IsPart a j h.reason h.place → f ≡ h
  same_part a j (e, n) (g, m) = same_fault f h (n ∙ sym m) (e ∙ sym g)

  -- the spelling that the fault in question stands beside
  abbrev Beside : Message → List ℕ → Type 0
  Beside m w = ((header : List ℕ) × (body : List ℕ) × (w ≡ header ++ body) × SpellsStrictHeader m header × HasStrictPart h.reason h.place) ⊎ ((header : List ℕ) × (body : List ℕ) × (w ≡ header ++ body) × SpellsOldHeader m header × IsPart reasons.BadType (length m.name + 4) h.reason h.place)
      ⊎ ((header : List ℕ) × (body : List ℕ) × (w ≡ header ++ body) × (SpellsStrictHeader m header ⊎ SpellsOldHeader m header) × (length header ≤ h.place))

  in_strict_header : (n : Message) (w : List ℕ) (header body : List ℕ) → w ≡ header ++ body → SpellsStrictHeader n header → (take 4 w ≡ take 4 bytes) ⊎ (f.place < 4) → HasStrictPart f.reason f.place
      → (m : Message) (more : List ℕ) → length m.name < 2 ^ 31 → Beside m (take h.place bytes ++ more) → f ≡ h
  in_strict_header n w header body laid head four (inl a) m more few (inl (o, rest, is, other, inl b)) = same_part reasons.BadVersion 0 a b
  in_strict_header n w header body laid head four (inl a) m more few (inl (o, rest, is, other, inr (inl b))) = absurd (beyond_it reasons.BadVersion reasons.BadType 0 3 a b (omega arith))
  in_strict_header n w header body laid head four (inl a) m more few (inl (o, rest, is, other, inr (inr b))) = absurd (beyond_it reasons.BadVersion reasons.BadSize 0 4 a b (omega arith))
  in_strict_header n w header body laid head four (inr (inl a)) m more few (inl (o, rest, is, other, inl b)) = let p = a.1 in absurd (far_off reasons.BadVersion 0 b (omega (arith, p)) (omega (arith, p)))
  in_strict_header n w header body laid head four (inr (inl a)) m more few (inl (o, rest, is, other, inr (inl b))) = same_part reasons.BadType 3 a b
  in_strict_header n w header body laid head four (inr (inl a)) m more few (inl (o, rest, is, other, inr (inr b))) = absurd (beyond_it reasons.BadType reasons.BadSize 3 4 a b (omega arith))
  in_strict_header n w header body laid head four (inr (inr a)) m more few (inl (o, rest, is, other, inl b)) = let p = a.1 in absurd (far_off reasons.BadVersion 0 b (omega (arith, p)) (omega (arith, p)))
  in_strict_header n w header body laid head four (inr (inr a)) m more few (inl (o, rest, is, other, inr (inl b))) = let p = a.1 in absurd (far_off reasons.BadType 3 b (omega (arith, p)) (omega (arith, p)))
  in_strict_header n w header body laid head four (inr (inr a)) m more few (inl (o, rest, is, other, inr (inr b))) = same_part reasons.BadSize 4 a b
  in_strict_header n w header body laid head four (inl a) m more few (inr (inl (o, rest, is, other, b))) = absurd (beyond_it reasons.BadVersion reasons.BadType 0 (length m.name + 4) a b (omega arith))
  in_strict_header n w header body laid head four (inr (inl a)) m more few (inr (inl (o, rest, is, other, b))) = absurd (beyond_it reasons.BadType reasons.BadType 3 (length m.name + 4) a b (omega arith))
  in_strict_header n w header body laid head (inr low) (inr (inr a)) m more few (inr (inl (o, rest, is, other, b))) = let p = a.1 in absurd (omega (arith, low, p))
  in_strict_header n w header body laid head (inl four) (inr (inr a)) m more few (inr (inl (o, rest, is, other, b))) =
      let at = b.1 in
      let s = strict_four n w header body head laid in
      absurd (not_both_forms m (take 4 bytes) s.0 few (sym (first_four bytes more h.place (omega (arith, at)) inside) ∙ old_four m (take h.place bytes ++ more) o rest other is) (sym four ∙ s.1))
  in_strict_header n w header body laid head four (inl a) m more few (inr (inr (o, rest, is, other, less))) = let s = ap extent a.0 in let p = a.1 in absurd (omega (arith, header_long m o other, less, beyond, s, p))
  in_strict_header n w header body laid head four (inr (inl a)) m more few (inr (inr (o, rest, is, other, less))) = let s = ap extent a.0 in let p = a.1 in absurd (omega (arith, header_long m o other, less, beyond, s, p))
  in_strict_header n w header body laid head four (inr (inr a)) m more few (inr (inr (o, rest, is, other, less))) = let s = ap extent a.0 in let p = a.1 in absurd (omega (arith, header_long m o other, less, beyond, s, p))

  in_old_header : (n : Message) (w : List ℕ) (header body : List ℕ) → w ≡ header ++ body → SpellsOldHeader n header → length n.name < 2 ^ 31 → take 4 w ≡ take 4 bytes → IsPart reasons.BadType (length n.name + 4) f.reason f.place
      → (m : Message) (more : List ℕ) → length m.name < 2 ^ 31 → Beside m (take h.place bytes ++ more) → f ≡ h
  in_old_header n w header body laid head small four a m more few (inl (o, rest, is, other, inl b)) = let p = a.1 in absurd (far_off reasons.BadVersion 0 b (omega (arith, p)) (omega (arith, p)))
  in_old_header n w header body laid head small four a m more few (inl (o, rest, is, other, inr (inl b))) = let p = a.1 in absurd (far_off reasons.BadType 3 b (omega (arith, p)) (omega (arith, p)))
  in_old_header n w header body laid head small four a m more few (inl (o, rest, is, other, inr (inr b))) =
      let at = b.1 in
      let s = strict_four m (take h.place bytes ++ more) o rest other is in
      absurd (not_both_forms n (take 4 bytes) s.0 small (sym four ∙ old_four n w header body head laid) (sym (first_four bytes more h.place (omega (arith, at)) inside) ∙ s.1))
  in_old_header n w header body laid head small four a m more few (inr (inl (o, rest, is, other, b))) =
      let at = b.1 in
      let same = one_size n m (take 4 bytes) small few (sym four ∙ old_four n w header body head laid) (sym (first_four bytes more h.place (omega (arith, at)) inside) ∙ old_four m (take h.place bytes ++ more) o rest other is) in
      same_part reasons.BadType (length n.name + 4) a (b.0, at ∙ ap (λ k. k + 4) (sym same))
  in_old_header n w header body laid head small four a m more few (inr (inr (o, rest, is, inl other, less))) =
      let s = strict_four m (take h.place bytes ++ more) o rest other is in
      absurd (not_both_forms n (take 4 bytes) s.0 small (sym four ∙ old_four n w header body head laid) (sym (first_four bytes more h.place (omega (arith, header_long m o (inl other), less)) inside) ∙ s.1))
  in_old_header n w header body laid head small four a m more few (inr (inr (o, rest, is, inr other, less))) =
      let same = one_size n m (take 4 bytes) small few (sym four ∙ old_four n w header body head laid) (sym (first_four bytes more h.place (omega (arith, header_long m o (inr other), less)) inside) ∙ old_four m (take h.place bytes ++ more) o rest other is) in
      let s = ap extent a.0 in
      let p = a.1 in
      absurd (omega (arith, old_long m o other, less, beyond, s, p, same))

  -- the message that the fault in question stands in
  abbrev Spot : Type 0
  Spot = (m : Message) × (more : List ℕ) × (length m.name < 2 ^ 31) × Beside m (take h.place bytes ++ more)

  spot_at : (m : Message) (more : List ℕ) → BinarySpells m (take h.place bytes ++ more) → HasAt m (take h.place bytes ++ more) h.reason h.place → Spot
  spot_at m more spells (inl s) = (m, more, spells.0, inl s)
  spot_at m more spells (inr (inl s)) = (m, more, spells.0, inr (inl s))
  spot_at m more spells (inr (inr i)) = let p = i.is in (m, more, spells.0, inr (inr (i.header, i.body, i.laid, i.head, omega (arith, p))))

  spot_behind : IsWhole (take h.place bytes) → Spot
  spot_behind (m, (few, fits, (header, body, head, members, laid)), deep) =
      let size = ap length laid ∙ length-append header body in
      let long = length-take-le h.place bytes inside in
      (m, [], few, inr (inr (header, body, append-nil (take h.place bytes) ∙ laid, head, omega (arith, size, long))))

  -- the other fault is this one where the item is one of a header
  in_header : (n : Message) (more : List ℕ) → BinarySpells n (take f.place bytes ++ more) → Spot
      → ((header : List ℕ) × (body : List ℕ) × (take f.place bytes ++ more ≡ header ++ body) × SpellsStrictHeader n header × HasStrictPart f.reason f.place) ⊎ ((header : List ℕ) × (body : List ℕ) × (take f.place bytes ++ more ≡ header ++ body) × SpellsOldHeader n header × IsPart reasons.BadType (length n.name + 4) f.reason f.place) → f ≡ h
  in_header n more spells (m, other, few, beside) (inl (header, body, laid, head, part)) = in_strict_header n (take f.place bytes ++ more) header body laid head (by_place (nat_lt f.place 4) refl) part m other few beside
    where
      by_place : (b : Bool) → nat_lt f.place 4 ≡ b → (take 4 (take f.place bytes ++ more) ≡ take 4 bytes) ⊎ (f.place < 4)
      by_place true e = inr (grind (arith, nat_tests))
      by_place false e = inl (first_four bytes more f.place (grind (arith, nat_tests)) (omega (arith, within)))
  in_header n more spells (m, other, few, beside) (inr (header, body, laid, head, part)) =
      let p = part.1 in
      in_old_header n (take f.place bytes ++ more) header body laid head spells.0 (first_four bytes more f.place (omega (arith, p)) (omega (arith, within))) part m other few beside

-- ---- an item at fault

module _ (bytes : List ℕ) (are : AreBytes bytes) (f h : Fault) (refused : IsRefused bytes h) (row : 1 ≤ extent f.reason) (within : f.place < length bytes) (shallow : IsShallow bytes f.place) (called : IsCalled f.reason bytes f.place)
    (bad : IsViable (take (f.place + extent f.reason) bytes) → ⊥) where
  viable : IsViable (take f.place bytes)
  viable = (called.0, called.1, called.2)

  whole : Not h reasons.Truncated
  whole = not_short bytes are f h refused within shallow viable bad

  beyond : h.place < f.place + extent f.reason
  beyond = not_beyond bytes are f h refused within shallow viable bad

  behind : f.place ≤ h.place + extent h.reason
  behind = not_behind bytes are f h refused within shallow viable bad

  front_small : AreBytes (take f.place bytes)
  front_small = front_are bytes are h refused whole f.place

  size_is : length (take f.place bytes) ≡ f.place
  size_is = length-take-le f.place bytes (omega (arith, within))

  never : IsRefused (take f.place bytes) h → ⊥
  never same = by_lies (fault_lies (take f.place bytes) h front_small same)
    where
      by_lies : Lies (take f.place bytes) h → ⊥
      by_lies (inl t) = whole t
      by_lies (inr (inl (t, less))) = not_begun (take f.place bytes) h front_small same viable whole (λ d. not_shallow (sym t ∙ d))
      by_lies (inr (inr (inl (t, less)))) = shallow h.place (omega (arith, less, size_is)) (deep_called bytes h are refused t (omega (arith, less, size_is, within)))
      by_lies (inr (inr (inr (bad_row, less)))) = not_begun (take f.place bytes) h front_small same viable whole (λ d. no_deep h.reason d bad_row)

  -- the message is no longer than the front, where the front is whole
  no_end : IsWhole (take f.place bytes) → (more : List ℕ) (m : Message) → BinarySpells m (take f.place bytes ++ more) → HasItem m (take f.place bytes ++ more) f.reason f.place → ⊥
  no_end (n, one, deep) more m spells i =
      let same = one_message n m (take f.place bytes) more one spells in
      let none = ap length same.1 in
      let all = length-append (take f.place bytes) more in
      let laid = ap length spells.2.4 ∙ length-append spells.2.0 spells.2.1 in
      let other = ap length i.laid ∙ length-append i.header i.body in
      let wide = members_width m.body spells.2.1 spells.2.3 ∙ ap width_of_all i.items ∙ width_append i.before (i.item ∷ i.behind) in
      let header = one_header m (take f.place bytes ++ more) spells.2.0 spells.2.1 i.header i.body spells.0 spells.1 spells.2.2 i.head spells.2.4 i.laid in
      let fits = part_room (depth_behind i.before 1) i.item f.reason i.at row i.part in
      let inside = room_inside i.item in
      let place = i.is in
      omega (arith, none, all, laid, wide, header, fits, inside, place, size_is, row)

  in_body : (more : List ℕ) (m : Message) → BinarySpells m (take f.place bytes ++ more) → HasItem m (take f.place bytes ++ more) f.reason f.place → f ≡ h
  in_body more m spells i = by_outcome (outcome bytes are h refused whole f.place)
    where
      by_outcome : Outcome (take f.place bytes) h → f ≡ h
      by_outcome (inl all) = absurd (no_end all more m spells i)
      by_outcome (inr (inl (g, stops, t))) = cut_pinned bytes are f h refused within shallow row beyond whole more m spells i g stops t (again bytes are h refused whole f.place)
      by_outcome (inr (inr same)) = absurd (never same)

  -- a fault of an item reaches past the place
  strictly : 1 ≤ extent h.reason → f.place < h.place + extent h.reason
  strictly other = by_outcome (outcome bytes are h refused whole f.place)
    where
      by_outcome : Outcome (take f.place bytes) h → f.place < h.place + extent h.reason
      by_outcome (inl all) = let t = whole_front (take f.place bytes) (drop f.place bytes) h front_small all (again bytes are h refused whole f.place) in let none : extent h.reason ≡ 0 = ap extent t in absurd (omega (arith, other, none))
      by_outcome (inr (inl (g, stops, t))) = cut_before bytes h refused whole f.place front_small g stops t
      by_outcome (inr (inr same)) = absurd (never same)

  in_a_header : (more : List ℕ) (m : Message) → BinarySpells m (take f.place bytes ++ more)
      → ((header : List ℕ) × (body : List ℕ) × (take f.place bytes ++ more ≡ header ++ body) × SpellsStrictHeader m header × HasStrictPart f.reason f.place) ⊎ ((header : List ℕ) × (body : List ℕ) × (take f.place bytes ++ more ≡ header ++ body) × SpellsOldHeader m header × IsPart reasons.BadType (length m.name + 4) f.reason f.place) → f ≡ h
  in_a_header more m spells part = by_lies (fault_lies bytes h are refused)
    where
      by_lies : Lies bytes h → f ≡ h
      by_lies (inl t) = absurd (whole t)
      by_lies (inr (inl (t, less))) =
          let none : extent h.reason ≡ 0 = ap extent t in
          let b = behind in
          let close : (f.place < h.place + extent h.reason) ⊎ (f.place ≤ h.place) = inr (omega (arith, none, b)) in
          let inside : h.place ≤ length bytes = omega (arith, less) in
          in_header bytes f h within beyond close inside m more spells (spot_behind bytes f h within beyond close inside (whole_before bytes are h refused whole t less)) part
      by_lies (inr (inr (inl (t, inside)))) =
          let none : extent h.reason ≡ 0 = ap extent t in
          let b = behind in
          let close : (f.place < h.place + extent h.reason) ⊎ (f.place ≤ h.place) = inr (omega (arith, none, b)) in
          let c = subst (λ r. IsCalled r bytes h.place) (sym t) (deep_called bytes h are refused t inside) in
          in_header bytes f h within beyond close inside m more spells (spot_at bytes f h within beyond close inside c.1 c.0 c.2 c.3) part
      by_lies (inr (inr (inr (bad_row, less)))) =
          let close : (f.place < h.place + extent h.reason) ⊎ (f.place ≤ h.place) = inl (strictly bad_row) in
          let inside : h.place ≤ length bytes = omega (arith, less) in
          let untrailed : Not h reasons.Trailing = (λ t. no_trail h.reason t bad_row) in
          let c = row_called bytes h are refused whole untrailed (λ d. no_deep h.reason d bad_row) bad_row less in
          in_header bytes f h within beyond close inside m more spells (spot_at bytes f h within beyond close inside c.1 c.0 c.2 c.3) part
        where
          no_trail : (r : Reason) → r ≡ reasons.Trailing → 1 ≤ extent r → ⊥
          no_trail r e some = let none : extent r ≡ 0 = ap extent e in omega (arith, some, none)

  row_one : f ≡ h
  row_one = by_part called.3
    where
      by_part : HasAt called.1 (take f.place bytes ++ called.0) f.reason f.place → f ≡ h
      by_part (inl s) = in_a_header called.0 called.1 called.2 (inl s)
      by_part (inr (inl s)) = in_a_header called.0 called.1 called.2 (inr s)
      by_part (inr (inr i)) = in_body called.0 called.1 called.2 i

-- ---- a fault that stands in a frame

by_reason : (r : Reason) (bytes : List ℕ) (f h : Fault) → r ≡ f.reason → AreBytes bytes → IsRefused bytes h → StandsAt r bytes f.place → f ≡ h
by_reason reasons.Truncated bytes f h e are refused s = cut_one bytes are f h refused (sym e) s
by_reason reasons.Trailing bytes f h e are refused s = trailing_one bytes are f h refused (sym e) s
by_reason reasons.TooDeep bytes f h e are refused s = deep_one bytes are f h refused (sym e) s
by_reason r bytes f h e are refused s =
    row_one bytes are f h refused (subst (λ q. 1 ≤ extent q) e s.0) s.1 s.2 (subst (λ q. IsCalled q bytes f.place) e s.3) (subst (λ q. IsViable (take (f.place + extent q) bytes) → ⊥) e s.4)

pub refuses : (bytes : List ℕ) (f : Fault) → AreBytes bytes → FaultAt bytes f → IsRefused bytes f
refuses bytes f are stands = by_judged (judged bytes are)
  where
    by_judged : IsWhole bytes ⊎ ((h : Fault) × IsRefused bytes h × FaultAt bytes h) → IsRefused bytes f
    by_judged (inl all) = absurd (apart bytes f are stands all)
    by_judged (inr (h, refused, same)) = subst (IsRefused bytes) (sym (by_reason f.reason bytes f h refl are refused stands)) refused

pub alone : (bytes : List ℕ) (f g : Fault) → AreBytes bytes → FaultAt bytes f → FaultAt bytes g → f ≡ g
alone bytes f g are one other = one_fault bytes f g (refuses bytes f are one) (refuses bytes g are other)

-- Items that are there whole: a scan passes over them at once, as it would byte by byte.
use Rattle.std.proofs.Common.{◌≡◌, ℕ, zero, suc, ◌+◌, ◌-◌, ◌<◌, ◌≤◌, Bool, true, false, List, [], ◌∷◌, ◌++◌, length, take, drop, get_or, refl, arith, sym, ap, ◌∙◌, subst, append_assoc, append-nil, length-append, take-add}
use Rattle.std.specs.Prelude.{ℤ, Some, None, nat_le, nat_lt}
use Rattle.std.proofs.lemmas.Option.{same_Some}
use Rattle.std.proofs.lemmas.Bool.Decides.{nat_tests}
use Rattle.std.proofs.lemmas.List.{take-append-le, take-take, length-take-le, length-drop, drop-drop}
use Rattle.gate_base.specs.Bytes.{AreBytes}
use Rattle.protocol_traits.specs.declared.nest.Slot.{Slot}
use Rattle.protocol_traits.specs.declared.nest.Slot.TheVariants as slots
use Rattle.protocol_traits.specs.Stack.{first_of, rest_of}
use Rattle.stream_messages.specs.declared.scan.Wire.{Wire}
use Rattle.stream_messages.specs.declared.scan.Wire.TheVariants as wires
use Rattle.stream_messages.specs.declared.levels.Settled.{Settled}
use Rattle.stream_messages.specs.declared.levels.Settled.TheVariants as settled
use Rattle.stream_messages.specs.declared.parts.Next.{Next}
use Rattle.stream_messages.specs.declared.parts.Next.TheVariants as next
use Rattle.stream_messages.specs.declared.parts.Part.{Part}
use Rattle.stream_messages.specs.declared.parts.Part.TheVariants as part
use Rattle.stream_messages.specs.declared.parts.BinaryPart.TheVariants as binary
use Rattle.stream_messages.specs.Levels.{settles}
use Rattle.stream_messages.specs.Scanning.{Scanning, tells_bools, step_of}
use Rattle.stream_messages.specs.Fronts.{Found, cut, IsBody, IsFront}
use Rattle.stream_messages.specs.Feeding.{Passes, Ran, goes, short, wrong, behind, led, run, RanTo, HasRead}
use Rattle.stream_messages.specs.Fields.{Spans, nothing, item, IsHeader}
use Rattle.stream_messages.proofs.Settling.{Outcome, settled_body}
use Rattle.stream_messages.proofs.Pieces.{whole_front}
use Rattle.stream_messages.proofs.Taking.{ready_body}

-- ---- the bytes of an item

abbrev Sized : Wire → List ℕ → Type 0
Sized wire bytes = (p : Part) (nest ended : List Slot) (n : ℕ) → run wire bytes p nest ≡ goes ended n → (0 < n) × (n ≤ length bytes)

pub ran_size : (wire : Wire) (bytes : List ℕ) → Sized wire bytes
ran_size wire [] p nest ended n e = absurd (cc)
ran_size wire (b ∷ more) p nest ended n e = by_next (ran_size wire more) (step_of wire p b nest) e
  where
    by_ran : (r : Ran) → ((up : List Slot) (k : ℕ) → r ≡ goes up k → (0 < k) × (k ≤ length more)) → behind r ≡ goes ended n → (0 < n) × (n ≤ length (b ∷ more))
    by_ran (goes up k) sized e =
        let size : k + 1 ≡ n = cc in
        let s = sized up k refl in
        (omega (arith, size), omega (arith, size, s.1))
    by_ran short sized e = absurd (cc)
    by_ran wrong sized e = absurd (cc)

    by_next : Sized wire more → (x : Next × List Slot) → led x.0 x.1 (run wire more) ≡ goes ended n → (0 < n) × (n ≤ length (b ∷ more))
    by_next sized (next.Part q, up) e = by_ran (run wire more q up) (λ last k s. sized q up last k s) e
    by_next sized (next.Ended, up) e = let size : 1 ≡ n = cc in (omega (arith, size), omega (arith, size))
    by_next sized (next.Bad, up) e = absurd (cc)

-- whatever follows them
abbrev Fronted : Wire → List ℕ → List ℕ → Type 0
Fronted wire bytes more = (p : Part) (nest ended : List Slot) (n : ℕ) → run wire bytes p nest ≡ goes ended n → run wire (take n bytes ++ more) p nest ≡ goes ended n

pub ran_front : (wire : Wire) (bytes more : List ℕ) → Fronted wire bytes more
ran_front wire [] more p nest ended n e = absurd (cc)
ran_front wire (b ∷ rest) more p nest ended n e = by_next (ran_front wire rest more) (step_of wire p b nest) refl e
  where
    -- behind the first byte
    behind_first : (k : ℕ) (x : Next × List Slot) → step_of wire p b nest ≡ x → led x.0 x.1 (run wire (take k rest ++ more)) ≡ goes ended n → suc k ≡ n → run wire (take n (b ∷ rest) ++ more) p nest ≡ goes ended n
    behind_first k x s r size =
        subst (λ j. run wire (take j (b ∷ rest) ++ more) p nest ≡ goes ended n) size
        (subst (λ (y : Next × List Slot). led y.0 y.1 (run wire (take k rest ++ more)) ≡ goes ended n) (sym s) r)

    by_ran : Fronted wire rest more → (q : Part) (up : List Slot) → step_of wire p b nest ≡ (next.Part q, up) → (r : Ran) → run wire rest q up ≡ r → behind r ≡ goes ended n → run wire (take n (b ∷ rest) ++ more) p nest ≡ goes ended n
    by_ran fronted q up s (goes last k) t e =
        let size : k + 1 ≡ n = cc in
        behind_first k (next.Part q, up) s (ap behind (fronted q up last k t) ∙ e) (omega (arith, size))
    by_ran fronted q up s short t e = absurd (cc)
    by_ran fronted q up s wrong t e = absurd (cc)

    by_next : Fronted wire rest more → (x : Next × List Slot) → step_of wire p b nest ≡ x → led x.0 x.1 (run wire rest) ≡ goes ended n → run wire (take n (b ∷ rest) ++ more) p nest ≡ goes ended n
    by_next fronted (next.Part q, up) s e = by_ran fronted q up s (run wire rest q up) refl e
    by_next fronted (next.Ended, up) s e = let size : 1 ≡ n = cc in behind_first 0 (next.Ended, up) s e size
    by_next fronted (next.Bad, up) s e = absurd (cc)

-- and fewer are the beginning of an item
abbrev Shortened : Wire → List ℕ → Type 0
Shortened wire bytes = (p : Part) (nest ended : List Slot) (n j : ℕ) → run wire bytes p nest ≡ goes ended n → j < n → run wire (take j bytes) p nest ≡ short

pub ran_short : (wire : Wire) (bytes : List ℕ) → Shortened wire bytes
ran_short wire bytes p nest ended n zero e less = refl
ran_short wire [] p nest ended n (suc i) e less = absurd (cc)
ran_short wire (b ∷ rest) p nest ended n (suc i) e less = by_next (ran_short wire rest) (step_of wire p b nest) refl e
  where
    first : (x : Next × List Slot) → step_of wire p b nest ≡ x → led x.0 x.1 (run wire (take i rest)) ≡ short → run wire (take (suc i) (b ∷ rest)) p nest ≡ short
    first x s r = subst (λ (y : Next × List Slot). led y.0 y.1 (run wire (take i rest)) ≡ short) (sym s) r

    by_ran : Shortened wire rest → (q : Part) (up : List Slot) → step_of wire p b nest ≡ (next.Part q, up) → (r : Ran) → run wire rest q up ≡ r → behind r ≡ goes ended n → run wire (take (suc i) (b ∷ rest)) p nest ≡ short
    by_ran shortened q up s (goes last k) t e =
        let size : k + 1 ≡ n = cc in
        first (next.Part q, up) s (ap behind (shortened q up last k i t (omega (arith, less, size))))
    by_ran shortened q up s short t e = absurd (cc)
    by_ran shortened q up s wrong t e = absurd (cc)

    by_next : Shortened wire rest → (x : Next × List Slot) → step_of wire p b nest ≡ x → led x.0 x.1 (run wire rest) ≡ goes ended n → run wire (take (suc i) (b ∷ rest)) p nest ≡ short
    by_next shortened (next.Part q, up) s e = by_ran shortened q up s (run wire rest q up) refl e
    by_next shortened (next.Ended, up) s e = let size : 1 ≡ n = cc in absurd (omega (arith, less, size))
    by_next shortened (next.Bad, up) s e = absurd (cc)

-- ---- bytes

pub front_bytes : (n : ℕ) (bytes : List ℕ) → AreBytes bytes → AreBytes (take n bytes)
front_bytes zero bytes are = tt
front_bytes (suc n) [] are = tt
front_bytes (suc n) (x ∷ bytes) are = (are.0, front_bytes n bytes are.1)

pub later_bytes : (n : ℕ) (bytes : List ℕ) → AreBytes bytes → AreBytes (drop n bytes)
later_bytes zero bytes are = are
later_bytes (suc n) [] are = tt
later_bytes (suc n) (x ∷ bytes) are = later_bytes n bytes are.1

both_bytes : (xs ys : List ℕ) → AreBytes xs → AreBytes ys → AreBytes (xs ++ ys)
both_bytes [] ys a b = b
both_bytes (x ∷ xs) ys a b = (a.0, both_bytes xs ys a.1 b)

pub whole_bytes : (piece : List ℕ) → ((i : ℕ) → get_or piece i 0 < 256) → AreBytes piece
whole_bytes [] h = tt
whole_bytes (x ∷ piece) h = (h 0, whole_bytes piece (λ i. h (suc i)))

behind_front : (n : ℕ) (bytes more : List ℕ) → n ≤ length bytes → drop n (take n bytes ++ more) ≡ more
behind_front zero bytes more h = refl
behind_front (suc n) [] more h = absurd (omega arith)
behind_front (suc n) (x ∷ bytes) more h = behind_front n bytes more (omega arith)

-- ---- one item

module _ (s : Scanning) (front bytes : List ℕ) (n : ℕ) (ended next : List Slot) (are : AreBytes bytes) (ran : run s.wire bytes s.part s.nest ≡ goes ended n)
    (called : settles (tells_bools s.wire) ended ≡ (settled.Item, next)) (room : length front + n < s.limit) (read : HasRead s front) where
  size : n ≤ length bytes
  size = (ran_size s.wire bytes s.part s.nest ended n ran).1

  outcome : Outcome s.wire ended (settled.Item, next)
  outcome = subst (λ (y : Settled × List Slot). Outcome s.wire ended y) called (settled_body s.wire ended)

  found_behind : (found : Found) (more : List ℕ) → AreBytes more → RanTo s.wire found more (run s.wire more part.Item next) → IsFront s.wire found ((front ++ take n bytes) ++ more)
  found_behind found more m r =
      subst (λ l. IsFront s.wire found l) (sym (append_assoc front (take n bytes) more))
      (read.goes_on found (take n bytes ++ more) (both_bytes (take n bytes) more (front_bytes n bytes are) m)
      (subst (λ (x : Ran). RanTo s.wire found (take n bytes ++ more) x) (sym (ran_front s.wire bytes more s.part s.nest ended n ran))
      (λ flag. subst (λ l. IsBody s.wire found ended flag l) (sym (behind_front n bytes more size)) (outcome.1 found more (ready_body s.wire next outcome.0 found more m r) flag))))

  all_cut : IsFront s.wire cut (front ++ take n bytes)
  all_cut = subst (λ l. IsFront s.wire cut l) (append-nil (front ++ take n bytes)) (found_behind cut [] tt refl)

  some_cut : (j : ℕ) → j ≤ n → IsFront s.wire cut (front ++ take j bytes)
  some_cut j within = by_test (nat_lt j n) refl
    where
      by_test : (b : Bool) → nat_lt j n ≡ b → IsFront s.wire cut (front ++ take j bytes)
      by_test true e =
          let less : j < n = grind (arith, nat_tests) in
          read.goes_on cut (take j bytes) (front_bytes j bytes are)
          (subst (λ (x : Ran). RanTo s.wire cut (take j bytes) x) (sym (ran_short s.wire bytes s.part s.nest ended n j ran less)) refl)
      by_test false e =
          let least : n ≤ j = grind (arith, nat_tests) in
          let same : n ≡ j = omega (arith, least, within) in
          subst (λ k. IsFront s.wire cut (front ++ take k bytes)) same all_cut

  all_size : length (front ++ take n bytes) ≡ length front + n
  all_size = length-append front (take n bytes) ∙ ap (λ k. length front + k) (length-take-le n bytes size)

  fronts_cut : (k : ℕ) → k ≤ length (front ++ take n bytes) → IsFront s.wire cut (take k (front ++ take n bytes))
  fronts_cut k within = by_test (nat_le k (length front)) refl
    where
      by_test : (b : Bool) → nat_le k (length front) ≡ b → IsFront s.wire cut (take k (front ++ take n bytes))
      by_test true e = let le : k ≤ length front = grind (arith, nat_tests) in rw (take-append-le) (read.begins k le)
      by_test false e =
          let more : length front < k = grind (arith, nat_tests) in
          let few : k - length front ≤ n = omega (arith, within, all_size) in
          let whole : length front + (k - length front) ≡ k = omega (arith, more) in
          subst (λ j. IsFront s.wire cut (take j (front ++ take n bytes))) whole
          (subst (λ l. IsFront s.wire cut l)
          (sym (whole_front (k - length front) front (take n bytes) ∙ ap (λ l. front ++ l) (take-take (k - length front) n bytes few)))
          (some_cut (k - length front) few))

  -- the scan has read the item, and a byte of the next one is called for
  pub item_passed : HasRead (record s { taken = s.taken + n; part = part.Item; nest = next }) (front ++ take n bytes)
  item_passed = record {
    taken = omega (arith, read.taken, all_size);
    room = omega (arith, room, all_size);
    fits = read.fits;
    begins = fronts_cut;
    goes_on = found_behind;
  }

-- ---- item after item

abbrev at_item : Wire → ℕ → ℕ → List Slot → Scanning
at_item wire limit taken nest = record { wire = wire; limit = limit; taken = taken; part = part.Item; nest = nest }

pub spans_read : (wire : Wire) (limit taken : ℕ) (front bytes : List ℕ) (nest last : List Slot) (n : ℕ) → Spans wire bytes nest n last → AreBytes bytes → length front + n < limit
    → HasRead (at_item wire limit taken nest) front → HasRead (at_item wire limit (taken + n) last) (front ++ take n bytes)
spans_read wire limit taken front _ _ _ _ (nothing bytes nest) are room read =
    subst (λ l. HasRead (at_item wire limit (taken + 0) nest) l) (sym (append-nil front))
    (subst (λ k. HasRead (at_item wire limit k nest) front) (sym (none taken)) read)
  where
    none : (k : ℕ) → k + 0 ≡ k
    none k = omega arith
spans_read wire limit taken front _ _ _ _ (item bytes nest ended next last n m ran called more) are room read =
    let size = (ran_size wire bytes part.Item nest ended n ran).1 in
    let one = item_passed (at_item wire limit taken nest) front bytes n ended next are ran called (omega (arith, room)) read in
    let long : length (front ++ take n bytes) ≡ length front + n = length-append front (take n bytes) ∙ ap (λ k. length front + k) (length-take-le n bytes size) in
    let all = spans_read wire limit (taken + n) (front ++ take n bytes) (drop n bytes) next last m more (later_bytes n bytes are) (omega (arith, room, long)) one in
    subst (λ k. HasRead (at_item wire limit k last) (front ++ take (n + m) bytes)) (on taken n m)
    (subst (λ l. HasRead (at_item wire limit ((taken + n) + m) last) l) (append_assoc front (take n bytes) (take m (drop n bytes)) ∙ ap (λ l. front ++ l) (sym (take-add n m bytes))) all)
  where
    on : (a b c : ℕ) → (a + b) + c ≡ a + (b + c)
    on a b c = omega arith

pub spans_within : (wire : Wire) (bytes : List ℕ) (nest last : List Slot) (n : ℕ) → Spans wire bytes nest n last → n ≤ length bytes
spans_within wire _ _ _ _ (nothing bytes nest) = omega arith
spans_within wire _ _ _ _ (item bytes nest ended next last n m ran called more) =
    let size = (ran_size wire bytes part.Item nest ended n ran).1 in
    let rest = spans_within wire (drop n bytes) next last m more in
    omega (arith, size, rest, length-drop n bytes)

-- one item
pub one_item : (wire : Wire) (bytes : List ℕ) (nest ended next : List Slot) (n : ℕ) → run wire bytes part.Item nest ≡ goes ended n → settles (tells_bools wire) ended ≡ (settled.Item, next) → Spans wire bytes nest n next
one_item wire bytes nest ended next n ran called = subst (λ k. Spans wire bytes nest k next) (none n) (item bytes nest ended next next n 0 ran called (nothing (drop n bytes) next))
  where
    none : (k : ℕ) → k + 0 ≡ k
    none k = omega arith

-- one behind another
pub spans_join : (wire : Wire) (bytes : List ℕ) (nest mid last : List Slot) (n m : ℕ) → Spans wire bytes nest n mid → Spans wire (drop n bytes) mid m last → Spans wire bytes nest (n + m) last
spans_join wire _ _ _ last _ m (nothing bytes nest) more = subst (λ k. Spans wire bytes nest k last) (none m) more
  where
    none : (k : ℕ) → k ≡ 0 + k
    none k = omega arith
spans_join wire _ _ _ last _ m (item bytes nest ended next mid n k ran called rest) more =
    subst (λ j. Spans wire bytes nest j last) (on n k m)
    (item bytes nest ended next last n (k + m) ran called (spans_join wire (drop n bytes) next mid last k m rest (subst (λ l. Spans wire l mid m last) (sym (drop-drop k n bytes)) more)))
  where
    on : (a b c : ℕ) → a + (b + c) ≡ (a + b) + c
    on a b c = omega arith

-- ---- what a scan passes over

pub spans_passed : (old s : Scanning) → old ≡ s → (front bytes piece : List ℕ) (n taken : ℕ) (last : List Slot) → s.wire ≡ wires.Binary → s.part ≡ part.Item → Spans wires.Binary bytes old.nest n last → AreBytes bytes → take n bytes ≡ take n piece
    → taken ≡ old.taken + n → old.taken + n < old.limit → HasRead s front → Passes s front (take n piece) (record old { taken = taken; nest = last })
spans_passed old s same front bytes piece n taken last wire at spans are front_is taken_is room read =
    subst (λ (z : Scanning). Passes s front (take n piece) (record z { taken = taken; nest = last })) (sym same)
    (subst (λ l. Passes s front l (record s { taken = taken; nest = last })) front_is
    (subst (λ k. Passes s front (take n bytes) (record s { taken = k; nest = last })) (sym (taken_is ∙ ap (λ (z : Scanning). z.taken + n) same))
    (subst (λ p. HasRead (record s { taken = s.taken + n; part = p; nest = last }) (front ++ take n bytes)) (sym at) all, refl, refl)))
  where
    here : Spans s.wire bytes s.nest n last
    here = subst (λ w. Spans w bytes s.nest n last) (sym wire) (subst (λ (z : Scanning). Spans wires.Binary bytes z.nest n last) same spans)

    all : HasRead (at_item s.wire s.limit (s.taken + n) last) (front ++ take n bytes)
    all = spans_read s.wire s.limit s.taken front bytes s.nest last n here are
        (omega (arith, room, read.taken, ap (λ (z : Scanning). z.taken) same, ap (λ (z : Scanning). z.limit) same)) (subst (λ p. HasRead (record s { part = p }) front) at read)

top_is : (nest : List Slot) (slot : Slot) → Some slot ≡ first_of nest → nest ≡ slot ∷ rest_of nest
top_is [] slot e = absurd (none e)
  where
    none : Some slot ≡ None → ⊥
    none h = absurd (cc)
top_is (x ∷ up) slot e = ap (λ (s : Slot). s ∷ up) (sym (same_Some _ _ e))

pub header_passed : (old s : Scanning) → old ≡ s → (front bytes piece : List ℕ) (n taken : ℕ) (last : ℤ) → s.wire ≡ wires.Binary → s.part ≡ part.Binary binary.Start → Some (slots.Fields last) ≡ first_of old.nest
    → ((up : List Slot) → settles (tells_bools wires.Binary) (slots.Fields last ∷ up) ≡ (settled.Item, slots.Fields last ∷ up)) → IsHeader bytes n → AreBytes bytes → take n bytes ≡ take n piece → taken ≡ old.taken + n
    → old.taken + n < old.limit → HasRead s front → HasRead (record old { taken = taken; part = part.Item }) (front ++ take n piece)
header_passed old s same front bytes piece n taken last wire at top called header are front_is taken_is room read =
    subst (λ (z : Scanning). HasRead (record z { taken = taken; part = part.Item }) (front ++ take n piece)) (sym same)
    (subst (λ l. HasRead (record s { taken = taken; part = part.Item }) (front ++ l)) front_is
    (subst (λ k. HasRead (record s { taken = k; part = part.Item }) (front ++ take n bytes)) (sym (taken_is ∙ ap (λ (z : Scanning). z.taken + n) same))
    (item_passed s front bytes n s.nest s.nest are ran settled_is (omega (arith, room, read.taken, ap (λ (z : Scanning). z.taken) same, ap (λ (z : Scanning). z.limit) same)) read)))
  where
    nest_is : s.nest ≡ slots.Fields last ∷ rest_of s.nest
    nest_is = top_is s.nest (slots.Fields last) (top ∙ ap (λ (z : Scanning). first_of z.nest) same)

    ran : run s.wire bytes s.part s.nest ≡ goes s.nest n
    ran =
        subst (λ w. run w bytes s.part s.nest ≡ goes s.nest n) (sym wire)
        (subst (λ p. run wires.Binary bytes p s.nest ≡ goes s.nest n) (sym at)
        (subst (λ (l : List Slot). run wires.Binary bytes (part.Binary binary.Start) l ≡ goes l n) (sym nest_is) (header.ran last (rest_of s.nest))))

    settled_is : settles (tells_bools s.wire) s.nest ≡ (settled.Item, s.nest)
    settled_is =
        subst (λ w. settles (tells_bools w) s.nest ≡ (settled.Item, s.nest)) (sym wire)
        (subst (λ (l : List Slot). settles (tells_bools wires.Binary) l ≡ (settled.Item, l)) (sym nest_is) (called (rest_of s.nest)))

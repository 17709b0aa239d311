-- One byte takes a scan on as the protocol's reader reads.
use Rattle.std.proofs.Common.{◌≡◌, ℕ, zero, suc, ◌+◌, ◌-◌, ◌^◌, ◌<◌, ◌≤◌, inl, inr, Bool, true, false, cond, List, [], ◌∷◌, ◌++◌, length, take, drop, get_or, append-nil, ap, Ok, Err, refl, arith, sym, ◌∙◌, subst, append_assoc, length-append}
use Rattle.std.specs.Prelude.{nat_le, min}
use Rattle.std.proofs.lemmas.Bool.Decides.{nat_tests}
use Rattle.std.proofs.lemmas.List.{take-append-le, take_all}
use Rattle.gate_base.specs.Bytes.{AreBytes}
use Rattle.thrift_value.specs.Items.{Item}
use Rattle.protocol_traits.specs.declared.fault.Fault.{Fault}
use Rattle.protocol_traits.specs.declared.nest.Slot.{Slot}
use Rattle.protocol_traits.specs.Heads.{Header}
use Rattle.protocol_traits.specs.Steps.{Step}
use Rattle.stream_messages.specs.declared.scan.Wire.{Wire}
use Rattle.stream_messages.specs.declared.scan.Taken.TheVariants as took
use Rattle.stream_messages.specs.declared.levels.Settled.{Settled}
use Rattle.stream_messages.specs.declared.levels.Settled.TheVariants as settled
use Rattle.stream_messages.specs.declared.parts.Next.{Next}
use Rattle.stream_messages.specs.declared.parts.Next.TheVariants as next
use Rattle.stream_messages.specs.declared.parts.Part.{Part}
use Rattle.stream_messages.specs.declared.parts.Part.TheVariants as part
use Rattle.stream_messages.specs.Levels.{settles}
use Rattle.stream_messages.specs.Scanning.{Scanning, first_part, begins, tells_bools, step_of, waits, with_levels, settled_in, led_by, counted, takes}
use Rattle.stream_messages.specs.Fronts.{Found, whole, cut, bad, head_at, item_at, IsBody, IsFront}
use Rattle.stream_messages.specs.Feeding.{Passes, Ran, goes, short, wrong, behind, led, run, RanTo, HasRead, TakesOne}
use Rattle.stream_messages.proofs.Bodies.{Bodies, one_item, no_item}
use Rattle.stream_messages.proofs.Settling.{IsReady, Outcome, settled_body}
use Rattle.stream_messages.proofs.Seen.{is_cut, cut_reason, other_reason, seen, seen_head, body_open}
use Rattle.stream_messages.proofs.Reading.{item_law, head_law}

-- ---- what the automaton finds, the reader finds

not_empty : (wire : Wire) (nest : List Slot) → IsReady wire nest → nest ≡ [] → ⊥
not_empty wire [] h e = h
not_empty wire (slot ∷ up) h e = absurd (cc)

pub ready_body : (wire : Wire) (nest : List Slot) → IsReady wire nest → (found : Found) (bytes : List ℕ) → AreBytes bytes → RanTo wire found bytes (run wire bytes part.Item nest) → Bodies wire found nest bytes
ready_body wire nest ready found bytes are h flag =
    by_step (item_at wire nest flag bytes) refl (subst (λ r. RanTo wire found bytes r) (sym (item_law wire nest flag bytes ready are)) h)
  where
    by_reason : (f : Fault) → item_at wire nest flag bytes ≡ Err f → (b : Bool) → is_cut f.reason ≡ b → RanTo wire found bytes (cond b short wrong) → IsBody wire found nest flag bytes
    by_reason f e true t k = subst (λ x. IsBody wire x nest flag bytes) (sym k) (no_item wire cut nest flag bytes (not_empty wire nest ready, (f, e, cut_reason f.reason t)))
    by_reason f e false t k = subst (λ x. IsBody wire x nest flag bytes) (sym k) (no_item wire bad nest flag bytes (not_empty wire nest ready, (f, e, other_reason f.reason t)))

    by_step : (step : Step ℕ Item) → item_at wire nest flag bytes ≡ step → RanTo wire found bytes (seen nest step) → IsBody wire found nest flag bytes
    by_step (Ok x) e k = one_item wire found nest flag bytes x.0 x.1 e k
    by_step (Err f) e k = by_reason f e (is_cut f.reason) refl k

front_found : (wire : Wire) (found : Found) (bytes : List ℕ) → AreBytes bytes → RanTo wire found bytes (run wire bytes (first_part wire) body_open) → IsFront wire found bytes
front_found wire found bytes are h =
    by_step (head_at wire bytes) refl (subst (λ r. RanTo wire found bytes r) (sym (head_law wire bytes are)) h)
  where
    by_reason : (f : Fault) → head_at wire bytes ≡ Err f → (b : Bool) → is_cut f.reason ≡ b → RanTo wire found bytes (cond b short wrong) → IsFront wire found bytes
    by_reason f e true t k = subst (λ x. IsFront wire x bytes) (sym k) (inl (f, e, cut_reason f.reason t))
    by_reason f e false t k = subst (λ x. IsFront wire x bytes) (sym k) (inl (f, e, other_reason f.reason t))

    by_step : (step : Step ℕ Header) → head_at wire bytes ≡ step → RanTo wire found bytes (seen_head step) → IsFront wire found bytes
    by_step (Ok x) e k = inr (x.0, x.1, e, k false)
    by_step (Err f) e k = by_reason f e (is_cut f.reason) refl k

-- ---- one byte

-- one byte in front moves the end of an item by one
shift_ran : (wire : Wire) (found : Found) (byte : ℕ) (more : List ℕ) (r : Ran) → RanTo wire found more r → RanTo wire found (byte ∷ more) (behind r)
shift_ran wire found byte more (goes nest size) h = λ flag. subst (λ n. IsBody wire found nest flag (drop n (byte ∷ more))) (the_next size) (h flag)
  where
    the_next : (n : ℕ) → suc n ≡ n + 1
    the_next n = omega arith
shift_ran wire found byte more short h = h
shift_ran wire found byte more wrong h = h

module _ (s : Scanning) (front : List ℕ) (byte : ℕ) (small : byte < 256) (read : HasRead s front) where
  cut_fronts : IsFront s.wire cut (front ++ byte ∷ []) → (n : ℕ) → n ≤ length (front ++ byte ∷ []) → IsFront s.wire cut (take n (front ++ byte ∷ []))
  cut_fronts last n h = by_test (nat_le n (length front)) refl
    where
      by_test : (b : Bool) → nat_le n (length front) ≡ b → IsFront s.wire cut (take n (front ++ byte ∷ []))
      by_test true e = let le : n ≤ length front = grind (arith, nat_tests) in rw (take-append-le) (read.begins n le)
      by_test false e =
          let more : length front < n = grind (arith, nat_tests) in
          let all : length (front ++ byte ∷ []) ≤ n = omega (arith, length-append front (byte ∷ [])) in
          subst (λ l. IsFront s.wire cut l) (sym (take_all n (front ++ byte ∷ []) all)) last

  waits_law : (taken : ℕ) (q : Part) (nest : List Slot) (p : Part) → taken ≡ length front + 1
      → ((found : Found) (more : List ℕ) → AreBytes more → RanTo s.wire found more (run s.wire more p nest) → IsFront s.wire found (front ++ byte ∷ more))
      → TakesOne s front byte (waits p (record { wire = s.wire; limit = s.limit; taken = taken; part = q; nest = nest })).0 (waits p (record { wire = s.wire; limit = s.limit; taken = taken; part = q; nest = nest })).1
  waits_law taken q nest p n h = by_test (nat_le s.limit taken) refl
    where
      by_test : (b : Bool) → nat_le s.limit taken ≡ b → TakesOne s front byte (cond b took.Over took.More) (record { wire = s.wire; limit = s.limit; taken = taken; part = p; nest = nest })
      by_test true e =
          let le : s.limit ≤ taken = grind (arith, nat_tests) in
          (h cut [] tt refl, omega (arith, read.room))
      by_test false e =
          let less : taken < s.limit = grind (arith, nat_tests) in
          let size : length (front ++ byte ∷ []) ≡ length front + 1 = length-append front (byte ∷ []) in (
            record {
              taken = n ∙ sym size;
              room = omega arith;
              fits = read.fits;
              begins = cut_fronts (h cut [] tt refl);
              goes_on = λ found more are finds. subst (λ l. IsFront s.wire found l) (sym (append_assoc front (byte ∷ []) more)) (h found more are finds);
            },
            refl,
            refl,
          )

  -- the byte, and then what the step leads to
  found_by : (found : Found) (more : List ℕ) (x : Next × List Slot) → step_of s.wire s.part byte s.nest ≡ x → AreBytes more
      → RanTo s.wire found (byte ∷ more) (led x.0 x.1 (run s.wire more)) → IsFront s.wire found (front ++ byte ∷ more)
  found_by found more x e are h = read.goes_on found (byte ∷ more) (small, are) (subst (λ (y : Next × List Slot). RanTo s.wire found (byte ∷ more) (led y.0 y.1 (run s.wire more))) (sym e) h)

  counts : min (s.taken + 1) (2 ^ 64 - 1) ≡ length front + 1
  counts = omega (arith, read.taken, read.room, read.fits)

  settle_law : (nest : List Slot) → step_of s.wire s.part byte s.nest ≡ (next.Ended, nest) → (y : Settled × List Slot) → Outcome s.wire nest y
      → TakesOne s front byte (settled_in (with_levels (counted s) y.1) y.0).0 (settled_in (with_levels (counted s) y.1) y.0).1
  settle_law nest e (settled.Whole, last) h = found_by whole [] (next.Ended, nest) e tt h
  settle_law nest e (settled.TooDeep, last) h = found_by bad [] (next.Ended, nest) e tt h
  settle_law nest e (settled.Item, last) h =
      waits_law (min (s.taken + 1) (2 ^ 64 - 1)) s.part last part.Item counts
      (λ found more are r. found_by found more (next.Ended, nest) e are (h.1 found more (ready_body s.wire last h.0 found more are r)))

  step_law : (x : Next × List Slot) → step_of s.wire s.part byte s.nest ≡ x → TakesOne s front byte (led_by (with_levels (counted s) x.1) x.0).0 (led_by (with_levels (counted s) x.1) x.0).1
  step_law (next.Part p, nest) e =
      waits_law (min (s.taken + 1) (2 ^ 64 - 1)) s.part nest p counts
      (λ found more are r. found_by found more (next.Part p, nest) e are (shift_ran s.wire found byte more (run s.wire more p nest) r))
  step_law (next.Ended, nest) e = settle_law nest e (settles (tells_bools s.wire) nest) (settled_body s.wire nest)
  step_law (next.Bad, nest) e = found_by bad [] (next.Bad, nest) e tt refl

pub takes_law : (s : Scanning) (front : List ℕ) (byte : ℕ) → byte < 256 → HasRead s front → TakesOne s front byte (takes byte s).0 (takes byte s).1
takes_law s front byte small read = step_law s front byte small read (step_of s.wire s.part byte s.nest) refl

-- before the first byte
pub begun : (wire : Wire) (limit : ℕ) → 0 < limit → limit < 2 ^ 64 → HasRead (begins wire limit) []
begun wire limit some fits = record {
  taken = refl;
  room = some;
  fits = fits;
  begins = λ n h. subst (λ l. IsFront wire cut l) (sym (none n)) (front_found wire cut [] tt refl);
  goes_on = λ found more are h. front_found wire found more are h;
}
  where
    none : (n : ℕ) → take {A = ℕ} n [] ≡ []
    none zero = refl
    none (suc n) = refl

-- ---- bytes of any value

pass_one : (s : Scanning) (front : List ℕ) (byte left : ℕ) → byte < 256 → s.part ≡ part.Any left → 1 < left → length front + 1 < s.limit → HasRead s front
    → HasRead (record s { taken = s.taken + 1; part = part.Any (left - 1) }) (front ++ byte ∷ [])
pass_one s front byte left small is many room read =
    let size : length (front ++ byte ∷ []) ≡ length front + 1 = length-append front (byte ∷ []) in
    record {
      taken = omega (arith, read.taken, size);
      room = omega (arith, size);
      fits = read.fits;
      begins = cut_fronts s front byte small read (by_more cut [] tt refl);
      goes_on = λ found more are finds. subst (λ l. IsFront s.wire found l) (sym (append_assoc front (byte ∷ []) more)) (by_more found more are finds);
    }
  where
    step_is : step_of s.wire s.part byte s.nest ≡ (next.Part (part.Any (left - 1)), s.nest)
    step_is = subst (λ p. step_of s.wire p byte s.nest ≡ (next.Part (part.Any (left - 1)), s.nest)) (sym is) (grind (arith, nat_tests))

    by_more : (found : Found) (more : List ℕ) → AreBytes more → RanTo s.wire found more (run s.wire more (part.Any (left - 1)) s.nest) → IsFront s.wire found (front ++ byte ∷ more)
    by_more found more are r = found_by s front byte small read found more (next.Part (part.Any (left - 1)), s.nest) step_is are
        (shift_ran s.wire found byte more (run s.wire more (part.Any (left - 1)) s.nest) r)

pub pass_many : (passed : List ℕ) (s : Scanning) (front : List ℕ) (left taken now : ℕ) → AreBytes passed → s.part ≡ part.Any left → taken ≡ s.taken + length passed
    → now + length passed ≡ left → 0 < now → length front + length passed < s.limit → HasRead s front
    → HasRead (record s { taken = taken; part = part.Any now }) (front ++ passed)
pass_many [] s front left taken now are is t n some room read =
    subst (λ l. HasRead (record s { taken = taken; part = part.Any now }) l) (sym (append-nil front))
    (subst (λ k. HasRead (record s { taken = k; part = part.Any now }) front) (sym (omega (arith, t)))
    (subst (λ p. HasRead (record s { part = p }) front) (is ∙ ap (λ k. part.Any k) (sym (omega (arith, n)))) read))
pass_many (byte ∷ more) s front left taken now are is t n some room read =
    subst (λ l. HasRead (record s { taken = taken; part = part.Any now }) l) (append_assoc front (byte ∷ []) more)
    (pass_many more (record s { taken = s.taken + 1; part = part.Any (left - 1) }) (front ++ byte ∷ []) (left - 1) taken now are.1 refl (omega (arith, t)) (omega (arith, n)) some
    (omega (arith, room, length-append front (byte ∷ []))) (pass_one s front byte left are.0 is (omega (arith, n, some)) (omega (arith, room)) read))

pub passed_on : (old s : Scanning) → old ≡ s → (front passed : List ℕ) (left taken now : ℕ) → AreBytes passed → old.part ≡ part.Any left → taken ≡ old.taken + length passed
    → now + length passed ≡ left → 0 < now → old.taken + length passed < old.limit → HasRead s front → Passes s front passed (record old { taken = taken; part = part.Any now })
passed_on old s same front passed left taken now are is t n some room read =
    let h : HasRead old front = subst (λ (z : Scanning). HasRead z front) (sym same) read in
    (pass_many passed old front left taken now are is t n some (omega (arith, room, h.taken)) h, ap (λ (z : Scanning). z.wire) same, ap (λ (z : Scanning). z.limit) same)

pub none_passed : (old s : Scanning) → old ≡ s → (front passed : List ℕ) → passed ≡ [] → HasRead s front → Passes s front passed old
none_passed old s same front passed none read =
    (subst (λ (z : Scanning). HasRead z (front ++ passed)) (sym same) (subst (λ l. HasRead s l) (sym (append-nil front) ∙ ap (λ l. front ++ l) (sym none)) read), ap (λ (z : Scanning). z.wire) same, ap (λ (z : Scanning). z.limit) same)

pub all_bytes : (n : ℕ) (piece : List ℕ) → ((i : ℕ) → get_or piece i 0 < 256) → AreBytes (take n piece)
all_bytes zero piece h = tt
all_bytes (suc n) [] h = tt
all_bytes (suc n) (x ∷ piece) h = (h 0, all_bytes n piece (λ i. h (suc i)))

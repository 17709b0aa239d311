-- What the hub over another one tells, where one session changes.
use Rattle.std.proofs.Common.{◌≡◌, ◌≢◌, ◌⊎◌, inl, inr, ℕ, ◌<◌, Bool, true, false, List, [], ◌∷◌, ◌++◌, length, Option, None, Some, refl, sym, ap, ◌∙◌, subst, arith, nat_eq, if◌then◌else◌}
use Rattle.std.specs.List.{slice_get, remove}
use Rattle.std.proofs.Math.ListN.{set}
use Rattle.std.proofs.lemmas.Bool.Decides.{nat_tests}
use Rattle.gate_hub.specs.Meaning.{Link, Told, Meaning, IsOpen, new_link, unasked}
use Rattle.gate_hub.specs.declared.hub.HubNext.TheVariants as event
use Rattle.gate_hub.specs.declared.hub.LinkGot.TheVariants as got
use Rattle.gate_hub.specs.declared.hub.LinkPut.TheVariants as put
use Rattle.http_front.specs.declared.slots.Slot.{Slot}
use Rattle.http_front.specs.Fronts.{Reading, nothing}
use Rattle.http_front.specs.Slots.{Open, IsRising, IsAt, HasNone, new_slot}
use Rattle.http_front.specs.Serving.{Wraps}
use Rattle.http_front.specs.Telling.{open_slots, InSlot, TellsSession, AreSlots, Tells}
use Rattle.http_front.proofs.Places.{decide, some_same, get_within, put_cases, behind_cases, get_before, shift_get, shift_rises, shift, unshift, get_put_other}

-- ---- a session in the place of another

abbrev pub at_number : ℕ → Told → (ℕ → Told) → ℕ → Told
at_number k t others j = if nat_eq j k then t else others j

pub at_it : (k : ℕ) (t : Told) (others : ℕ → Told) → at_number k t others k ≡ t
at_it k t others = grind (arith, nat_tests)

pub at_other : (k : ℕ) (t : Told) (others : ℕ → Told) (j : ℕ) → j ≢ k → at_number k t others j ≡ others j
at_other k t others j other = grind (arith, nat_tests)

-- ---- a client, as its slot stands

-- of a session to which nothing has happened
pub fresh_client : (r : Reading) (k : ℕ) → Wraps r (new_slot k r.limit) new_link new_link
fresh_client r k = record {
  fits = record { limit = refl; done = []; now = nothing; each = λ i e within. absurd (omega (arith, within)); goes_on = λ i e within. absurd (omega (arith, within)); received = refl; given = refl; sent = refl; written = refl; stands = refl };
  ended = λ e. absurd (cc);
  end_told = λ e. absurd (cc);
  waits = λ e. absurd (cc);
}

-- behind an event its last answers are none, also where there was none below
pub unasked_client : (r : Reading) (s : Slot) (inner outer : Link) → Wraps r s inner outer → Wraps r s inner (unasked outer)
unasked_client r s inner outer h = record { fits = h.fits; ended = h.ended; end_told = λ e. absurd (cc); waits = λ e. absurd (cc) }

pub below_unasked : (r : Reading) (s : Slot) (inner outer : Link) → Wraps r s inner outer → Wraps r s (unasked inner) outer
below_unasked r s inner outer h = record { fits = h.fits; ended = h.ended; end_told = h.end_told; waits = h.waits }

-- a read of a session without a slot fails, or a write that answers nothing
pub failed_client : (r : Reading) (s : Slot) (inner outer : Link) → Wraps r s inner outer → Wraps r s inner (record outer { last_read = Some got.Failed })
failed_client r s inner outer h = record { fits = h.fits; ended = h.ended; end_told = λ e. absurd (cc); waits = λ e. absurd (cc) }

pub unwritten_client : (r : Reading) (s : Slot) (inner outer : Link) → Wraps r s inner outer → Wraps r s inner (record outer { last_write = Some put.Failed })
unwritten_client r s inner outer h = record { fits = h.fits; ended = h.ended; end_told = h.end_told; waits = h.waits }

-- ---- one session changes

-- all but session k stand as they stood
pub record OthersStand (k : ℕ) (slots slots' : List Slot) : Type 0 where
  pub others : (j : ℕ) (own : Slot) (outer : Told) → j ≢ k → InSlot slots j own outer → InSlot slots' j own outer
  pub stood : (at : ℕ) (slot : Slot) → slice_get slots' at ≡ Some slot → (slot.number ≡ k) ⊎ ((at' : ℕ) × (slot' : Slot) × (slice_get slots at' ≡ Some slot') × (slot'.number ≡ slot.number))
  pub rising : IsRising slots'

-- the rest of what is told
pub record Behind (r : Reading) (slots : Option Open) (stopped : Bool) (n m : Meaning) : Type 0 where
  pub started : m.started ≡ n.started
  pub asked : m.last_event ≡ None → n.last_event ≡ None
  pub ends : m.last_event ≡ Some event.Stopped → stopped ≡ true
  pub slots_are : AreSlots r m.started slots

pub tells_on : (r : Reading) (slots slots' : Option Open) (stopped stopped' : Bool) (n n' m m' : Meaning) (k : ℕ) (t : Told) → Tells r slots stopped n m → OthersStand k (open_slots slots) (open_slots slots')
    → ((j : ℕ) → j ≢ k → n'.session j ≡ n.session j) → (n'.session k).announced ≡ true → TellsSession r (open_slots slots') k (n'.session k) t
    → ((j : ℕ) → m'.session j ≡ at_number k t m.session j) → ((at : ℕ) (slot : Slot) → IsAt (open_slots slots') k at slot → (t.announced ≡ true) × (t.closed ≡ false)) → Behind r slots' stopped' n' m' → Tells r slots' stopped' n' m'
tells_on r slots slots' stopped stopped' n n' m m' k t tells stand others known told sessions open_k behind = record {
  announced = λ j a. by_announced j a (decide j k);
  unknown = λ j a. by_unknown j a (decide j k);
  open_in = λ at slot is. by_open at slot is (decide slot.number k) (stand.stood at slot is);
  rising = stand.rising;
  started = behind.started;
  asked = behind.asked;
  ends = behind.ends;
  slots_are = behind.slots_are;
}
  where
    by_announced : (j : ℕ) → (n'.session j).announced ≡ true → (j ≡ k) ⊎ (j ≢ k) → TellsSession r (open_slots slots') j (n'.session j) (m'.session j)
    by_announced j a (inl e) =
        subst (λ i. TellsSession r (open_slots slots') i (n'.session i) (m'.session i)) (sym e)
        (subst (λ (x : Told). TellsSession r (open_slots slots') k (n'.session k) x) (sym (sessions k ∙ at_it k t m.session)) told)
    by_announced j a (inr e) =
        let s = tells.announced j (sym (ap (λ (x : Told). x.announced) (others j e)) ∙ a) in
        let s' : TellsSession r (open_slots slots') j (n.session j) (m.session j) =
        record { slot = s.slot; client = s.client; upstream = s.upstream; announced = s.announced; closed = s.closed; in_slot = λ c. stand.others j s.slot (m.session j) e (s.in_slot c) } in
        subst (λ (x : Told). TellsSession r (open_slots slots') j x (m'.session j)) (sym (others j e))
        (subst (λ (x : Told). TellsSession r (open_slots slots') j (n.session j) x) (sym (sessions j ∙ at_other k t m.session j e)) s')

    by_unknown : (j : ℕ) → (n'.session j).announced ≡ false → (j ≡ k) ⊎ (j ≢ k) → m'.session j ≡ n'.session j
    by_unknown j a (inl e) = absurd (both (n'.session k).announced known (ap (λ i. (n'.session i).announced) (sym e) ∙ a))
      where
        both : (b : Bool) → b ≡ true → b ≡ false → ⊥
        both true p q = absurd (cc)
        both false p q = absurd (cc)
    by_unknown j a (inr e) = sessions j ∙ (at_other k t m.session j e ∙ (tells.unknown j (sym (ap (λ (x : Told). x.announced) (others j e)) ∙ a) ∙ sym (others j e)))

    is_open : Told → Type 0
    is_open x = (x.announced ≡ true) × (x.closed ≡ false)

    by_open : (at : ℕ) (slot : Slot) → slice_get (open_slots slots') at ≡ Some slot → (slot.number ≡ k) ⊎ (slot.number ≢ k) → (slot.number ≡ k) ⊎ ((at' : ℕ) × (slot' : Slot) × (slice_get (open_slots slots) at' ≡ Some slot') × (slot'.number ≡ slot.number)) → IsOpen slot.number m'
    by_open at slot is (inl e) h =
        subst (λ i. is_open (m'.session i)) (sym e) (subst is_open (sym (sessions k ∙ at_it k t m.session)) (open_k at slot (record { is = is; number = e })))
    by_open at slot is (inr e) (inl h) = absurd (e h)
    by_open at slot is (inr e) (inr h) = subst is_open (sym (sessions slot.number ∙ at_other k t m.session slot.number e)) (subst (λ i. is_open (m.session i)) h.3 (tells.open_in h.0 h.1 h.2))

-- ---- the slots

pub same_slots : (k : ℕ) (slots : List Slot) → IsRising slots → OthersStand k slots slots
same_slots k slots rising = record { others = λ j own outer e h. h; stood = λ at slot is. inr (at, slot, is, refl); rising = rising }

pub set_slot : (k at : ℕ) (slots : List Slot) (slot slot' : Slot) → IsRising slots → IsAt slots k at slot → slot'.number ≡ k → OthersStand k slots (set slots at slot')
set_slot k at slots slot slot' rising was number = record {
  others = λ j own outer e h. record {
    held = λ i x is. by_held j own outer e h i x is (put_cases slots at slot' x i (get_within slots at slot was.is) is.is);
    missing = λ none. h.missing (λ i x is. by_missing j e none i x is (decide i at));
  };
  stood = λ i x is. by_stood x (put_cases slots at slot' x i (get_within slots at slot was.is) is);
  rising = λ i j d e less p q. by_rising i j d e less (put_cases slots at slot' d i (get_within slots at slot was.is) p) (put_cases slots at slot' e j (get_within slots at slot was.is) q);
}
  where
    by_held : (j : ℕ) (own : Slot) (outer : Told) → j ≢ k → InSlot slots j own outer → (i : ℕ) (x : Slot) → IsAt (set slots at slot') j i x → ((i ≡ at) × (x ≡ slot')) ⊎ ((i ≢ at) × (slice_get slots i ≡ Some x)) → x ≡ own
    by_held j own outer e h i x is (inl c) = absurd (e (sym is.number ∙ (ap (λ (s : Slot). s.number) c.1 ∙ number)))
    by_held j own outer e h i x is (inr c) = h.held i x (record { is = c.1; number = is.number })

    by_missing : (j : ℕ) → j ≢ k → HasNone (set slots at slot') j → (i : ℕ) (x : Slot) → IsAt slots j i x → (i ≡ at) ⊎ (i ≢ at) → ⊥
    by_missing j e none i x is (inl c) = e (sym is.number ∙ (ap (λ (s : Slot). s.number) (some_same (slice_get slots at) x slot (ap (λ i. slice_get slots i) (sym c) ∙ is.is) was.is) ∙ was.number))
    by_missing j e none i x is (inr c) = none i x (record { is = get_put_other slots at i slot' c ∙ is.is; number = is.number })

    by_stood : (x : Slot) → {i : ℕ} → ((i ≡ at) × (x ≡ slot')) ⊎ ((i ≢ at) × (slice_get slots i ≡ Some x)) → (x.number ≡ k) ⊎ ((at' : ℕ) × (s : Slot) × (slice_get slots at' ≡ Some s) × (s.number ≡ x.number))
    by_stood x (inl c) = inl (ap (λ (s : Slot). s.number) c.1 ∙ number)
    by_stood x {i} (inr c) = inr (i, x, c.1, refl)

    by_rising : (i j : ℕ) (d e : Slot) → i < j → ((i ≡ at) × (d ≡ slot')) ⊎ ((i ≢ at) × (slice_get slots i ≡ Some d)) → ((j ≡ at) × (e ≡ slot')) ⊎ ((j ≢ at) × (slice_get slots j ≡ Some e)) → d.number < e.number
    by_rising i j d e less (inl p) (inl q) = absurd (omega (arith, p.0, q.0, less))
    by_rising i j d e less (inl p) (inr q) =
        let n : d.number ≡ slot.number = ap (λ (s : Slot). s.number) p.1 ∙ (number ∙ sym was.number) in
        omega (arith, n, rising at j slot e (omega (arith, p.0, less)) was.is q.1)
    by_rising i j d e less (inr p) (inl q) =
        let n : e.number ≡ slot.number = ap (λ (s : Slot). s.number) q.1 ∙ (number ∙ sym was.number) in
        omega (arith, n, rising i at d slot (omega (arith, q.0, less)) p.1 was.is)
    by_rising i j d e less (inr p) (inr q) = rising i j d e less p.1 q.1

pub add_slot : (k : ℕ) (slots : List Slot) (slot : Slot) → IsRising slots → slot.number ≡ k → ((at : ℕ) (x : Slot) → slice_get slots at ≡ Some x → x.number < k) → OthersStand k slots (slots ++ slot ∷ [])
add_slot k slots slot rising number below = record {
  others = λ j own outer e h. record {
    held = λ i x is. by_held j own outer e h i x is (behind_cases slots slot x i is.is);
    missing = λ none. h.missing (λ i x is. none i x (record { is = get_before slots slot x i is.is; number = is.number }));
  };
  stood = λ i x is. by_stood i x (behind_cases slots slot x i is);
  rising = λ i j d e less p q. by_rising i j d e less (behind_cases slots slot d i p) (behind_cases slots slot e j q);
}
  where
    by_held : (j : ℕ) (own : Slot) (outer : Told) → j ≢ k → InSlot slots j own outer → (i : ℕ) (x : Slot) → IsAt (slots ++ slot ∷ []) j i x → ((i ≡ length slots) × (x ≡ slot)) ⊎ (slice_get slots i ≡ Some x) → x ≡ own
    by_held j own outer e h i x is (inl c) = absurd (e (sym is.number ∙ (ap (λ (s : Slot). s.number) c.1 ∙ number)))
    by_held j own outer e h i x is (inr c) = h.held i x (record { is = c; number = is.number })

    by_stood : (i : ℕ) (x : Slot) → ((i ≡ length slots) × (x ≡ slot)) ⊎ (slice_get slots i ≡ Some x) → (x.number ≡ k) ⊎ ((at' : ℕ) × (s : Slot) × (slice_get slots at' ≡ Some s) × (s.number ≡ x.number))
    by_stood i x (inl c) = inl (ap (λ (s : Slot). s.number) c.1 ∙ number)
    by_stood i x (inr c) = inr (i, x, c, refl)

    by_rising : (i j : ℕ) (d e : Slot) → i < j → ((i ≡ length slots) × (d ≡ slot)) ⊎ (slice_get slots i ≡ Some d) → ((j ≡ length slots) × (e ≡ slot)) ⊎ (slice_get slots j ≡ Some e) → d.number < e.number
    by_rising i j d e less (inl p) (inl q) = absurd (omega (arith, p.0, q.0, less))
    by_rising i j d e less (inl p) (inr q) = absurd (omega (arith, p.0, less, get_within slots j e q))
    by_rising i j d e less (inr p) (inl q) = let n : e.number ≡ k = ap (λ (s : Slot). s.number) q.1 ∙ number in omega (arith, n, below i d p)
    by_rising i j d e less (inr p) (inr q) = rising i j d e less p q

pub remove_slot : (k at : ℕ) (slots : List Slot) (slot : Slot) → IsRising slots → IsAt slots k at slot → OthersStand k slots (remove slots at)
remove_slot k at slots slot rising was =
    let within : at < length slots = get_within slots at slot was.is in
    record {
      others = λ j own outer e h. record {
        held = λ i x is. h.held (shift at i) x (record { is = sym (shift_get slots at i within) ∙ is.is; number = is.number });
        missing = λ none. h.missing (λ i x is.
            let elsewhere : i ≢ at = λ c. e (sym is.number ∙ (ap (λ (s : Slot). s.number) (some_same (slice_get slots at) x slot (ap (λ i. slice_get slots i) (sym c) ∙ is.is) was.is) ∙ was.number)) in
            let r = unshift at i elsewhere in
            none r.0 x (record { is = shift_get slots at r.0 within ∙ (ap (λ i. slice_get slots i) r.1 ∙ is.is); number = is.number }));
      };
      stood = λ i x is. inr (shift at i, x, sym (shift_get slots at i within) ∙ is, refl);
      rising = λ i j d e less p q. rising (shift at i) (shift at j) d e (shift_rises at i j less) (sym (shift_get slots at i within) ∙ p) (sym (shift_get slots at j within) ∙ q);
    }

-- What the hub over another one tells, call by call.
use Rattle.std.proofs.Common.{◌≡◌, ◌≢◌, ◌⊎◌, inl, inr, ℕ, ◌<◌, Bool, true, false, List, [], ◌∷◌, ◌++◌, length, Option, None, Some, refl, sym, ap, ◌∙◌, subst, arith, nat_eq, if◌then◌else◌}
use Rattle.std.specs.List.{slice_get, remove}
use Rattle.std.proofs.Math.ListN.{set}
use Rattle.std.proofs.lemmas.Bool.Decides.{nat_tests}
use Rattle.gate_hub.specs.Meaning.{Link, Told, Meaning, new_link, new_session, reopened, unasked}
use Rattle.gate_hub.specs.declared.hub.Side.{Side}
use Rattle.gate_hub.specs.declared.hub.Side.TheVariants as side
use Rattle.gate_hub.specs.declared.hub.LinkGot.TheVariants as got
use Rattle.gate_hub.specs.declared.hub.LinkPut.TheVariants as put
use Rattle.stream_messages.specs.declared.scan.Wire.{Wire}
use Rattle.stream_messages.specs.declared.lane.Lane.{Lane}
use Rattle.stream_messages.specs.declared.lanes.Lanes.{Lanes}
use Rattle.stream_messages.specs.declared.lanes.Wrapping.{Wrapping}
use Rattle.stream_messages.specs.declared.slots.Slot.{Slot}
use Rattle.stream_messages.specs.declared.slots.Slots.{Slots}
use Rattle.stream_messages.specs.Framing.{new_framer, Stands}
use Rattle.stream_messages.specs.Stripping.{in_length}
use Rattle.stream_messages.specs.Lanes.{new_lane, WrapsSide}
use Rattle.stream_messages.specs.Sessions.{WrapsSession}
use Rattle.stream_messages.specs.Slots.{IsRising, IsAt, HasNone, fresh_side, fresh_lanes, restarted_side, restarted}
use Rattle.stream_messages.specs.Telling.{open_slots, InSlot, TellsSession, AreSlots, Tells}
use Rattle.stream_messages.proofs.Places.{decide, some_same, get_within, put_cases, behind_cases, get_before, shift_get, shift_rises, shift, unshift, get_put_other}

-- ---- a session in the place of another

abbrev pub at_number : ℕ → Told → (ℕ → Told) → ℕ → Told
at_number k t others j = if nat_eq j k then t else others j

pub at_it : (k : ℕ) (t : Told) (others : ℕ → Told) → at_number k t others k ≡ t
at_it k t others = grind (arith, nat_tests)

pub at_other : (k : ℕ) (t : Told) (others : ℕ → Told) (j : ℕ) → j ≢ k → at_number k t others j ≡ others j
at_other k t others j other = grind (arith, nat_tests)

-- ---- the sides of a session to which nothing has happened

nothing_came : (wire : Wire) (limit : ℕ) (ended : Bool) → Stands wire limit (new_framer wire limit) [] ended []
nothing_came wire limit ended = record { wire_is = refl; limit_is = refl; messages = []; left = []; are = refl; out = (refl, refl) }

fresh_link : (wire : Option Wire) (limit : ℕ) → WrapsSide wire limit (fresh_side wire limit) new_link new_link
fresh_link None limit = record { received = refl; sent = refl; ended = refl }
fresh_link (Some wire) limit = record {
  reads = record {
    stands = nothing_came wire limit false;
    not_ready = λ e. absurd (cc);
    ended = λ e. absurd (cc);
    all = λ e. absurd (cc);
    end_told = λ e. absurd (cc);
  };
  writes = in_length [] (omega arith);
}

pub fresh_session : (w : Wrapping) → WrapsSession w (fresh_lanes w) new_session new_session
fresh_session w = record { client = fresh_link w.client w.limit; upstream = fresh_link w.upstream w.limit; announced = refl; closed = refl }

-- an event of the session: its last answers are none
unasked_side : (wire : Option Wire) (limit : ℕ) (lane : Option Lane) (inner outer : Link) → WrapsSide wire limit lane inner outer → WrapsSide wire limit lane (unasked inner) (unasked outer)
unasked_side None limit None inner outer h = record { received = h.received; sent = h.sent; ended = h.ended }
unasked_side None limit (Some lane) inner outer h = absurd h
unasked_side (Some wire) limit None inner outer h = absurd h
unasked_side (Some wire) limit (Some lane) inner outer h = record {
  reads = record {
    stands = h.reads.stands;
    not_ready = λ e. absurd (cc);
    ended = h.reads.ended;
    all = h.reads.all;
    end_told = λ e. absurd (cc);
  };
  writes = h.writes;
}

pub reopened_session : (w : Wrapping) (lanes : Lanes) (s t : Told) → WrapsSession w lanes s t → WrapsSession w lanes (reopened s) (reopened t)
reopened_session w lanes s t h = record {
  client = unasked_side w.client w.limit lanes.client s.client t.client h.client;
  upstream = unasked_side w.upstream w.limit lanes.upstream s.upstream t.upstream h.upstream;
  announced = h.announced;
  closed = h.closed;
}

pub closed_session : (w : Wrapping) (lanes : Lanes) (s t : Told) → WrapsSession w lanes s t → WrapsSession w lanes (record s { closed = true }) (record t { closed = true })
closed_session w lanes s t h = record { client = h.client; upstream = h.upstream; announced = h.announced; closed = refl }

-- the sides of a session are those for which the slot is
side_for : (wire : Option Wire) (limit : ℕ) (lane : Option Lane) (inner outer : Link) → WrapsSide wire limit lane inner outer → restarted_side lane ≡ fresh_side wire limit
side_for None limit None inner outer h = refl
side_for None limit (Some lane) inner outer h = absurd h
side_for (Some wire) limit None inner outer h = absurd h
side_for (Some wire) limit (Some lane) inner outer h =
    ap (λ v. Some (new_lane v lane.framer.limit)) h.reads.stands.wire_is ∙ ap (λ l. Some (new_lane wire l)) h.reads.stands.limit_is

pub session_for : (w : Wrapping) (lanes : Lanes) (s t : Told) → WrapsSession w lanes s t → restarted lanes ≡ fresh_lanes w
session_for w lanes s t h =
    ap (λ (c : Option Lane). record { client = c; upstream = restarted_side lanes.upstream }) (side_for w.client w.limit lanes.client s.client t.client h.client)
    ∙ ap (λ (u : Option Lane). record { client = fresh_side w.client w.limit; upstream = u }) (side_for w.upstream w.limit lanes.upstream s.upstream t.upstream h.upstream)

-- a read of a session without a slot fails
failed_side : (wire : Option Wire) (limit : ℕ) (lane : Option Lane) (inner outer : Link) → outer.ended ≡ false → WrapsSide wire limit lane inner outer → WrapsSide wire limit lane inner (record outer { last_read = Some got.Failed })
failed_side None limit None inner outer going h = record { received = h.received; sent = h.sent; ended = h.ended }
failed_side None limit (Some lane) inner outer going h = absurd h
failed_side (Some wire) limit None inner outer going h = absurd h
failed_side (Some wire) limit (Some lane) inner outer going h = record {
  reads = record { stands = h.reads.stands; not_ready = λ e. absurd (cc); ended = h.reads.ended; all = h.reads.all; end_told = λ e. absurd (cc) };
  writes = h.writes;
}

unwritten_side : (wire : Option Wire) (limit : ℕ) (lane : Option Lane) (inner outer : Link) → WrapsSide wire limit lane inner outer → WrapsSide wire limit lane inner (record outer { last_write = Some put.Failed })
unwritten_side None limit None inner outer h = record { received = h.received; sent = h.sent; ended = h.ended }
unwritten_side None limit (Some lane) inner outer h = absurd h
unwritten_side (Some wire) limit None inner outer h = absurd h
unwritten_side (Some wire) limit (Some lane) inner outer h = record {
  reads = record { stands = h.reads.stands; not_ready = h.reads.not_ready; ended = h.reads.ended; all = h.reads.all; end_told = h.reads.end_told };
  writes = h.writes;
}

abbrev pub with_failed_read : Side → Told → Told
with_failed_read side.Client t = record t { client = record (t.client) { last_read = Some got.Failed } }
with_failed_read side.Upstream t = record t { upstream = record (t.upstream) { last_read = Some got.Failed } }

abbrev pub with_failed_write : Side → Told → Told
with_failed_write side.Client t = record t { client = record (t.client) { last_write = Some put.Failed } }
with_failed_write side.Upstream t = record t { upstream = record (t.upstream) { last_write = Some put.Failed } }

pub failed_read : (w : Wrapping) (lanes : Lanes) (x : Side) (s t : Told) → (t.client.ended ≡ false) × (t.upstream.ended ≡ false) → WrapsSession w lanes s t → WrapsSession w lanes s (with_failed_read x t)
failed_read w lanes side.Client s t going h = record { client = failed_side w.client w.limit lanes.client s.client t.client going.0 h.client; upstream = h.upstream; announced = h.announced; closed = h.closed }
failed_read w lanes side.Upstream s t going h = record { client = h.client; upstream = failed_side w.upstream w.limit lanes.upstream s.upstream t.upstream going.1 h.upstream; announced = h.announced; closed = h.closed }

pub failed_write : (w : Wrapping) (lanes : Lanes) (x : Side) (s t : Told) → WrapsSession w lanes s t → WrapsSession w lanes s (with_failed_write x t)
failed_write w lanes side.Client s t h = record { client = unwritten_side w.client w.limit lanes.client s.client t.client h.client; upstream = h.upstream; announced = h.announced; closed = h.closed }
failed_write w lanes side.Upstream s t h = record { client = h.client; upstream = unwritten_side w.upstream w.limit lanes.upstream s.upstream t.upstream h.upstream; announced = h.announced; closed = h.closed }

-- ---- one session changes

-- all but session k stand as they stood
pub record OthersStand (k : ℕ) (slots slots' : List Slot) : Type 0 where
  pub others : (j : ℕ) (lanes : Lanes) (outer : Told) → j ≢ k → InSlot slots j lanes outer → InSlot slots' j lanes outer
  pub stood : (at : ℕ) (slot : Slot) → slice_get slots' at ≡ Some slot → (slot.number ≡ k) ⊎ ((at' : ℕ) × (slot' : Slot) × (slice_get slots at' ≡ Some slot') × (slot'.number ≡ slot.number))
  pub rising : IsRising slots'

pub tells_on : (w : Wrapping) (slots slots' : Option Slots) (n n' m m' : Meaning) (k : ℕ) (t : Told) → Tells w slots n m → OthersStand k (open_slots slots) (open_slots slots')
    → ((j : ℕ) → j ≢ k → n'.session j ≡ n.session j) → (n'.session k).announced ≡ true → TellsSession w (open_slots slots') k (n'.session k) t
    → ((j : ℕ) → m'.session j ≡ at_number k t m.session j) → m'.started ≡ n'.started → m'.last_event ≡ n'.last_event → m'.events ≡ n'.events → AreSlots w m'.started slots' → Tells w slots' n' m'
tells_on w slots slots' n n' m m' k t tells stand others known told sessions started last_event events are = record {
  announced = λ j a. by_announced j a (decide j k);
  unknown = λ j a. by_unknown j a (decide j k);
  known = λ at slot is. by_known slot (decide slot.number k) (stand.stood at slot is);
  rising = stand.rising;
  started = started;
  last_event = last_event;
  events = events;
  slots_are = are;
}
  where
    by_announced : (j : ℕ) → (n'.session j).announced ≡ true → (j ≡ k) ⊎ (j ≢ k) → TellsSession w (open_slots slots') j (n'.session j) (m'.session j)
    by_announced j a (inl e) =
        subst (λ i. TellsSession w (open_slots slots') i (n'.session i) (m'.session i)) (sym e)
        (subst (λ (x : Told). TellsSession w (open_slots slots') k (n'.session k) x) (sym (sessions k ∙ at_it k t m.session)) told)
    by_announced j a (inr e) =
        let s = tells.announced j (sym (ap (λ (x : Told). x.announced) (others j e)) ∙ a) in
        let s' : TellsSession w (open_slots slots') j (n.session j) (m.session j) = record { lanes = s.lanes; wraps = s.wraps; in_slot = λ c. stand.others j s.lanes (m.session j) e (s.in_slot c) } in
        subst (λ (x : Told). TellsSession w (open_slots slots') j x (m'.session j)) (sym (others j e))
        (subst (λ (x : Told). TellsSession w (open_slots slots') j (n.session j) x) (sym (sessions j ∙ at_other k t m.session j e)) s')

    by_unknown : (j : ℕ) → (n'.session j).announced ≡ false → (j ≡ k) ⊎ (j ≢ k) → m'.session j ≡ n'.session j
    by_unknown j a (inl e) = absurd (both (n'.session k).announced known (ap (λ i. (n'.session i).announced) (sym e) ∙ a))
      where
        both : (b : Bool) → b ≡ true → b ≡ false → ⊥
        both true p q = absurd (cc)
        both false p q = absurd (cc)
    by_unknown j a (inr e) = sessions j ∙ (at_other k t m.session j e ∙ (tells.unknown j (sym (ap (λ (x : Told). x.announced) (others j e)) ∙ a) ∙ sym (others j e)))

    by_known : (slot : Slot) → (slot.number ≡ k) ⊎ (slot.number ≢ k) → (slot.number ≡ k) ⊎ ((at' : ℕ) × (slot' : Slot) × (slice_get (open_slots slots) at' ≡ Some slot') × (slot'.number ≡ slot.number)) → (n'.session slot.number).announced ≡ true
    by_known slot (inl e) h = ap (λ i. (n'.session i).announced) e ∙ known
    by_known slot (inr e) (inl h) = absurd (e h)
    by_known slot (inr e) (inr h) =
        ap (λ (x : Told). x.announced) (others slot.number e) ∙ (ap (λ i. (n.session i).announced) (sym h.3) ∙ tells.known h.0 h.1 h.2)

-- ---- the slots

pub same_slots : (k : ℕ) (slots : List Slot) → IsRising slots → OthersStand k slots slots
same_slots k slots rising = record { others = λ j lanes outer e h. h; stood = λ at slot is. inr (at, slot, is, refl); rising = rising }

pub set_slot : (k at : ℕ) (slots : List Slot) (slot slot' : Slot) → IsRising slots → IsAt slots k at slot → slot'.number ≡ k → OthersStand k slots (set slots at slot')
set_slot k at slots slot slot' rising was number = record {
  others = λ j lanes outer e h. record {
    held = λ i x is. by_held j lanes outer e h i x is (put_cases slots at slot' x i (get_within slots at slot was.is) is.is);
    missing = λ none. h.missing (λ i x is. by_missing j e none i x is (decide i at));
  };
  stood = λ i x is. by_stood x (put_cases slots at slot' x i (get_within slots at slot was.is) is);
  rising = λ i j d e less p q. by_rising i j d e less (put_cases slots at slot' d i (get_within slots at slot was.is) p) (put_cases slots at slot' e j (get_within slots at slot was.is) q);
}
  where
    by_held : (j : ℕ) (lanes : Lanes) (outer : Told) → j ≢ k → InSlot slots j lanes outer → (i : ℕ) (x : Slot) → IsAt (set slots at slot') j i x → ((i ≡ at) × (x ≡ slot')) ⊎ ((i ≢ at) × (slice_get slots i ≡ Some x)) → x.lanes.value ≡ lanes
    by_held j lanes outer e h i x is (inl c) = absurd (e (sym is.number ∙ (ap (λ (s : Slot). s.number) c.1 ∙ number)))
    by_held j lanes outer e h i x is (inr c) = h.held i x (record { is = c.1; number = is.number })

    by_missing : (j : ℕ) → j ≢ k → HasNone (set slots at slot') j → (i : ℕ) (x : Slot) → IsAt slots j i x → (i ≡ at) ⊎ (i ≢ at) → ⊥
    by_missing j e none i x is (inl c) = e (sym is.number ∙ (ap (λ (s : Slot). s.number) (some_same (slice_get slots at) x slot (ap (λ i. slice_get slots i) (sym c) ∙ is.is) was.is) ∙ was.number))
    by_missing j e none i x is (inr c) = none i x (record { is = get_put_other slots at i slot' c ∙ is.is; number = is.number })

    by_stood : (x : Slot) → {i : ℕ} → ((i ≡ at) × (x ≡ slot')) ⊎ ((i ≢ at) × (slice_get slots i ≡ Some x)) → (x.number ≡ k) ⊎ ((at' : ℕ) × (s : Slot) × (slice_get slots at' ≡ Some s) × (s.number ≡ x.number))
    by_stood x (inl c) = inl (ap (λ (s : Slot). s.number) c.1 ∙ number)
    by_stood x {i} (inr c) = inr (i, x, c.1, refl)

    by_rising : (i j : ℕ) (d e : Slot) → i < j → ((i ≡ at) × (d ≡ slot')) ⊎ ((i ≢ at) × (slice_get slots i ≡ Some d)) → ((j ≡ at) × (e ≡ slot')) ⊎ ((j ≢ at) × (slice_get slots j ≡ Some e)) → d.number < e.number
    by_rising i j d e less (inl p) (inl q) = absurd (omega (arith, p.0, q.0, less))
    by_rising i j d e less (inl p) (inr q) =
        let n : d.number ≡ slot.number = ap (λ (s : Slot). s.number) p.1 ∙ (number ∙ sym was.number) in
        omega (arith, n, rising at j slot e (omega (arith, p.0, less)) was.is q.1)
    by_rising i j d e less (inr p) (inl q) =
        let n : e.number ≡ slot.number = ap (λ (s : Slot). s.number) q.1 ∙ (number ∙ sym was.number) in
        omega (arith, n, rising i at d slot (omega (arith, q.0, less)) p.1 was.is)
    by_rising i j d e less (inr p) (inr q) = rising i j d e less p.1 q.1

pub add_slot : (k : ℕ) (slots : List Slot) (slot : Slot) → IsRising slots → slot.number ≡ k → ((at : ℕ) (x : Slot) → slice_get slots at ≡ Some x → x.number < k) → OthersStand k slots (slots ++ slot ∷ [])
add_slot k slots slot rising number below = record {
  others = λ j lanes outer e h. record {
    held = λ i x is. by_held j lanes outer e h i x is (behind_cases slots slot x i is.is);
    missing = λ none. h.missing (λ i x is. none i x (record { is = get_before slots slot x i is.is; number = is.number }));
  };
  stood = λ i x is. by_stood i x (behind_cases slots slot x i is);
  rising = λ i j d e less p q. by_rising i j d e less (behind_cases slots slot d i p) (behind_cases slots slot e j q);
}
  where
    by_held : (j : ℕ) (lanes : Lanes) (outer : Told) → j ≢ k → InSlot slots j lanes outer → (i : ℕ) (x : Slot) → IsAt (slots ++ slot ∷ []) j i x → ((i ≡ length slots) × (x ≡ slot)) ⊎ (slice_get slots i ≡ Some x) → x.lanes.value ≡ lanes
    by_held j lanes outer e h i x is (inl c) = absurd (e (sym is.number ∙ (ap (λ (s : Slot). s.number) c.1 ∙ number)))
    by_held j lanes outer e h i x is (inr c) = h.held i x (record { is = c; number = is.number })

    by_stood : (i : ℕ) (x : Slot) → ((i ≡ length slots) × (x ≡ slot)) ⊎ (slice_get slots i ≡ Some x) → (x.number ≡ k) ⊎ ((at' : ℕ) × (s : Slot) × (slice_get slots at' ≡ Some s) × (s.number ≡ x.number))
    by_stood i x (inl c) = inl (ap (λ (s : Slot). s.number) c.1 ∙ number)
    by_stood i x (inr c) = inr (i, x, c, refl)

    by_rising : (i j : ℕ) (d e : Slot) → i < j → ((i ≡ length slots) × (d ≡ slot)) ⊎ (slice_get slots i ≡ Some d) → ((j ≡ length slots) × (e ≡ slot)) ⊎ (slice_get slots j ≡ Some e) → d.number < e.number
    by_rising i j d e less (inl p) (inl q) = absurd (omega (arith, p.0, q.0, less))
    by_rising i j d e less (inl p) (inr q) = absurd (omega (arith, p.0, less, get_within slots j e q))
    by_rising i j d e less (inr p) (inl q) = let n : e.number ≡ k = ap (λ (s : Slot). s.number) q.1 ∙ number in omega (arith, n, below i d p)
    by_rising i j d e less (inr p) (inr q) = rising i j d e less p q

pub remove_slot : (k at : ℕ) (slots : List Slot) (slot : Slot) → IsRising slots → IsAt slots k at slot → OthersStand k slots (remove slots at)
remove_slot k at slots slot rising was =
    let within : at < length slots = get_within slots at slot was.is in
    record {
      others = λ j lanes outer e h. record {
        held = λ i x is. h.held (shift at i) x (record { is = sym (shift_get slots at i within) ∙ is.is; number = is.number });
        missing = λ none. h.missing (λ i x is.
            let elsewhere : i ≢ at = λ c. e (sym is.number ∙ (ap (λ (s : Slot). s.number) (some_same (slice_get slots at) x slot (ap (λ i. slice_get slots i) (sym c) ∙ is.is) was.is) ∙ was.number)) in
            let r = unshift at i elsewhere in
            none r.0 x (record { is = shift_get slots at r.0 within ∙ (ap (λ i. slice_get slots i) r.1 ∙ is.is); number = is.number }));
      };
      stood = λ i x is. inr (shift at i, x, sym (shift_get slots at i within) ∙ is, refl);
      rising = λ i j d e less p q. rising (shift at i) (shift at j) d e (shift_rises at i j less) (sym (shift_get slots at i within) ∙ p) (sym (shift_get slots at j within) ∙ q);
    }

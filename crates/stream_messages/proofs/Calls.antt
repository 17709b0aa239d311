-- The calls of the hub over another one.
use Rattle.std.proofs.Common.{◌≡◌, ◌≢◌, ◌⊎◌, inl, inr, ℕ, ◌+◌, ◌<◌, Bool, true, false, List, [], ◌∷◌, ◌++◌, length, Option, None, Some, IsSome, IfSome, refl, sym, ap, ◌∙◌, subst, arith}
use Rattle.std.specs.List.{slice_get}
use Rattle.std.proofs.lemmas.List.{length-set, length-append}
use Rattle.gate_base.specs.Causes.{one_more}
use Rattle.gate_hub.specs.Meaning.{Link, Told, Started, HubCall, Asked, Read, Wrote, Closed, Meaning, new_session, reopened, IsOpen}
use Rattle.gate_hub.specs.Hubs.{Leads, Changes, AtSide, LinkReads, LinkWrites, Closes, Comes, Answers, NextLeads, NotStarted, HasStarted, StartLeads, ReadLeads, WriteLeads, CloseLeads}
use Rattle.gate_hub.specs.declared.hub.Side.{Side}
use Rattle.gate_hub.specs.declared.hub.Side.TheVariants as side
use Rattle.gate_hub.specs.declared.hub.Began.TheVariants as began
use Rattle.gate_hub.specs.declared.hub.HubNext.{HubNext}
use Rattle.gate_hub.specs.declared.hub.HubNext.TheVariants as event
use Rattle.gate_hub.specs.declared.hub.LinkGot.TheVariants as got
use Rattle.gate_hub.specs.declared.hub.LinkPut.TheVariants as put
use Rattle.stream_messages.specs.declared.lanes.Lanes.{Lanes}
use Rattle.stream_messages.specs.declared.lanes.Wrapping.{Wrapping}
use Rattle.stream_messages.specs.declared.slots.Slot.{Slot}
use Rattle.stream_messages.specs.declared.slots.Slots.{Slots}
use Rattle.stream_messages.specs.Sessions.{WrapsSession}
use Rattle.stream_messages.specs.Slots.{IsRising, IsAt, HasNone, fresh_lanes, restarted, AreReady, AllSpare, Admits, Releases, GoesInSlot}
use Rattle.stream_messages.specs.Telling.{open_slots, HasNoSlot, Follows, GoesInSlots, GivesBack, TellsSession, AreSlots, Tells, TellsOver}
use Rattle.stream_messages.proofs.Places.{decide, some_same, get_within, get_put_same, behind_cases, elsewhere}
use Rattle.stream_messages.proofs.Wrapping.{at_number, at_it, at_other, fresh_session, reopened_session, closed_session, session_for, with_failed_read, with_failed_write, failed_read, failed_write, OthersStand, tells_on, same_slots, set_slot, add_slot, remove_slot}

-- ---- before the first event

pub began_over : (told told' : Meaning → Type 0) (w : Wrapping) (old : Option Slots) (slots : Slots) (s : Started) → AllSpare w (s.sessions + 1) slots → Leads told told' NotStarted (StartLeads s began.Done)
    → Leads (TellsOver told w old) (TellsOver told' w (Some slots)) NotStarted (StartLeads s began.Done)
began_over told told' w old slots s all leads = λ m tells can.
    let n = tells.0 in
    let t = tells.2 in
    let led = leads n tells.1 (sym t.started ∙ can.0, sym t.last_event ∙ can.1) in
    let none_yet : old ≡ None = subst (λ (o : Option Started). AreSlots w o old) can.0 t.slots_are in
    let empty : open_slots old ≡ [] = ap open_slots none_yet in
    let same : open_slots (Some slots) ≡ open_slots old = all.none_open ∙ sym empty in
    let n' : Meaning = record n { started = Some s } in
    let m' : Meaning = record m { started = Some s } in (
      m',
      (
        n',
        subst told' led.2 led.1,
        record {
          announced = λ k a. subst (λ (xs : List Slot). TellsSession w xs k (n.session k) (m.session k)) (sym same) (t.announced k a);
          unknown = t.unknown;
          known = λ at slot is. t.known at slot (subst (λ (xs : List Slot). slice_get xs at ≡ Some slot) same is);
          rising = subst IsRising (sym same) t.rising;
          started = refl;
          last_event = t.last_event;
          events = t.events;
          slots_are = (omega (arith, ap (λ (xs : List Slot). length xs) all.none_open, all.free), all.ready);
        },
      ),
      refl,
    )

pub failed_over : (told told' : Meaning → Type 0) (w : Wrapping) (slots : Option Slots) (s : Started) → Leads told told' NotStarted (StartLeads s began.Failed)
    → Leads (TellsOver told w slots) (TellsOver told' w slots) NotStarted (StartLeads s began.Failed)
failed_over told told' w slots s leads = λ m tells can.
    let led = leads tells.0 tells.1 (sym tells.2.started ∙ can.0, sym tells.2.last_event ∙ can.1) in
    (m, (tells.0, subst told' led.2 led.1, tells.2), refl)

pub unfound_over : (told told' : Meaning → Type 0) (w : Wrapping) (slots : Option Slots) (s : Started) (at : ℕ) → Leads told told' NotStarted (StartLeads s (began.NotFound at))
    → Leads (TellsOver told w slots) (TellsOver told' w slots) NotStarted (StartLeads s (began.NotFound at))
unfound_over told told' w slots s at leads = λ m tells can.
    let led = leads tells.0 tells.1 (sym tells.2.started ∙ can.0, sym tells.2.last_event ∙ can.1) in
    (m, (tells.0, subst told' led.2 led.1, tells.2), refl)

pub refused_over : (told told' : Meaning → Type 0) (w : Wrapping) (slots : Option Slots) (s : Started) → Leads told told' NotStarted (StartLeads s began.OutOfMemory)
    → Leads (TellsOver told w slots) (TellsOver told' w slots) NotStarted (StartLeads s began.OutOfMemory)
refused_over told told' w slots s leads = λ m tells can.
    let led = leads tells.0 tells.1 (sym tells.2.started ∙ can.0, sym tells.2.last_event ∙ can.1) in
    (m, (tells.0, subst told' led.2 led.1, tells.2), refl)

-- ---- events

-- it has started below
has_started : (w : Wrapping) (slots : Option Slots) (n m : Meaning) → Tells w slots n m → HasStarted m → HasStarted n
has_started w slots n m t h = subst (λ (o : Option Started). IsSome o) t.started h

-- the numbers of all slots are below that of a session that is opened
below_new : (w : Wrapping) (slots : Option Slots) (n m : Meaning) (k : ℕ) → Tells w slots n m → ((j : ℕ) → (n.session j).announced ≡ true → j < k) → (at : ℕ) (slot : Slot) → slice_get (open_slots slots) at ≡ Some slot → slot.number < k
below_new w slots n m k t under at slot is = under slot.number (t.known at slot is)

-- the meaning behind an event that names session k
abbrev behind_event : Meaning → ℕ → Told → HubNext → Meaning
behind_event m k t event = record { session = at_number k t m.session; started = m.started; last_event = Some event; events = one_more m.events; calls = m.calls ++ Asked event ∷ [] }

comes_over : (m : Meaning) (k : ℕ) (t : Told) (event : HubNext) → Comes k event t m (behind_event m k t event)
comes_over m k t event = record { session = at_it k t m.session; others = λ j e. at_other k t m.session j e; started = refl; last_event = refl; events = refl; calls = refl }

-- an open session was announced above it as below
announced_below : (w : Wrapping) (slots : Option Slots) (n m : Meaning) (j : ℕ) → Tells w slots n m → (m.session j).announced ≡ true → (n.session j).announced ≡ true
announced_below w slots n m j t a = by (n.session j).announced refl
  where
    both : (b : Bool) → b ≡ true → b ≡ false → ⊥
    both true p q = absurd (cc)
    both false p q = absurd (cc)

    by : (b : Bool) → (n.session j).announced ≡ b → (n.session j).announced ≡ true
    by true e = e
    by false e = absurd (both (m.session j).announced a (ap (λ (x : Told). x.announced) (t.unknown j e) ∙ e))

announced_above : (w : Wrapping) (slots : Option Slots) (n m : Meaning) (j : ℕ) → Tells w slots n m → (n.session j).announced ≡ true → (m.session j).announced ≡ true
announced_above w slots n m j t a = (t.announced j a).wraps.announced ∙ a

-- there are as many slots as before
slots_stay : (w : Wrapping) (o : Option Started) (a b : Slots) → IsSome o → AreSlots w o (Some a) → (AreReady w a → AreReady w b × (length b.open.items + length b.spare.items ≡ length a.open.items + length a.spare.items)) → AreSlots w o (Some b)
slots_stay w None a b some are by = absurd (cc)
slots_stay w (Some s) a b some are by = let r = by are.1 in (r.1 ∙ are.0, r.0)

are_ready : (w : Wrapping) (o : Option Started) (a : Slots) → IsSome o → AreSlots w o (Some a) → AreReady w a
are_ready w None a some are = absurd (cc)
are_ready w (Some s) a some are = are.1

opened_session : (w : Wrapping) (slots : List Slot) (k : ℕ) (s : Told) → s ≡ new_session → ((at : ℕ) (x : Slot) → IsAt slots k at x → x.lanes.value ≡ fresh_lanes w) → TellsSession w slots k s new_session
opened_session w slots k s is held =
    subst (λ (x : Told). TellsSession w slots k x new_session) (sym is)
    (record { lanes = fresh_lanes w; wraps = fresh_session w; in_slot = λ c. record { held = held; missing = λ none. (refl, refl) } })

-- how the slots stand where a session was opened, above all others
record Opens (w : Wrapping) (k : ℕ) (a b : Slots) : Type 0 where
  stand : OthersStand k a.open.items b.open.items
  held : (at : ℕ) (x : Slot) → IsAt b.open.items k at x → x.lanes.value ≡ fresh_lanes w
  count : length b.open.items + length b.spare.items ≡ length a.open.items + length a.spare.items

opens : (w : Wrapping) (k : ℕ) (a b : Slots) → IsRising a.open.items → ((at : ℕ) (x : Slot) → slice_get a.open.items at ≡ Some x → x.number < k) → Admits w k a b → Opens w k a b
opens w k a b rising below (inl got) = record {
  stand = subst (λ (xs : List Slot). OthersStand k a.open.items xs) (sym got.in_use) (add_slot k a.open.items got.slot rising got.number below);
  held = λ at x is. by at x (subst (λ (xs : List Slot). slice_get xs at ≡ Some x) got.in_use is.is) is.number;
  count = omega (arith, ap (λ (xs : List Slot). length xs) got.in_use, length-append a.open.items (got.slot ∷ []), got.spare);
}
  where
    by : (at : ℕ) (x : Slot) → slice_get (a.open.items ++ got.slot ∷ []) at ≡ Some x → x.number ≡ k → x.lanes.value ≡ fresh_lanes w
    by at x is n = cases (behind_cases a.open.items got.slot x at is)
      where
        cases : ((at ≡ length a.open.items) × (x ≡ got.slot)) ⊎ (slice_get a.open.items at ≡ Some x) → x.lanes.value ≡ fresh_lanes w
        cases (inl c) = ap (λ (s : Slot). s.lanes.value) c.1 ∙ got.fresh
        cases (inr c) = absurd (omega (arith, below at x c, n))
opens w k a b rising below (inr none) = record {
  stand = subst (λ (xs : List Slot). OthersStand k a.open.items xs) (sym none.1) (same_slots k a.open.items rising);
  held = λ at x is. absurd (omega (arith, below at x (subst (λ (xs : List Slot). slice_get xs at ≡ Some x) none.1 is.is), is.number));
  count = omega (arith, none.0, none.2, ap (λ (xs : List Slot). length xs) none.1);
}

-- a session was opened
pub opened_over : (told told' : Meaning → Type 0) (w : Wrapping) (a b : Slots) (k : ℕ) → ((v : Wrapping) → AreReady v a → AreReady v b × Admits v k a b) → Leads told told' HasStarted (NextLeads (event.Opened k))
    → Leads (TellsOver told w (Some a)) (TellsOver told' w (Some b)) HasStarted (NextLeads (event.Opened k))
opened_over told told' w a b k admits leads = λ m tells can.
    let n = tells.0 in
    let t = tells.2 in
    let led = leads n tells.1 (has_started w (Some a) n m t can) in
    let under = led.2.1.0 in
    let comes = led.2.1.1 in
    let m' = behind_event m k new_session (event.Opened k) in
    let below = below_new w (Some a) n m k t under in
    let o = opens w k a b t.rising below (admits w (are_ready w m.started a can t.slots_are)).1 in
    let is : led.0.session k ≡ new_session = comes.session in (
      m',
      (
        led.0,
        led.1,
        tells_on w (Some a) (Some b) n led.0 m m' k new_session t o.stand comes.others (ap (λ (x : Told). x.announced) is)
            (opened_session w b.open.items k (led.0.session k) is o.held)
            (λ j. refl)
            (t.started ∙ sym comes.started)
            (sym comes.last_event)
            (ap one_more t.events ∙ sym comes.events)
            (slots_stay w m.started a b can t.slots_are (λ ready. ((admits w ready).0, o.count))),
      ),
      (
        λ stopped. led.2.0 (sym t.last_event ∙ stopped),
        (λ j a'. under j (announced_below w (Some a) n m j t a'), comes_over m k new_session (event.Opened k)),
      ),
    )

reopened_told : (w : Wrapping) (slots : List Slot) (k : ℕ) (s t : Told) → TellsSession w slots k s t → TellsSession w slots k (reopened s) (reopened t)
reopened_told w slots k s t h = record {
  lanes = h.lanes;
  wraps = reopened_session w h.lanes s t h.wraps;
  in_slot = λ c. record { held = (h.in_slot c).held; missing = (h.in_slot c).missing };
}

-- a session is ready
pub ready_over : (told told' : Meaning → Type 0) (w : Wrapping) (slots : Option Slots) (k : ℕ) → Leads told told' HasStarted (NextLeads (event.Ready k))
    → Leads (TellsOver told w slots) (TellsOver told' w slots) HasStarted (NextLeads (event.Ready k))
ready_over told told' w slots k leads = λ m tells can.
    let n = tells.0 in
    let t = tells.2 in
    let led = leads n tells.1 (has_started w slots n m t can) in
    let is_open = led.2.1.0 in
    let comes = led.2.1.1 in
    let m' = behind_event m k (reopened (m.session k)) (event.Ready k) in
    let s = t.announced k is_open.0 in
    let now : led.0.session k ≡ reopened (n.session k) = comes.session in (
      m',
      (
        led.0,
        led.1,
        tells_on w slots slots n led.0 m m' k (reopened (m.session k)) t (same_slots k (open_slots slots) t.rising) comes.others (ap (λ (x : Told). x.announced) now ∙ is_open.0)
            (subst (λ (x : Told). TellsSession w (open_slots slots) k x (reopened (m.session k))) (sym now) (reopened_told w (open_slots slots) k (n.session k) (m.session k) s))
            (λ j. refl)
            (t.started ∙ sym comes.started)
            (sym comes.last_event)
            (ap one_more t.events ∙ sym comes.events)
            t.slots_are,
      ),
      (
        λ stopped. led.2.0 (sym t.last_event ∙ stopped),
        ((s.wraps.announced ∙ is_open.0, s.wraps.closed ∙ is_open.1), comes_over m k (reopened (m.session k)) (event.Ready k)),
      ),
    )

-- no event has come
still : (told told' : Meaning → Type 0) (w : Wrapping) (slots : Option Slots) (event : HubNext) (n n' m : Meaning) → told' n' → Tells w slots n m → Answers event n n' → (m' : Meaning) × TellsOver told' w slots m' × Answers event m m'
still told told' w slots event n n' m told_now t answers =
    let m' : Meaning = record m { last_event = Some event; calls = m.calls ++ Asked event ∷ [] } in (
      m',
      (
        n',
        told_now,
        record {
          announced = λ k a. subst (λ (x : Told). TellsSession w (open_slots slots) k x (m.session k)) (sym (answers.sessions k)) (t.announced k (sym (ap (λ (x : Told). x.announced) (answers.sessions k)) ∙ a));
          unknown = λ k a. t.unknown k (sym (ap (λ (x : Told). x.announced) (answers.sessions k)) ∙ a) ∙ sym (answers.sessions k);
          known = λ at slot is. ap (λ (x : Told). x.announced) (answers.sessions slot.number) ∙ t.known at slot is;
          rising = t.rising;
          started = t.started ∙ sym answers.started;
          last_event = sym answers.last_event;
          events = t.events ∙ sym answers.events;
          slots_are = t.slots_are;
        },
      ),
      record { sessions = λ j. refl; started = refl; last_event = refl; events = refl; calls = refl },
    )

pub stopped_over : (told told' : Meaning → Type 0) (w : Wrapping) (slots : Option Slots) → Leads told told' HasStarted (NextLeads event.Stopped)
    → Leads (TellsOver told w slots) (TellsOver told' w slots) HasStarted (NextLeads event.Stopped)
stopped_over told told' w slots leads = λ m tells can.
    let led = leads tells.0 tells.1 (has_started w slots tells.0 m tells.2 can) in
    let s = still told told' w slots event.Stopped tells.0 led.0 m led.1 tells.2 led.2.1 in
    (s.0, s.1, (λ stopped. refl, s.2))

pub failing_over : (told told' : Meaning → Type 0) (w : Wrapping) (slots : Option Slots) → Leads told told' HasStarted (NextLeads event.Failed)
    → Leads (TellsOver told w slots) (TellsOver told' w slots) HasStarted (NextLeads event.Failed)
failing_over told told' w slots leads = λ m tells can.
    let led = leads tells.0 tells.1 (has_started w slots tells.0 m tells.2 can) in
    let s = still told told' w slots event.Failed tells.0 led.0 m led.1 tells.2 led.2.1 in
    (s.0, s.1, (λ stopped. led.2.0 (sym tells.2.last_event ∙ stopped), s.2))

-- before it has started no session is opened
pub not_opened : (told told' : Meaning → Type 0) (w : Wrapping) (k : ℕ) → Leads (TellsOver told w None) (TellsOver told' w None) HasStarted (NextLeads (event.Opened k))
not_opened told told' w k = λ m tells can. absurd (none m.started can tells.2.slots_are)
  where
    none : (o : Option Started) → IsSome o → AreSlots w o None → ⊥
    none None some are = cc
    none (Some s) some are = are

-- ---- calls on a session

abbrev behind_call : Meaning → ℕ → Told → HubCall → Meaning
behind_call m k t call = record m { session = at_number k t m.session; calls = m.calls ++ call ∷ [] }

changes_over : (m : Meaning) (k : ℕ) (t : Told) (call : HubCall) (Step : Told → Told → Type 0) → Step (m.session k) t → Changes k call Step m (behind_call m k t call)
changes_over m k t call Step step = record {
  session = subst (λ (x : Told). Step (m.session k) x) (sym (at_it k t m.session)) step;
  others = λ j e. at_other k t m.session j e;
  started = refl;
  last_event = refl;
  events = refl;
  calls = refl;
}

at_side_keeps : (x : Side) (Step : Link → Link → Type 0) (s t : Told) → AtSide x Step s t → (t.announced ≡ s.announced) × (t.closed ≡ s.closed)
at_side_keeps side.Client Step s t h = (ap (λ (t : Told). t.announced) h.2, ap (λ (t : Told). t.closed) h.2)
at_side_keeps side.Upstream Step s t h = (ap (λ (t : Told). t.announced) h.2, ap (λ (t : Told). t.closed) h.2)

-- a session has one slot at most
one_slot : (slots : List Slot) (k i j : ℕ) (d e : Slot) → IsRising slots → IsAt slots k i d → IsAt slots k j e → d ≡ e
one_slot slots k i j d e rising p q = by (decide i j)
  where
    by : (i ≡ j) ⊎ (i ≢ j) → d ≡ e
    by (inl c) = some_same (slice_get slots j) d e (ap (λ i. slice_get slots i) (sym c) ∙ p.is) q.is
    by (inr c) = absurd (elsewhere slots i j d e rising c p.is q.is (p.number ∙ sym q.number))

read_failed : (x : Side) (into : List ℕ) (t : Told) → (t.client.ended ≡ false) × (t.upstream.ended ≡ false) → AtSide x (LinkReads into got.Failed) t (with_failed_read x t)
read_failed side.Client into t going = (record (t.client) { last_read = Some got.Failed }, (going.0, refl), refl)
read_failed side.Upstream into t going = (record (t.upstream) { last_read = Some got.Failed }, (going.1, refl), refl)

write_failed : (x : Side) (from : List ℕ) (t : Told) → AtSide x (LinkWrites from put.Failed) t (with_failed_write x t)
write_failed side.Client from t = (record (t.client) { last_write = Some put.Failed }, refl, refl)
write_failed side.Upstream from t = (record (t.upstream) { last_write = Some put.Failed }, refl, refl)

read_keeps_going : (x : Side) (t : Told) → (t.client.ended ≡ false) × (t.upstream.ended ≡ false) → ((with_failed_read x t).client.ended ≡ false) × ((with_failed_read x t).upstream.ended ≡ false)
read_keeps_going side.Client t going = going
read_keeps_going side.Upstream t going = going

write_keeps_going : (x : Side) (t : Told) → (t.client.ended ≡ false) × (t.upstream.ended ≡ false) → ((with_failed_write x t).client.ended ≡ false) × ((with_failed_write x t).upstream.ended ≡ false)
write_keeps_going side.Client t going = going
write_keeps_going side.Upstream t going = going

-- the session above changed alone, and has no slot
left_over : (w : Wrapping) (slots : Option Slots) (n m : Meaning) (k : ℕ) (t' : Told) (call : HubCall) → Tells w slots n m → (lanes : Lanes) → WrapsSession w lanes (n.session k) t' → (t'.client.ended ≡ false) × (t'.upstream.ended ≡ false) → HasNone (open_slots slots) k → IsOpen k m
    → Tells w slots n (behind_call m k t' call)
left_over w slots n m k t' call t lanes wraps going none is_open =
    tells_on w slots slots n n m (behind_call m k t' call) k t' t (same_slots k (open_slots slots) t.rising) (λ j e. refl) (announced_below w slots n m k t is_open.0)
    (record { lanes = lanes; wraps = wraps; in_slot = λ c. record { held = λ at slot is. absurd (none at slot is); missing = λ none'. going } })
    (λ j. refl) t.started t.last_event t.events t.slots_are

-- where a session gives its slot back, the others stand
released : (w : Wrapping) (k : ℕ) (a b : Slots) (o : Option Started) (s t : Told) → TellsSession w a.open.items k s t → t.closed ≡ false → IsRising a.open.items → AreSlots w o (Some a) → (AreReady w a → Releases k a b)
    → OthersStand k a.open.items b.open.items × AreSlots w o (Some b)
released w k a b None s t session is_open rising are releases = absurd (cc)
released w k a b (Some with) s t session is_open rising are releases = by (releases are.1)
  where
    by : Releases k a b → OthersStand k a.open.items b.open.items × AreSlots w (Some with) (Some b)
    by (inl gave) =
        let held : gave.slot.lanes.value ≡ session.lanes = (session.in_slot is_open).held gave.at gave.slot gave.was in
        let fits : restarted gave.slot.lanes.value ≡ fresh_lanes w = ap restarted held ∙ session_for w session.lanes s t session.wraps in (
          subst (λ (xs : List Slot). OthersStand k a.open.items xs) (sym gave.in_use) (remove_slot k gave.at a.open.items gave.slot rising gave.was),
          (omega (arith, are.0, gave.count), gave.ready w fits are.1),
        )
    by (inr none) = (
      subst (λ (x : Slots). OthersStand k a.open.items x.open.items) (sym none.1) (same_slots k a.open.items rising),
      subst (λ (x : Slots). AreSlots w (Some with) (Some x)) (sym none.1) are,
    )

-- a call on a side of a session that has a slot
pub called_over : (told told' : Meaning → Type 0) (w : Wrapping) (a b : Slots) (k : ℕ) (x : Side) (call : HubCall) (Step : Link → Link → Type 0) → GoesInSlot told told' k x Step a b
    → Leads (TellsOver told w (Some a)) (TellsOver told' w (Some b)) (IsOpen k) (Changes k call (AtSide x Step))
called_over told told' w a b k x call Step goes = λ m tells is_open.
    let n = tells.0 in
    let t = tells.2 in
    let below : (n.session k).announced ≡ true = announced_below w (Some a) n m k t is_open.0 in
    let s = t.announced k below in
    let held : goes.slot.lanes.value ≡ s.lanes = (s.in_slot is_open.1).held goes.at goes.slot goes.was in
    let below_open : IsOpen k n = (below, sym s.wraps.closed ∙ is_open.1) in
    let g = goes.goes w n (m.session k) tells.1 below_open (subst (λ (l : Lanes). WrapsSession w l (n.session k) (m.session k)) (sym held) s.wraps) in
    let moved = g.2 in
    let t' = g.3.0 in
    let wraps' = g.3.2 in
    let keeps = at_side_keeps x Step (m.session k) t' g.3.1 in
    let stand : OthersStand k a.open.items b.open.items =
    subst (λ (xs : List Slot). OthersStand k a.open.items xs) (sym goes.in_use) (set_slot k goes.at a.open.items goes.slot goes.slot_after t.rising goes.was goes.number) in
    let got : slice_get b.open.items goes.at ≡ Some goes.slot_after =
    ap (λ (xs : List Slot). slice_get xs goes.at) goes.in_use ∙ get_put_same a.open.items goes.at goes.slot_after (get_within a.open.items goes.at goes.slot goes.was.is) in
    let only : (i : ℕ) (y : Slot) → IsAt b.open.items k i y → y.lanes.value ≡ goes.slot_after.lanes.value =
    λ i y is. ap (λ (z : Slot). z.lanes.value) (one_slot b.open.items k i goes.at y goes.slot_after stand.rising is (record { is = got; number = goes.number })) in (
      behind_call m k t' call,
      (
        g.0,
        g.1,
        tells_on w (Some a) (Some b) n g.0 m (behind_call m k t' call) k t' t stand moved.others (sym wraps'.announced ∙ (keeps.0 ∙ is_open.0))
            (record {
              lanes = goes.slot_after.lanes.value;
              wraps = wraps';
              in_slot = λ c. record {
                held = only;
                missing = λ none. absurd (none goes.at goes.slot_after (record { is = got; number = goes.number }));
              };
            })
            (λ j. refl)
            (t.started ∙ sym moved.started)
            (t.last_event ∙ sym moved.last_event)
            (t.events ∙ sym moved.events)
            (by_started m.started t.slots_are),
      ),
      changes_over m k t' call (AtSide x Step) g.3.1,
    )
  where
    by_started : (o : Option Started) → AreSlots w o (Some a) → AreSlots w o (Some b)
    by_started None are = absurd (cc)
    by_started (Some s) are =
        (omega (arith, are.0, ap (λ (xs : List Slot). length xs) goes.in_use, length-set a.open.items goes.at goes.slot_after, goes.spare_left), goes.ready w are.1)

-- a session without a slot is neither read nor written
pub failed_read_over : (told : Meaning → Type 0) (w : Wrapping) (slots : Option Slots) (k : ℕ) (x : Side) (size : ℕ) (into : List ℕ) → (IsRising (open_slots slots) → HasNone (open_slots slots) k)
    → Leads (TellsOver told w slots) (TellsOver told w slots) (IsOpen k) (ReadLeads k x size into got.Failed)
failed_read_over told w slots k x size into none = λ m tells is_open.
    let n = tells.0 in
    let t = tells.2 in
    let s = t.announced k (announced_below w slots n m k t is_open.0) in
    let going = (s.in_slot is_open.1).missing (none t.rising) in
    let call = Read k x size got.Failed in
    let t' = with_failed_read x (m.session k) in (
      behind_call m k t' call,
      (n, tells.1, left_over w slots n m k t' call t s.lanes (failed_read w s.lanes x (n.session k) (m.session k) going s.wraps) (read_keeps_going x (m.session k) going) (none t.rising) is_open),
      changes_over m k t' call (AtSide x (LinkReads into got.Failed)) (read_failed x into (m.session k) going),
    )

pub failed_write_over : (told : Meaning → Type 0) (w : Wrapping) (slots : Option Slots) (k : ℕ) (x : Side) (from : List ℕ) → (IsRising (open_slots slots) → HasNone (open_slots slots) k)
    → Leads (TellsOver told w slots) (TellsOver told w slots) (IsOpen k) (WriteLeads k x from put.Failed)
failed_write_over told w slots k x from none = λ m tells is_open.
    let n = tells.0 in
    let t = tells.2 in
    let s = t.announced k (announced_below w slots n m k t is_open.0) in
    let going = (s.in_slot is_open.1).missing (none t.rising) in
    let call = Wrote k x (length from) put.Failed in
    let t' = with_failed_write x (m.session k) in (
      behind_call m k t' call,
      (n, tells.1, left_over w slots n m k t' call t s.lanes (failed_write w s.lanes x (n.session k) (m.session k) s.wraps) (write_keeps_going x (m.session k) going) (none t.rising) is_open),
      changes_over m k t' call (AtSide x (LinkWrites from put.Failed)) (write_failed x from (m.session k)),
    )

-- a session was closed, and has no slot any more
pub closed_over : (told told' : Meaning → Type 0) (w : Wrapping) (a b : Slots) (k : ℕ) → ((v : Wrapping) → AreReady v a → Releases k a b) → Leads told told' (IsOpen k) (CloseLeads k)
    → Leads (TellsOver told w (Some a)) (TellsOver told' w (Some b)) (IsOpen k) (CloseLeads k)
closed_over told told' w a b k releases leads = λ m tells is_open.
    let n = tells.0 in
    let t = tells.2 in
    let below : (n.session k).announced ≡ true = announced_below w (Some a) n m k t is_open.0 in
    let s = t.announced k below in
    let led = leads n tells.1 (below, sym s.wraps.closed ∙ is_open.1) in
    let t' : Told = record (m.session k) { closed = true } in
    let m' = behind_call m k t' (Closed k) in
    let now : led.0.session k ≡ record (n.session k) { closed = true } = led.2.session in
    let r = released w k a b m.started (n.session k) (m.session k) s is_open.1 t.rising t.slots_are (releases w) in (
      m',
      (
        led.0,
        led.1,
        tells_on w (Some a) (Some b) n led.0 m m' k t' t r.0 led.2.others (ap (λ (x : Told). x.announced) now ∙ below)
            (subst (λ (x : Told). TellsSession w b.open.items k x t') (sym now)
            (record { lanes = s.lanes; wraps = closed_session w s.lanes (n.session k) (m.session k) s.wraps; in_slot = λ c. absurd (cc) }))
            (λ j. refl)
            (t.started ∙ sym led.2.started)
            (t.last_event ∙ sym led.2.last_event)
            (t.events ∙ sym led.2.events)
            r.1,
      ),
      changes_over m k t' (Closed k) Closes refl,
    )

-- the same before it has started
pub closed_none_over : (told told' : Meaning → Type 0) (w : Wrapping) (k : ℕ) → Leads told told' (IsOpen k) (CloseLeads k) → Leads (TellsOver told w None) (TellsOver told' w None) (IsOpen k) (CloseLeads k)
closed_none_over told told' w k leads = λ m tells is_open.
    let n = tells.0 in
    let t = tells.2 in
    let below : (n.session k).announced ≡ true = announced_below w None n m k t is_open.0 in
    let s = t.announced k below in
    let led = leads n tells.1 (below, sym s.wraps.closed ∙ is_open.1) in
    let t' : Told = record (m.session k) { closed = true } in
    let m' = behind_call m k t' (Closed k) in
    let now : led.0.session k ≡ record (n.session k) { closed = true } = led.2.session in (
      m',
      (
        led.0,
        led.1,
        tells_on w None None n led.0 m m' k t' t (same_slots k [] t.rising) led.2.others (ap (λ (x : Told). x.announced) now ∙ below)
            (subst (λ (x : Told). TellsSession w [] k x t') (sym now)
            (record { lanes = s.lanes; wraps = closed_session w s.lanes (n.session k) (m.session k) s.wraps; in_slot = λ c. absurd (cc) }))
            (λ j. refl)
            (t.started ∙ sym led.2.started)
            (t.last_event ∙ sym led.2.last_event)
            (t.events ∙ sym led.2.events)
            t.slots_are,
      ),
      changes_over m k t' (Closed k) Closes refl,
    )

-- ---- each call of the hub

pub next_over : (told told' : Meaning → Type 0) (w : Wrapping) (a b : Option Slots) (event : HubNext) → Follows event a b → Leads told told' HasStarted (NextLeads event) → Leads (TellsOver told w a) (TellsOver told' w b) HasStarted (NextLeads event)
next_over told told' w None b (event.Opened k) f leads =
    subst (λ (b : Option Slots). Leads (TellsOver told w None) (TellsOver told' w b) HasStarted (NextLeads (event.Opened k))) (sym f) (not_opened told told' w k)
next_over told told' w (Some s) b (event.Opened k) f leads =
    subst (λ (b : Option Slots). Leads (TellsOver told w (Some s)) (TellsOver told' w b) HasStarted (NextLeads (event.Opened k))) (sym f.1) (opened_over told told' w s f.0 k f.2 leads)
next_over told told' w a b (event.Ready k) f leads =
    subst (λ (b : Option Slots). Leads (TellsOver told w a) (TellsOver told' w b) HasStarted (NextLeads (event.Ready k))) (sym f) (ready_over told told' w a k leads)
next_over told told' w a b event.Stopped f leads =
    subst (λ (b : Option Slots). Leads (TellsOver told w a) (TellsOver told' w b) HasStarted (NextLeads event.Stopped)) (sym f) (stopped_over told told' w a leads)
next_over told told' w a b event.Failed f leads =
    subst (λ (b : Option Slots). Leads (TellsOver told w a) (TellsOver told' w b) HasStarted (NextLeads event.Failed)) (sym f) (failing_over told told' w a leads)

pub call_over : (told told' : Meaning → Type 0) (w : Wrapping) (a b : Option Slots) (k : ℕ) (x : Side) (call : HubCall) (Step : Link → Link → Type 0) → GoesInSlots told told' k x Step a b
    → Leads (TellsOver told w a) (TellsOver told' w b) (IsOpen k) (Changes k call (AtSide x Step))
call_over told told' w a b k x call Step g =
    subst (λ (a : Option Slots). Leads (TellsOver told w a) (TellsOver told' w b) (IsOpen k) (Changes k call (AtSide x Step))) (sym g.2)
    (subst (λ (b : Option Slots). Leads (TellsOver told w (Some g.0)) (TellsOver told' w b) (IsOpen k) (Changes k call (AtSide x Step))) (sym g.3)
    (called_over told told' w g.0 g.1 k x call Step g.4))

pub close_over : (told told' : Meaning → Type 0) (w : Wrapping) (a b : Option Slots) (k : ℕ) → GivesBack k a b → Leads told told' (IsOpen k) (CloseLeads k) → Leads (TellsOver told w a) (TellsOver told' w b) (IsOpen k) (CloseLeads k)
close_over told told' w None b k g leads = subst (λ (b : Option Slots). Leads (TellsOver told w None) (TellsOver told' w b) (IsOpen k) (CloseLeads k)) (sym g) (closed_none_over told told' w k leads)
close_over told told' w (Some s) b k g leads =
    subst (λ (b : Option Slots). Leads (TellsOver told w (Some s)) (TellsOver told' w b) (IsOpen k) (CloseLeads k)) (sym g.1) (closed_over told told' w s g.0 k g.2 leads)

-- ---- the slots, of which there may be none yet

pub in_slots : {X : Type 0} → (r : Option X) (told told' : Meaning → Type 0) (k : ℕ) (x : Side) (old : Option Slots) (s s' : Slots) (Step : X → Link → Link → Type 0) → old ≡ Some s → IfSome r (λ v. GoesInSlot told told' k x (Step v) s s')
    → IfSome r (λ v. GoesInSlots told told' k x (Step v) old (Some s'))
in_slots None told told' k x old s s' Step is goes = tt
in_slots (Some v) told told' k x old s s' Step is goes = (s, s', is, refl, goes)

pub followed : (answer : HubNext) (k : ℕ) (old : Option Slots) (s s' : Slots) → answer ≡ event.Opened k → old ≡ Some s → ((w : Wrapping) → AreReady w s → AreReady w s' × Admits w k s s') → Follows answer old (Some s')
followed answer k old s s' is some admits =
    subst (λ (e : HubNext). Follows e old (Some s')) (sym is) (subst (λ (o : Option Slots). Follows (event.Opened k) o (Some s')) (sym some) (s', refl, admits))

pub gave_back : (k : ℕ) (old : Option Slots) (s s' : Slots) → old ≡ Some s → ((w : Wrapping) → AreReady w s → Releases k s s') → GivesBack k old (Some s')
gave_back k old s s' some releases = subst (λ (o : Option Slots). GivesBack k o (Some s')) (sym some) (s', refl, releases)

pub not_read : (told told' : Meaning → Type 0) (w : Wrapping) (a b : Option Slots) (k : ℕ) (x : Side) (size : ℕ) (into : List ℕ) → HasNoSlot k a → b ≡ a → told' ≡ told
    → Leads (TellsOver told w a) (TellsOver told' w b) (IsOpen k) (ReadLeads k x size into got.Failed)
not_read told told' w a b k x size into none same below =
    subst (λ (t : Meaning → Type 0). Leads (TellsOver told w a) (TellsOver t w b) (IsOpen k) (ReadLeads k x size into got.Failed)) (sym below)
    (subst (λ (b : Option Slots). Leads (TellsOver told w a) (TellsOver told w b) (IsOpen k) (ReadLeads k x size into got.Failed)) (sym same) (failed_read_over told w a k x size into none))

pub not_written : (told told' : Meaning → Type 0) (w : Wrapping) (a b : Option Slots) (k : ℕ) (x : Side) (from : List ℕ) → HasNoSlot k a → b ≡ a → told' ≡ told
    → Leads (TellsOver told w a) (TellsOver told' w b) (IsOpen k) (WriteLeads k x from put.Failed)
not_written told told' w a b k x from none same below =
    subst (λ (t : Meaning → Type 0). Leads (TellsOver told w a) (TellsOver t w b) (IsOpen k) (WriteLeads k x from put.Failed)) (sym below)
    (subst (λ (b : Option Slots). Leads (TellsOver told w a) (TellsOver told w b) (IsOpen k) (WriteLeads k x from put.Failed)) (sym same) (failed_write_over told w a k x from none))

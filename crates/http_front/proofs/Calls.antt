-- The calls of the hub over another one.
use Rattle.std.proofs.Common.{◌≡◌, ◌≢◌, ◌⊎◌, inl, inr, ℕ, ◌<◌, Bool, true, false, List, [], ◌∷◌, ◌++◌, length, take, Option, None, Some, IsSome, refl, sym, ap, ◌∙◌, subst, arith}
use Rattle.std.specs.List.{slice_get, remove}
use Rattle.gate_base.specs.Causes.{one_more}
use Rattle.gate_hub.specs.Meaning.{Link, Told, Started, HubCall, Asked, Read, Wrote, Closed, Meaning, new_session, reopened, IsOpen}
use Rattle.gate_hub.specs.Hubs.{Leads, Changes, AtSide, LinkReads, LinkWrites, Closes, Comes, Answers, NextLeads, NotStarted, HasStarted, StartLeads, ReadLeads, WriteLeads, CloseLeads}
use Rattle.gate_hub.specs.declared.hub.Side.TheVariants as side
use Rattle.gate_hub.specs.declared.hub.Began.TheVariants as began
use Rattle.gate_hub.specs.declared.hub.HubNext.{HubNext}
use Rattle.gate_hub.specs.declared.hub.HubNext.TheVariants as event
use Rattle.gate_hub.specs.declared.hub.LinkGot.{LinkGot}
use Rattle.gate_hub.specs.declared.hub.LinkGot.TheVariants as got
use Rattle.gate_hub.specs.declared.hub.LinkPut.{LinkPut}
use Rattle.gate_hub.specs.declared.hub.LinkPut.TheVariants as put
use Rattle.http_front.specs.declared.slots.Slot.{Slot}
use Rattle.http_front.specs.Fronts.{Reading}
use Rattle.http_front.specs.Slots.{Open, IsRising, IsAt, HasNone, IsMarked, new_slot, Admits, Releases}
use Rattle.http_front.specs.Serving.{Wraps, Serves, GoesInSlot, GaveIn, WroteIn}
use Rattle.http_front.specs.declared.answers.Written.{Written}
use Rattle.http_front.specs.declared.answers.Written.TheVariants as written
use Rattle.http_front.specs.declared.slots.Given.{Given}
use Rattle.http_front.specs.declared.slots.Given.TheVariants as given
use Rattle.http_front.specs.Telling.{open_slots, PassesOn, TellsSession, AreSlots, Tells, TellsOver, stops, Follows, HasNoSlot, InSlots, GivesBack, Gave}
use Rattle.http_front.specs.Telling.{Wrote as WroteOver}
use Rattle.http_front.proofs.Clients.{at_client, not_both}
use Rattle.http_front.proofs.Places.{decide, some_same, get_within, get_put_same, behind_cases, elsewhere, shift, shift_get, shift_elsewhere}
use Rattle.http_front.proofs.Wrapping.{at_number, at_it, at_other, fresh_client, unasked_client, below_unasked, failed_client, unwritten_client, OthersStand, tells_on, same_slots, set_slot, add_slot, remove_slot}

-- ---- before the first event

pub began_over : (told told' : Meaning → Type 0) (r : Reading) (old : Option Open) (slots : Open) (stopped : Bool) (s : Started) → slots ≡ record { slots = []; limit = r.limit } → Leads told told' NotStarted (StartLeads s began.Done)
    → Leads (TellsOver told r old stopped) (TellsOver told' r (Some slots) stopped) NotStarted (StartLeads s began.Done)
began_over told told' r old slots stopped s all leads = λ m tells can.
    let n = tells.0 in
    let t = tells.2 in
    let led = leads n tells.1 (sym t.started ∙ can.0, t.asked can.1) in
    let none_yet : old ≡ None = subst (λ (o : Option Started). AreSlots r o old) can.0 t.slots_are in
    let same : slots.slots ≡ open_slots old = ap (λ (o : Open). o.slots) all ∙ sym (ap open_slots none_yet) in
    let n' : Meaning = record n { started = Some s } in
    let m' : Meaning = record m { started = Some s } in (
      m',
      (
        n',
        subst told' led.2 led.1,
        record {
          announced = λ k a. subst (λ (xs : List Slot). TellsSession r xs k (n.session k) (m.session k)) (sym same) (t.announced k a);
          unknown = t.unknown;
          open_in = λ at slot is. t.open_in at slot (subst (λ (xs : List Slot). slice_get xs at ≡ Some slot) same is);
          rising = subst IsRising (sym same) t.rising;
          started = refl;
          asked = t.asked;
          ends = t.ends;
          slots_are = ap (λ (o : Open). o.limit) all;
        },
      ),
      refl,
    )

pub failed_over : (told told' : Meaning → Type 0) (r : Reading) (slots : Option Open) (stopped : Bool) (s : Started) → Leads told told' NotStarted (StartLeads s began.Failed)
    → Leads (TellsOver told r slots stopped) (TellsOver told' r slots stopped) NotStarted (StartLeads s began.Failed)
failed_over told told' r slots stopped s leads = λ m tells can.
    let led = leads tells.0 tells.1 (sym tells.2.started ∙ can.0, tells.2.asked can.1) in
    (m, (tells.0, subst told' led.2 led.1, tells.2), refl)

pub unfound_over : (told told' : Meaning → Type 0) (r : Reading) (slots : Option Open) (stopped : Bool) (s : Started) (at : ℕ) → Leads told told' NotStarted (StartLeads s (began.NotFound at))
    → Leads (TellsOver told r slots stopped) (TellsOver told' r slots stopped) NotStarted (StartLeads s (began.NotFound at))
unfound_over told told' r slots stopped s at leads = λ m tells can.
    let led = leads tells.0 tells.1 (sym tells.2.started ∙ can.0, tells.2.asked can.1) in
    (m, (tells.0, subst told' led.2 led.1, tells.2), refl)

pub refused_over : (told told' : Meaning → Type 0) (r : Reading) (slots : Option Open) (stopped : Bool) (s : Started) → Leads told told' NotStarted (StartLeads s began.OutOfMemory)
    → Leads (TellsOver told r slots stopped) (TellsOver told' r slots stopped) NotStarted (StartLeads s began.OutOfMemory)
refused_over told told' r slots stopped s leads = λ m tells can.
    let led = leads tells.0 tells.1 (sym tells.2.started ∙ can.0, tells.2.asked can.1) in
    (m, (tells.0, subst told' led.2 led.1, tells.2), refl)

-- the hub below wasn't asked
pub unasked_over : (told : Meaning → Type 0) (s : Started) → Leads told told NotStarted (StartLeads s began.OutOfMemory)
unasked_over told s = λ m tells can. (m, tells, refl)

-- ---- events

has_started : (r : Reading) (slots : Option Open) (stopped : Bool) (n m : Meaning) → Tells r slots stopped n m → HasStarted m → HasStarted n
has_started r slots stopped n m t h = subst (λ (o : Option Started). IsSome o) t.started h

-- an open session was announced above it as below
announced_below : (r : Reading) (slots : Option Open) (stopped : Bool) (n m : Meaning) (j : ℕ) → Tells r slots stopped n m → (m.session j).announced ≡ true → (n.session j).announced ≡ true
announced_below r slots stopped n m j t a = by (n.session j).announced refl
  where
    by : (b : Bool) → (n.session j).announced ≡ b → (n.session j).announced ≡ true
    by true e = e
    by false e = absurd (not_both (m.session j).announced a (ap (λ (x : Told). x.announced) (t.unknown j e) ∙ e))

-- the numbers of all slots are below that of a session that is opened
below_new : (r : Reading) (slots : Option Open) (stopped : Bool) (n m : Meaning) (k : ℕ) → Tells r slots stopped n m → ((j : ℕ) → (n.session j).announced ≡ true → j < k) → (at : ℕ) (slot : Slot) → slice_get (open_slots slots) at ≡ Some slot → slot.number < k
below_new r slots stopped n m k t under at slot is = under slot.number (announced_below r slots stopped n m slot.number t (t.open_in at slot is).0)

-- the meaning behind an event that names session k
abbrev behind_event : Meaning → ℕ → Told → HubNext → Meaning
behind_event m k t event = record { session = at_number k t m.session; started = m.started; last_event = Some event; events = one_more m.events; calls = m.calls ++ Asked event ∷ [] }

comes_over : (m : Meaning) (k : ℕ) (t : Told) (event : HubNext) → Comes k event t m (behind_event m k t event)
comes_over m k t event = record { session = at_it k t m.session; others = λ j e. at_other k t m.session j e; started = refl; last_event = refl; events = refl; calls = refl }

limit_of : (r : Reading) (o : Option Started) (a : Open) → IsSome o → AreSlots r o (Some a) → a.limit ≡ r.limit
limit_of r None a some are = absurd (cc)
limit_of r (Some s) a some are = are

slots_with : (r : Reading) (o : Option Started) (a b : Open) → b.limit ≡ a.limit → AreSlots r o (Some a) → AreSlots r o (Some b)
slots_with r None a b same are = absurd (cc)
slots_with r (Some s) a b same are = same ∙ are

-- how the slots stand where a session was opened, above all others
record Opens (r : Reading) (k : ℕ) (a b : Open) : Type 0 where
  stand : OthersStand k a.slots b.slots
  held : (at : ℕ) (x : Slot) → IsAt b.slots k at x → x ≡ new_slot k r.limit
  limit : b.limit ≡ a.limit

opens : (r : Reading) (k : ℕ) (a b : Open) → a.limit ≡ r.limit → IsRising a.slots → ((at : ℕ) (x : Slot) → slice_get a.slots at ≡ Some x → x.number < k) → Admits k a b → Opens r k a b
opens r k a b limit rising below (inl is) =
    let slots : b.slots ≡ a.slots ++ new_slot k a.limit ∷ [] = ap (λ (o : Open). o.slots) is in
    record {
      stand = subst (λ (xs : List Slot). OthersStand k a.slots xs) (sym slots) (add_slot k a.slots (new_slot k a.limit) rising refl below);
      held = λ at x h. by at x h.number (behind_cases a.slots (new_slot k a.limit) x at (subst (λ (xs : List Slot). slice_get xs at ≡ Some x) slots h.is));
      limit = ap (λ (o : Open). o.limit) is;
    }
  where
    by : (at : ℕ) (x : Slot) → x.number ≡ k → ((at ≡ length a.slots) × (x ≡ new_slot k a.limit)) ⊎ (slice_get a.slots at ≡ Some x) → x ≡ new_slot k r.limit
    by at x n (inl c) = c.1 ∙ ap (λ (l : ℕ). new_slot k l) limit
    by at x n (inr c) = absurd (omega (arith, below at x c, n))
opens r k a b limit rising below (inr none) =
    let slots : b.slots ≡ a.slots = ap (λ (o : Open). o.slots) none in
    record {
      stand = subst (λ (xs : List Slot). OthersStand k a.slots xs) (sym slots) (same_slots k a.slots rising);
      held = λ at x is. absurd (omega (arith, below at x (subst (λ (xs : List Slot). slice_get xs at ≡ Some x) slots is.is), is.number));
      limit = ap (λ (o : Open). o.limit) none;
    }

some_false : (stopped : Bool) → stopped ≡ false → stopped ≡ true → ⊥
some_false stopped going ended = not_both stopped ended going

-- a session was opened
opened_over : (told told' : Meaning → Type 0) (r : Reading) (a b : Open) (stopped : Bool) (k : ℕ) → stopped ≡ false → Admits k a b → Leads told told' HasStarted (NextLeads (event.Opened k))
    → Leads (TellsOver told r (Some a) stopped) (TellsOver told' r (Some b) false) HasStarted (NextLeads (event.Opened k))
opened_over told told' r a b stopped k going admits leads = λ m tells can.
    let n = tells.0 in
    let t = tells.2 in
    let led = leads n tells.1 (has_started r (Some a) stopped n m t can) in
    let under = led.2.1.0 in
    let comes = led.2.1.1 in
    let m' = behind_event m k new_session (event.Opened k) in
    let o = opens r k a b (limit_of r m.started a can t.slots_are) t.rising (below_new r (Some a) stopped n m k t under) admits in
    let is : led.0.session k ≡ new_session = comes.session in
    let told_now : TellsSession r b.slots k new_session new_session = record {
      slot = new_slot k r.limit;
      client = fresh_client r k;
      upstream = record { received = refl; sent = refl; ended = refl };
      announced = refl;
      closed = refl;
      in_slot = λ c. record { held = o.held; missing = λ none. (refl, refl) };
    } in (
      m',
      (
        led.0,
        led.1,
        tells_on r (Some a) (Some b) stopped false n led.0 m m' k new_session t o.stand comes.others (ap (λ (x : Told). x.announced) is) (subst (λ (x : Told). TellsSession r b.slots k x new_session) (sym is) told_now) (λ j. refl) (λ at slot h. (refl, refl))
            (record { started = t.started ∙ sym comes.started; asked = λ e. absurd (cc); ends = λ e. absurd (cc); slots_are = slots_with r m.started a b o.limit t.slots_are }),
      ),
      (
        λ e. absurd (some_false stopped going (t.ends e)),
        (λ j a'. under j (announced_below r (Some a) stopped n m j t a'), comes_over m k new_session (event.Opened k)),
      ),
    )

-- a session is ready
ready_over : (told told' : Meaning → Type 0) (r : Reading) (slots : Option Open) (stopped : Bool) (k : ℕ) → stopped ≡ false → Leads told told' HasStarted (NextLeads (event.Ready k))
    → Leads (TellsOver told r slots stopped) (TellsOver told' r slots false) HasStarted (NextLeads (event.Ready k))
ready_over told told' r slots stopped k going leads = λ m tells can.
    let n = tells.0 in
    let t = tells.2 in
    let led = leads n tells.1 (has_started r slots stopped n m t can) in
    let below = led.2.1.0 in
    let comes = led.2.1.1 in
    let t' = reopened (m.session k) in
    let m' = behind_event m k t' (event.Ready k) in
    let s = t.announced k below.0 in
    let is_open : IsOpen k m = (s.announced ∙ below.0, s.closed ∙ below.1) in
    let now : led.0.session k ≡ reopened (n.session k) = comes.session in
    let told_now : TellsSession r (open_slots slots) k (reopened (n.session k)) t' = record {
      slot = s.slot;
      client = below_unasked r s.slot (n.session k).client t'.client (unasked_client r s.slot (n.session k).client (m.session k).client s.client);
      upstream = record { received = s.upstream.received; sent = s.upstream.sent; ended = s.upstream.ended };
      announced = s.announced;
      closed = s.closed;
      in_slot = λ c. record { held = (s.in_slot c).held; missing = (s.in_slot c).missing };
    } in (
      m',
      (
        led.0,
        led.1,
        tells_on r slots slots stopped false n led.0 m m' k t' t (same_slots k (open_slots slots) t.rising) comes.others (ap (λ (x : Told). x.announced) now ∙ below.0)
            (subst (λ (x : Told). TellsSession r (open_slots slots) k x t') (sym now) told_now) (λ j. refl) (λ at slot h. is_open)
            (record { started = t.started ∙ sym comes.started; asked = λ e. absurd (cc); ends = λ e. absurd (cc); slots_are = t.slots_are }),
      ),
      (λ e. absurd (some_false stopped going (t.ends e)), (is_open, comes_over m k t' (event.Ready k))),
    )

-- a session that is marked is ready
pub marked_over : (told : Meaning → Type 0) (r : Reading) (slots slots' : Option Open) (stopped : Bool) (k : ℕ) → stopped ≡ false → IsMarked (open_slots slots) k → slots' ≡ slots
    → Leads (TellsOver told r slots stopped) (TellsOver told r slots' stopped) HasStarted (NextLeads (event.Ready k))
marked_over told r slots slots' stopped k going marked same =
    subst (λ (o : Option Open). Leads (TellsOver told r slots stopped) (TellsOver told r o stopped) HasStarted (NextLeads (event.Ready k))) (sym same) (λ m tells can.
    let n = tells.0 in
    let t = tells.2 in
    let is_open : IsOpen k m = subst (λ i. IsOpen i m) marked.2.number (t.open_in marked.0 marked.1 marked.2.is) in
    let below = announced_below r slots stopped n m k t is_open.0 in
    let s = t.announced k below in
    let t' = reopened (m.session k) in
    let m' = behind_event m k t' (event.Ready k) in
    let told_now : TellsSession r (open_slots slots) k (n.session k) t' = record {
      slot = s.slot;
      client = unasked_client r s.slot (n.session k).client (m.session k).client s.client;
      upstream = record { received = s.upstream.received; sent = s.upstream.sent; ended = s.upstream.ended };
      announced = s.announced;
      closed = s.closed;
      in_slot = λ c. record { held = (s.in_slot c).held; missing = (s.in_slot c).missing };
    } in (
      m',
      (
        n,
        tells.1,
        tells_on r slots slots stopped stopped n n m m' k t' t (same_slots k (open_slots slots) t.rising) (λ j e. refl) below told_now (λ j. refl) (λ at slot h. is_open)
            (record { started = t.started; asked = λ e. absurd (cc); ends = λ e. absurd (cc); slots_are = t.slots_are }),
      ),
      (λ e. absurd (some_false stopped going (t.ends e)), (is_open, comes_over m k t' (event.Ready k))),
    ))

-- no event has come
still : (told' : Meaning → Type 0) (r : Reading) (slots : Option Open) (stopped stopped' : Bool) (answer : HubNext) (n n' m : Meaning) → told' n' → Tells r slots stopped n m → ((j : ℕ) → n'.session j ≡ n.session j) → n'.started ≡ n.started → (◌≡◌ {A = Option HubNext} (Some answer) (Some event.Stopped) → stopped' ≡ true)
    → (m' : Meaning) × TellsOver told' r slots stopped' m' × Answers answer m m'
still told' r slots stopped stopped' answer n n' m told_now t sessions started ends =
    let m' : Meaning = record m { last_event = Some answer; calls = m.calls ++ Asked answer ∷ [] } in (
      m',
      (
        n',
        told_now,
        record {
          announced = λ k a. subst (λ (x : Told). TellsSession r (open_slots slots) k x (m.session k)) (sym (sessions k)) (t.announced k (sym (ap (λ (x : Told). x.announced) (sessions k)) ∙ a));
          unknown = λ k a. t.unknown k (sym (ap (λ (x : Told). x.announced) (sessions k)) ∙ a) ∙ sym (sessions k);
          open_in = t.open_in;
          rising = t.rising;
          started = t.started ∙ sym started;
          asked = λ e. absurd (cc);
          ends = ends;
          slots_are = t.slots_are;
        },
      ),
      record { sessions = λ j. refl; started = refl; last_event = refl; events = refl; calls = refl },
    )

stopped_over : (told told' : Meaning → Type 0) (r : Reading) (slots : Option Open) (stopped : Bool) → Leads told told' HasStarted (NextLeads event.Stopped)
    → Leads (TellsOver told r slots stopped) (TellsOver told' r slots true) HasStarted (NextLeads event.Stopped)
stopped_over told told' r slots stopped leads = λ m tells can.
    let led = leads tells.0 tells.1 (has_started r slots stopped tells.0 m tells.2 can) in
    let s = still told' r slots stopped true event.Stopped tells.0 led.0 m led.1 tells.2 led.2.1.sessions led.2.1.started (λ e. refl) in
    (s.0, s.1, (λ e. refl, s.2))

failing_over : (told told' : Meaning → Type 0) (r : Reading) (slots : Option Open) (stopped : Bool) → stopped ≡ false → Leads told told' HasStarted (NextLeads event.Failed)
    → Leads (TellsOver told r slots stopped) (TellsOver told' r slots false) HasStarted (NextLeads event.Failed)
failing_over told told' r slots stopped going leads = λ m tells can.
    let led = leads tells.0 tells.1 (has_started r slots stopped tells.0 m tells.2 can) in
    let s = still told' r slots stopped false event.Failed tells.0 led.0 m led.1 tells.2 led.2.1.sessions led.2.1.started (λ e. absurd (cc)) in
    (s.0, s.1, (λ e. absurd (some_false stopped going (tells.2.ends e)), s.2))

-- it has stopped
pub ended_over : (told : Meaning → Type 0) (r : Reading) (slots : Option Open) (stopped : Bool) → stopped ≡ true → Leads (TellsOver told r slots stopped) (TellsOver told r slots stopped) HasStarted (NextLeads event.Stopped)
ended_over told r slots stopped is = λ m tells can.
    let s = still told r slots stopped stopped event.Stopped tells.0 tells.0 m tells.1 tells.2 (λ j. refl) refl (λ e. is) in
    (s.0, s.1, (λ e. refl, s.2))

-- before it has started no session is opened
not_opened : (told told' : Meaning → Type 0) (r : Reading) (stopped : Bool) (k : ℕ) → Leads (TellsOver told r None stopped) (TellsOver told' r None false) HasStarted (NextLeads (event.Opened k))
not_opened told told' r stopped k = λ m tells can. absurd (none m.started can tells.2.slots_are)
  where
    none : (o : Option Started) → IsSome o → AreSlots r o None → ⊥
    none None some are = cc
    none (Some s) some are = are

pub next_over : (told told' : Meaning → Type 0) (r : Reading) (a b : Option Open) (stopped : Bool) (event : HubNext) → stopped ≡ false → Follows event a b → Leads told told' HasStarted (NextLeads event)
    → Leads (TellsOver told r a stopped) (TellsOver told' r b (stops event)) HasStarted (NextLeads event)
next_over told told' r None b stopped (event.Opened k) going f leads =
    subst (λ (b : Option Open). Leads (TellsOver told r None stopped) (TellsOver told' r b false) HasStarted (NextLeads (event.Opened k))) (sym f) (not_opened told told' r stopped k)
next_over told told' r (Some s) b stopped (event.Opened k) going f leads =
    subst (λ (b : Option Open). Leads (TellsOver told r (Some s) stopped) (TellsOver told' r b false) HasStarted (NextLeads (event.Opened k))) (sym f.1) (opened_over told told' r s f.0 stopped k going f.2 leads)
next_over told told' r a b stopped (event.Ready k) going f leads =
    subst (λ (b : Option Open). Leads (TellsOver told r a stopped) (TellsOver told' r b false) HasStarted (NextLeads (event.Ready k))) (sym f) (ready_over told told' r a stopped k going leads)
next_over told told' r a b stopped event.Stopped going f leads =
    subst (λ (b : Option Open). Leads (TellsOver told r a stopped) (TellsOver told' r b true) HasStarted (NextLeads event.Stopped)) (sym f) (stopped_over told told' r a stopped leads)
next_over told told' r a b stopped event.Failed going f leads =
    subst (λ (b : Option Open). Leads (TellsOver told r a stopped) (TellsOver told' r b false) HasStarted (NextLeads event.Failed)) (sym f) (failing_over told told' r a stopped going leads)

-- ---- calls on a session

abbrev behind_call : Meaning → ℕ → Told → HubCall → Meaning
behind_call m k t call = record m { session = at_number k t m.session; calls = m.calls ++ call ∷ [] }

changes_over : (m : Meaning) (k : ℕ) (t : Told) (call : HubCall) (Step : Told → Told → Type 0) → Step (m.session k) t → Changes k call Step m (behind_call m k t call)
changes_over m k t call Step step = record {
  session = subst (λ (x : Told). Step (m.session k) x) (sym (at_it k t m.session)) step;
  others = λ j e. at_other k t m.session j e;
  started = refl;
  last_event = refl;
  events = refl;
  calls = refl;
}

-- a session has one slot at most
one_slot : (slots : List Slot) (k i j : ℕ) (d e : Slot) → IsRising slots → IsAt slots k i d → IsAt slots k j e → d ≡ e
one_slot slots k i j d e rising p q = by (decide i j)
  where
    by : (i ≡ j) ⊎ (i ≢ j) → d ≡ e
    by (inl c) = some_same (slice_get slots j) d e (ap (λ i. slice_get slots i) (sym c) ∙ p.is) q.is
    by (inr c) = absurd (elsewhere slots i j d e rising c p.is q.is (p.number ∙ sym q.number))

passes_with : (i i' o : Link) → i' ≡ i → PassesOn i o → PassesOn i' o
passes_with i i' o same p = subst (λ (i : Link). PassesOn i o) (sym same) p

-- a call on the client of a session that has a slot
called_over : (told told' : Meaning → Type 0) (r : Reading) (a b : Open) (stopped : Bool) (k : ℕ) (call : HubCall) (Step : Link → Link → Type 0) → GoesInSlot told told' r k Step a b
    → Leads (TellsOver told r (Some a) stopped) (TellsOver told' r (Some b) stopped) (IsOpen k) (Changes k call (AtSide side.Client Step))
called_over told told' r a b stopped k call Step goes = λ m tells is_open.
    let n = tells.0 in
    let t = tells.2 in
    let below = announced_below r (Some a) stopped n m k t is_open.0 in
    let s = t.announced k below in
    let held : goes.slot ≡ s.slot = (s.in_slot is_open.1).held goes.at goes.slot goes.was in
    let g = goes.goes n tells.1 (below, sym s.closed ∙ is_open.1) in
    let moved = g.2 in
    let c = at_client (Serves r goes.slot goes.slot_after Step) (n.session k) (g.0.session k) moved.session (m.session k).client (subst (λ (x : Slot). Wraps r x (n.session k).client (m.session k).client) (sym held) s.client) in
    let t' : Told = record (m.session k) { client = c.0 } in
    let slots : b.slots ≡ _ = ap (λ (o : Open). o.slots) goes.is in
    let stand : OthersStand k a.slots b.slots = subst (λ (xs : List Slot). OthersStand k a.slots xs) (sym slots) (set_slot k goes.at a.slots goes.slot goes.slot_after t.rising goes.was goes.number) in
    let here : slice_get b.slots goes.at ≡ Some goes.slot_after = ap (λ (xs : List Slot). slice_get xs goes.at) slots ∙ get_put_same a.slots goes.at goes.slot_after (get_within a.slots goes.at goes.slot goes.was.is) in
    let told_now : TellsSession r b.slots k (g.0.session k) t' = record {
      slot = goes.slot_after;
      client = c.2;
      upstream = passes_with (n.session k).upstream (g.0.session k).upstream (m.session k).upstream (ap (λ (x : Told). x.upstream) moved.session.2) s.upstream;
      announced = s.announced ∙ sym (ap (λ (x : Told). x.announced) moved.session.2);
      closed = s.closed ∙ sym (ap (λ (x : Told). x.closed) moved.session.2);
      in_slot = λ c. record {
        held = λ i y is. one_slot b.slots k i goes.at y goes.slot_after stand.rising is (record { is = here; number = goes.number });
        missing = λ none. absurd (none goes.at goes.slot_after (record { is = here; number = goes.number }));
      };
    } in (
      behind_call m k t' call,
      (
        g.0,
        g.1,
        tells_on r (Some a) (Some b) stopped stopped n g.0 m (behind_call m k t' call) k t' t stand moved.others (ap (λ (x : Told). x.announced) moved.session.2 ∙ below) told_now (λ j. refl) (λ at slot h. is_open)
            (record { started = t.started ∙ sym moved.started; asked = λ e. moved.last_event ∙ t.asked e; ends = t.ends; slots_are = slots_with r m.started a b (ap (λ (o : Open). o.limit) goes.is) t.slots_are }),
      ),
      changes_over m k t' call (AtSide side.Client Step) (c.0, c.1, refl),
    )

pub call_over : (told told' : Meaning → Type 0) (r : Reading) (a b : Option Open) (stopped : Bool) (k : ℕ) (call : HubCall) (Step : Link → Link → Type 0) → InSlots (GoesInSlot told told' r k Step) a b
    → Leads (TellsOver told r a stopped) (TellsOver told' r b stopped) (IsOpen k) (Changes k call (AtSide side.Client Step))
call_over told told' r a b stopped k call Step g =
    subst (λ (a : Option Open). Leads (TellsOver told r a stopped) (TellsOver told' r b stopped) (IsOpen k) (Changes k call (AtSide side.Client Step))) (sym g.2)
    (subst (λ (b : Option Open). Leads (TellsOver told r (Some g.0) stopped) (TellsOver told' r b stopped) (IsOpen k) (Changes k call (AtSide side.Client Step))) (sym g.3)
    (called_over told told' r g.0 g.1 stopped k call Step g.4))

-- ---- the upstream's side is passed through

passes_read : (into : List ℕ) (answer : LinkGot) (i i' o : Link) → LinkReads into answer i i' → PassesOn i o → (o' : Link) × LinkReads into answer o o' × PassesOn i' o'
passes_read into (got.Bytes n) i i' o h p = (
  record o { received = o.received ++ take n into; last_read = Some (got.Bytes n) },
  (p.ended ∙ h.0, refl),
  subst (λ (i' : Link). PassesOn i' (record o { received = o.received ++ take n into; last_read = Some (got.Bytes n) })) (sym h.1)
      (record { received = ap (λ (r : List ℕ). r ++ take n into) p.received; sent = p.sent; ended = p.ended }),
)
passes_read into got.NotReady i i' o h p = (
  record o { last_read = Some got.NotReady },
  (p.ended ∙ h.0, refl),
  subst (λ (i' : Link). PassesOn i' (record o { last_read = Some got.NotReady })) (sym h.1) (record { received = p.received; sent = p.sent; ended = p.ended }),
)
passes_read into got.End i i' o h p = (
  record o { ended = true; last_read = Some got.End },
  refl,
  subst (λ (i' : Link). PassesOn i' (record o { ended = true; last_read = Some got.End })) (sym h) (record { received = p.received; sent = p.sent; ended = refl }),
)
passes_read into got.Failed i i' o h p = (
  record o { last_read = Some got.Failed },
  (p.ended ∙ h.0, refl),
  subst (λ (i' : Link). PassesOn i' (record o { last_read = Some got.Failed })) (sym h.1) (record { received = p.received; sent = p.sent; ended = p.ended }),
)

passes_write : (from : List ℕ) (answer : LinkPut) (i i' o : Link) → LinkWrites from answer i i' → PassesOn i o → (o' : Link) × LinkWrites from answer o o' × PassesOn i' o'
passes_write from (put.Took n) i i' o h p = (
  record o { sent = o.sent ++ take n from; last_write = Some (put.Took n) },
  refl,
  subst (λ (i' : Link). PassesOn i' (record o { sent = o.sent ++ take n from; last_write = Some (put.Took n) })) (sym h)
      (record { received = p.received; sent = ap (λ (r : List ℕ). r ++ take n from) p.sent; ended = p.ended }),
)
passes_write from put.NotReady i i' o h p = (
  record o { last_write = Some put.NotReady },
  refl,
  subst (λ (i' : Link). PassesOn i' (record o { last_write = Some put.NotReady })) (sym h) (record { received = p.received; sent = p.sent; ended = p.ended }),
)
passes_write from put.Failed i i' o h p = (
  record o { last_write = Some put.Failed },
  refl,
  subst (λ (i' : Link). PassesOn i' (record o { last_write = Some put.Failed })) (sym h) (record { received = p.received; sent = p.sent; ended = p.ended }),
)

passes_over : (told told' : Meaning → Type 0) (r : Reading) (slots : Option Open) (stopped : Bool) (k : ℕ) (call : HubCall) (Step : Link → Link → Type 0) → ((i i' o : Link) → Step i i' → PassesOn i o → (o' : Link) × Step o o' × PassesOn i' o') → (HasNone (open_slots slots) k → ⊥)
    → Leads told told' (IsOpen k) (Changes k call (AtSide side.Upstream Step)) → Leads (TellsOver told r slots stopped) (TellsOver told' r slots stopped) (IsOpen k) (Changes k call (AtSide side.Upstream Step))
passes_over told told' r slots stopped k call Step by has leads = λ m tells is_open.
    let n = tells.0 in
    let t = tells.2 in
    let below = announced_below r slots stopped n m k t is_open.0 in
    let s = t.announced k below in
    let g = leads n tells.1 (below, sym s.closed ∙ is_open.1) in
    let moved = g.2 in
    let c = by (n.session k).upstream moved.session.0 (m.session k).upstream moved.session.1 s.upstream in
    let t' : Told = record (m.session k) { upstream = c.0 } in
    let told_now : TellsSession r (open_slots slots) k (record (n.session k) { upstream = moved.session.0 }) t' = record {
      slot = s.slot;
      client = s.client;
      upstream = c.2;
      announced = s.announced;
      closed = s.closed;
      in_slot = λ c. record { held = (s.in_slot c).held; missing = λ none. absurd (has none) };
    } in (
      behind_call m k t' call,
      (
        g.0,
        g.1,
        tells_on r slots slots stopped stopped n g.0 m (behind_call m k t' call) k t' t (same_slots k (open_slots slots) t.rising) moved.others (ap (λ (x : Told). x.announced) moved.session.2 ∙ below)
            (subst (λ (x : Told). TellsSession r (open_slots slots) k x t') (sym moved.session.2) told_now) (λ j. refl) (λ at slot h. is_open)
            (record { started = t.started ∙ sym moved.started; asked = λ e. moved.last_event ∙ t.asked e; ends = t.ends; slots_are = t.slots_are }),
      ),
      changes_over m k t' call (AtSide side.Upstream Step) (c.0, c.1, refl),
    )

pub upstream_read : (told told' : Meaning → Type 0) (r : Reading) (slots : Option Open) (stopped : Bool) (k size : ℕ) (into : List ℕ) (answer : LinkGot) → (HasNone (open_slots slots) k → ⊥) → Leads told told' (IsOpen k) (ReadLeads k side.Upstream size into answer)
    → Leads (TellsOver told r slots stopped) (TellsOver told' r slots stopped) (IsOpen k) (ReadLeads k side.Upstream size into answer)
upstream_read told told' r slots stopped k size into answer has leads = passes_over told told' r slots stopped k (Read k side.Upstream size answer) (LinkReads into answer) (passes_read into answer) has leads

pub upstream_write : (told told' : Meaning → Type 0) (r : Reading) (slots : Option Open) (stopped : Bool) (k : ℕ) (from : List ℕ) (answer : LinkPut) → (HasNone (open_slots slots) k → ⊥) → Leads told told' (IsOpen k) (WriteLeads k side.Upstream from answer)
    → Leads (TellsOver told r slots stopped) (TellsOver told' r slots stopped) (IsOpen k) (WriteLeads k side.Upstream from answer)
upstream_write told told' r slots stopped k from answer has leads = passes_over told told' r slots stopped k (Wrote k side.Upstream (length from) answer) (LinkWrites from answer) (passes_write from answer) has leads

-- ---- calls that the hub below isn't asked for

-- the session above has changed alone, and its slot hasn't
left_over : (told : Meaning → Type 0) (r : Reading) (slots : Option Open) (stopped : Bool) (n m : Meaning) (k : ℕ) (t' : Told) (call : HubCall) (t : Tells r slots stopped n m) (below : (n.session k).announced ≡ true) → IsOpen k m
    → Wraps r (t.announced k below).slot (n.session k).client t'.client → PassesOn (n.session k).upstream t'.upstream → t'.announced ≡ (m.session k).announced → t'.closed ≡ (m.session k).closed
    → t'.client.ended ≡ (m.session k).client.ended → t'.upstream.ended ≡ (m.session k).upstream.ended → told n → TellsOver told r slots stopped (behind_call m k t' call)
left_over told r slots stopped n m k t' call t below is_open wraps passes announced closed client upstream told_n =
    let s = t.announced k below in
    let told_now : TellsSession r (open_slots slots) k (n.session k) t' = record {
      slot = s.slot;
      client = wraps;
      upstream = passes;
      announced = announced ∙ s.announced;
      closed = closed ∙ s.closed;
      in_slot = λ c. record {
        held = (s.in_slot is_open.1).held;
        missing = λ none. (client ∙ ((s.in_slot is_open.1).missing none).0, upstream ∙ ((s.in_slot is_open.1).missing none).1);
      };
    } in (
      n,
      told_n,
      tells_on r slots slots stopped stopped n n m (behind_call m k t' call) k t' t (same_slots k (open_slots slots) t.rising) (λ j e. refl) below told_now (λ j. refl) (λ at slot h. (announced ∙ is_open.0, closed ∙ is_open.1))
          (record { started = t.started; asked = t.asked; ends = t.ends; slots_are = t.slots_are }),
    )

-- a session without a slot isn't read
stray_client : (told : Meaning → Type 0) (r : Reading) (slots : Option Open) (stopped : Bool) (k size : ℕ) (into : List ℕ) → HasNoSlot k slots
    → Leads (TellsOver told r slots stopped) (TellsOver told r slots stopped) (IsOpen k) (ReadLeads k side.Client size into got.Failed)
stray_client told r slots stopped k size into none = λ m tells is_open.
    let n = tells.0 in
    let t = tells.2 in
    let below = announced_below r slots stopped n m k t is_open.0 in
    let s = t.announced k below in
    let going = (s.in_slot is_open.1).missing (none t.rising) in
    let link : Link = record ((m.session k).client) { last_read = Some got.Failed } in
    let t' : Told = record (m.session k) { client = link } in
    let call = Read k side.Client size got.Failed in (
      behind_call m k t' call,
      left_over told r slots stopped n m k t' call t below is_open (failed_client r s.slot (n.session k).client (m.session k).client s.client) s.upstream refl refl refl refl tells.1,
      changes_over m k t' call (AtSide side.Client (LinkReads into got.Failed)) (link, (going.0, refl), refl),
    )

pub stray_read : (told told' : Meaning → Type 0) (r : Reading) (slots slots' : Option Open) (stopped : Bool) (k size : ℕ) (into : List ℕ) → HasNoSlot k slots → slots' ≡ slots → told' ≡ told
    → Leads (TellsOver told r slots stopped) (TellsOver told' r slots' stopped) (IsOpen k) (ReadLeads k side.Client size into got.Failed)
stray_read told told' r slots slots' stopped k size into none same below =
    subst (λ (o : Option Open). Leads (TellsOver told r slots stopped) (TellsOver told' r o stopped) (IsOpen k) (ReadLeads k side.Client size into got.Failed)) (sym same)
    (subst (λ (t : Meaning → Type 0). Leads (TellsOver told r slots stopped) (TellsOver t r slots stopped) (IsOpen k) (ReadLeads k side.Client size into got.Failed)) (sym below) (stray_client told r slots stopped k size into none))

pub stray_upstream_read : (told : Meaning → Type 0) (r : Reading) (slots : Option Open) (stopped : Bool) (k size : ℕ) (into : List ℕ) → HasNoSlot k slots
    → Leads (TellsOver told r slots stopped) (TellsOver told r slots stopped) (IsOpen k) (ReadLeads k side.Upstream size into got.Failed)
stray_upstream_read told r slots stopped k size into none = λ m tells is_open.
    let n = tells.0 in
    let t = tells.2 in
    let below = announced_below r slots stopped n m k t is_open.0 in
    let s = t.announced k below in
    let going = (s.in_slot is_open.1).missing (none t.rising) in
    let link : Link = record ((m.session k).upstream) { last_read = Some got.Failed } in
    let t' : Told = record (m.session k) { upstream = link } in
    let call = Read k side.Upstream size got.Failed in (
      behind_call m k t' call,
      left_over told r slots stopped n m k t' call t below is_open s.client (record { received = s.upstream.received; sent = s.upstream.sent; ended = s.upstream.ended }) refl refl refl refl tells.1,
      changes_over m k t' call (AtSide side.Upstream (LinkReads into got.Failed)) (link, (going.1, refl), refl),
    )

-- a write to a client that awaits no answer, or of a session without a slot
stray_put : (told : Meaning → Type 0) (r : Reading) (slots : Option Open) (stopped : Bool) (k : ℕ) (from : List ℕ) → Leads (TellsOver told r slots stopped) (TellsOver told r slots stopped) (IsOpen k) (WriteLeads k side.Client from put.Failed)
stray_put told r slots stopped k from = λ m tells is_open.
    let n = tells.0 in
    let t = tells.2 in
    let below = announced_below r slots stopped n m k t is_open.0 in
    let s = t.announced k below in
    let link : Link = record ((m.session k).client) { last_write = Some put.Failed } in
    let t' : Told = record (m.session k) { client = link } in
    let call = Wrote k side.Client (length from) put.Failed in (
      behind_call m k t' call,
      left_over told r slots stopped n m k t' call t below is_open (unwritten_client r s.slot (n.session k).client (m.session k).client s.client) s.upstream refl refl refl refl tells.1,
      changes_over m k t' call (AtSide side.Client (LinkWrites from put.Failed)) (link, refl, refl),
    )

pub stray_write : (told told' : Meaning → Type 0) (r : Reading) (slots slots' : Option Open) (stopped : Bool) (k : ℕ) (from : List ℕ) → slots' ≡ slots → told' ≡ told
    → Leads (TellsOver told r slots stopped) (TellsOver told' r slots' stopped) (IsOpen k) (WriteLeads k side.Client from put.Failed)
stray_write told told' r slots slots' stopped k from same below =
    subst (λ (o : Option Open). Leads (TellsOver told r slots stopped) (TellsOver told' r o stopped) (IsOpen k) (WriteLeads k side.Client from put.Failed)) (sym same)
    (subst (λ (t : Meaning → Type 0). Leads (TellsOver told r slots stopped) (TellsOver t r slots stopped) (IsOpen k) (WriteLeads k side.Client from put.Failed)) (sym below) (stray_put told r slots stopped k from))

pub stray_upstream_write : (told : Meaning → Type 0) (r : Reading) (slots : Option Open) (stopped : Bool) (k : ℕ) (from : List ℕ) → Leads (TellsOver told r slots stopped) (TellsOver told r slots stopped) (IsOpen k) (WriteLeads k side.Upstream from put.Failed)
stray_upstream_write told r slots stopped k from = λ m tells is_open.
    let n = tells.0 in
    let t = tells.2 in
    let below = announced_below r slots stopped n m k t is_open.0 in
    let s = t.announced k below in
    let link : Link = record ((m.session k).upstream) { last_write = Some put.Failed } in
    let t' : Told = record (m.session k) { upstream = link } in
    let call = Wrote k side.Upstream (length from) put.Failed in (
      behind_call m k t' call,
      left_over told r slots stopped n m k t' call t below is_open s.client (record { received = s.upstream.received; sent = s.upstream.sent; ended = s.upstream.ended }) refl refl refl refl tells.1,
      changes_over m k t' call (AtSide side.Upstream (LinkWrites from put.Failed)) (link, refl, refl),
    )

-- ---- closing

-- where a session gives its slot back, the others stand, and it has none
released : (k : ℕ) (a b : Open) → IsRising a.slots → Releases k a b → OthersStand k a.slots b.slots × HasNone b.slots k × (b.limit ≡ a.limit)
released k a b rising (inl gave) =
    let slots : b.slots ≡ remove a.slots gave.at = ap (λ (o : Open). o.slots) gave.is in
    let stand = remove_slot k gave.at a.slots gave.slot rising gave.was in (
      subst (λ (xs : List Slot). OthersStand k a.slots xs) (sym slots) stand,
      λ at x h.
          let here : slice_get (remove a.slots gave.at) at ≡ Some x = subst (λ (xs : List Slot). slice_get xs at ≡ Some x) slots h.is in
          elsewhere a.slots (shift gave.at at) gave.at x gave.slot rising (shift_elsewhere gave.at at) (sym (shift_get a.slots gave.at at (get_within a.slots gave.at gave.slot gave.was.is)) ∙ here) gave.was.is (h.number ∙ sym gave.was.number),
      ap (λ (o : Open). o.limit) gave.is,
    )
released k a b rising (inr none) =
    let slots : b.slots ≡ a.slots = ap (λ (o : Open). o.slots) none.1 in (
      subst (λ (xs : List Slot). OthersStand k a.slots xs) (sym slots) (same_slots k a.slots rising),
      subst (λ (xs : List Slot). HasNone xs k) (sym slots) (none.0 rising),
      ap (λ (o : Open). o.limit) none.1,
    )

closing : (told told' : Meaning → Type 0) (r : Reading) (a b : Option Open) (stopped : Bool) (k : ℕ) → ((m : Meaning) → IsRising (open_slots a) → OthersStand k (open_slots a) (open_slots b) × HasNone (open_slots b) k) → ((o : Option Started) → AreSlots r o a → AreSlots r o b)
    → Leads told told' (IsOpen k) (CloseLeads k) → Leads (TellsOver told r a stopped) (TellsOver told' r b stopped) (IsOpen k) (CloseLeads k)
closing told told' r a b stopped k releases slots leads = λ m tells is_open.
    let n = tells.0 in
    let t = tells.2 in
    let below = announced_below r a stopped n m k t is_open.0 in
    let s = t.announced k below in
    let led = leads n tells.1 (below, sym s.closed ∙ is_open.1) in
    let t' : Told = record (m.session k) { closed = true } in
    let m' = behind_call m k t' (Closed k) in
    let now : led.0.session k ≡ record (n.session k) { closed = true } = led.2.session in
    let q = releases m t.rising in
    let told_now : TellsSession r (open_slots b) k (record (n.session k) { closed = true }) t' = record {
      slot = s.slot;
      client = s.client;
      upstream = s.upstream;
      announced = s.announced;
      closed = refl;
      in_slot = λ c. absurd (cc);
    } in (
      m',
      (
        led.0,
        led.1,
        tells_on r a b stopped stopped n led.0 m m' k t' t q.0 led.2.others (ap (λ (x : Told). x.announced) now ∙ below) (subst (λ (x : Told). TellsSession r (open_slots b) k x t') (sym now) told_now) (λ j. refl) (λ at slot h. absurd (q.1 at slot h))
            (record { started = t.started ∙ sym led.2.started; asked = λ e. led.2.last_event ∙ t.asked e; ends = t.ends; slots_are = slots m.started t.slots_are }),
      ),
      changes_over m k t' (Closed k) Closes refl,
    )

pub close_over : (told told' : Meaning → Type 0) (r : Reading) (a b : Option Open) (stopped : Bool) (k : ℕ) → GivesBack k a b → Leads told told' (IsOpen k) (CloseLeads k) → Leads (TellsOver told r a stopped) (TellsOver told' r b stopped) (IsOpen k) (CloseLeads k)
close_over told told' r None b stopped k g leads =
    subst (λ (b : Option Open). Leads (TellsOver told r None stopped) (TellsOver told' r b stopped) (IsOpen k) (CloseLeads k)) (sym g)
    (closing told told' r None None stopped k (λ m rising. (same_slots k [] rising, λ at slot h. absurd (omega (arith, get_within [] at slot h.is)))) (λ o are. are) leads)
close_over told told' r (Some s) b stopped k g leads =
    subst (λ (b : Option Open). Leads (TellsOver told r (Some s) stopped) (TellsOver told' r b stopped) (IsOpen k) (CloseLeads k)) (sym g.1)
    (closing told told' r (Some s) (Some g.0) stopped k (λ m rising. let q = released k s g.0 rising g.2 in (q.0, q.1)) (λ o are. with_limit o are) leads)
  where
    with_limit : (o : Option Started) → AreSlots r o (Some s) → AreSlots r o (Some g.0)
    with_limit o are = slots_with r o s g.0 (same g.2) are
      where
        same : Releases k s g.0 → g.0.limit ≡ s.limit
        same (inl gave) = ap (λ (o : Open). o.limit) gave.is
        same (inr none) = ap (λ (o : Open). o.limit) none.1

-- ---- the slots, of which there may be none yet

pub followed : (answer : HubNext) (k : ℕ) (old : Option Open) (s s' : Open) → answer ≡ event.Opened k → old ≡ Some s → Admits k s s' → Follows answer old (Some s')
followed answer k old s s' is some admits =
    subst (λ (e : HubNext). Follows e old (Some s')) (sym is) (subst (λ (o : Option Open). Follows (event.Opened k) o (Some s')) (sym some) (s', refl, admits))

pub gave_back : (k : ℕ) (old : Option Open) (s s' : Open) → old ≡ Some s → Releases k s s' → GivesBack k old (Some s')
gave_back k old s s' some releases = subst (λ (o : Option Open). GivesBack k o (Some s')) (sym some) (s', refl, releases)

-- before a session was announced
pub none_over : (told : Meaning → Type 0) (r : Reading) (stopped : Bool) (m : Meaning) → told m → NotStarted m → ((k : ℕ) → (m.session k).announced ≡ false) → TellsOver told r None stopped m
none_over told r stopped m tells not none = (
  m,
  tells,
  record {
    announced = λ k a. absurd (not_both (m.session k).announced a (none k));
    unknown = λ k a. refl;
    open_in = λ at slot is. absurd (omega (arith, get_within [] at slot is));
    rising = λ i j d e less p q. absurd (omega (arith, get_within [] i d p));
    started = refl;
    asked = λ e. e;
    ends = λ e. absurd (no_event m.last_event not.1 e);
    slots_are = subst (λ (o : Option Started). AreSlots r o None) (sym not.0) refl;
  },
)
  where
    no_event : (o : Option HubNext) → o ≡ None → o ≡ Some event.Stopped → ⊥
    no_event o p q = absurd (none_some (sym p ∙ q))
      where
        none_some : ◌≡◌ {A = Option HubNext} None (Some event.Stopped) → ⊥
        none_some e = cc

pub in_slots : (told told' : Meaning → Type 0) (r : Reading) (k : ℕ) (into : List ℕ) (answer : Given) (old : Option Open) (s s' : Open) → old ≡ Some s → GaveIn told told' r k into answer s s' → Gave told told' r k into answer old (Some s')
in_slots told told' r k into (given.Got answer) old s s' is goes = (s, s', is, refl, goes)
in_slots told told' r k into given.Held old s s' is goes = (s, s', is, refl, goes)
in_slots told told' r k into given.Stray old s s' is goes =
    (λ rising. subst (λ (o : Option Open). HasNone (open_slots o) k) (sym is) (goes.0 (subst (λ (o : Option Open). IsRising (open_slots o)) is rising)), ap (λ (o : Open). Some o) goes.1 ∙ sym is)

pub put_in_slots : (told told' : Meaning → Type 0) (r : Reading) (k : ℕ) (from : List ℕ) (answer : Written) (old : Option Open) (s s' : Open) → old ≡ Some s → WroteIn told told' r k from answer s s' → WroteOver told told' r k from answer old (Some s')
put_in_slots told told' r k from (written.Put answer) old s s' is goes = (s, s', is, refl, goes)
put_in_slots told told' r k from written.Stray old s s' is goes = ap (λ (o : Open). Some o) goes ∙ sym is

pub no_slots : (k : ℕ) (old : Option Open) → old ≡ None → HasNoSlot k old
no_slots k old none = subst (λ (o : Option Open). HasNoSlot k o) (sym none) (λ rising at slot h. absurd (omega (arith, get_within [] at slot h.is)))

-- Sessions in a list, of which one is changed.
use Rattle.std.proofs.Common.{◌≡◌, ◌≢◌, ℕ, zero, suc, ◌+◌, ◌<◌, ◌≤◌, List, [], ◌∷◌, length, Option, Some, true, true≢false, get_or, ◌++◌, arith, ap, sym, ◌∙◌, subst, refl}
use Rattle.std.specs.List.{slice_get}
use Rattle.std.proofs.Math.ListN.{set}
use Rattle.std.proofs.lemmas.Option.{slice_get_read}
use Rattle.gate_base.specs.Causes.{Rose}
use Rattle.gate_hub.specs.Meaning.{Told, HubCall, IsOpen}
use Rattle.gate_hub.specs.Hubs.{Leads, Later, Changes}
use Rattle.gate_memory.specs.Hub.{HubState, TellsHub, AreSessionBytes, hub_counts, session_at, is_open_at, told_of, told_or_unknown, mem_link_of, faults_or_none, waits_or_none, NoCountFell}
use Rattle.gate_hub.specs.declared.hub.Side.{Side}
use Rattle.gate_hub.specs.declared.hub.Side.TheVariants as side
use Rattle.gate_memory.specs.declared.hub.MemSession.{MemSession}
use Rattle.gate_memory.proofs.Bytes.{one_bytes}

pub get_set_same : {X : Type 0} → (xs : List X) (k : ℕ) (x : X) → k < length xs → slice_get (set xs k x) k ≡ Some x
get_set_same [] k x within = absurd (omega (arith, within))
get_set_same (y ∷ xs) zero x within = refl
get_set_same (y ∷ xs) (suc k) x within = get_set_same xs k x (omega (arith, within))

pub get_set_other : {X : Type 0} → (xs : List X) (k j : ℕ) (x : X) → j ≢ k → slice_get (set xs k x) j ≡ slice_get xs j
get_set_other [] k j x other = refl
get_set_other (y ∷ xs) zero zero x other = absurd (other refl)
get_set_other (y ∷ xs) zero (suc j) x other = refl
get_set_other (y ∷ xs) (suc k) zero x other = refl
get_set_other (y ∷ xs) (suc k) (suc j) x other = get_set_other xs k j x (λ e. other (ap suc e))

-- one session of the hub has changed
pub record OneChanged (k : ℕ) (s s' : MemSession) (a b : HubState) : Type 0 where
  pub was : slice_get a.sessions k ≡ Some s
  pub within : k < length a.sessions
  pub now : b.sessions ≡ set a.sessions k s'
  pub started : b.started ≡ a.started
  pub last_event : b.last_event ≡ a.last_event
  pub events : b.events ≡ a.events
  pub faults : a.faults ≤ b.faults
  pub strays : b.strays ≡ a.strays
  pub steps : b.steps ≡ a.steps

pub leads_one : (call : HubCall) (Step : Told → Told → Type 0) (k : ℕ) (s s' : MemSession) (a b : HubState) → OneChanged k s s' a b → (AreSessionBytes s → AreSessionBytes s') → Step (told_of s) (told_of s') → Leads (TellsHub a) (TellsHub b) (IsOpen k) (Changes k call Step)
leads_one call Step k s s' a b one keeps step = λ m tells _.
    let is : m.session k ≡ told_of s = tells.session k ∙ ap told_or_unknown one.was in
    let becomes : session_at b.sessions k ≡ told_of s' = ap (λ xs. session_at xs k) one.now ∙ ap told_or_unknown (get_set_same a.sessions k s' one.within) in (
      record { session = λ j. session_at b.sessions j; started = b.started; last_event = b.last_event; events = b.events; calls = m.calls ++ call ∷ [] },
      record { session = λ j. refl; started = refl; last_event = refl; events = refl; bytes = one_bytes k s s' a b one.was one.now one.steps keeps tells.bytes },
      record {
        session = subst (λ (t : Told). Step t (session_at b.sessions k)) (sym is) (subst (λ (t : Told). Step (told_of s) t) (sym becomes) step);
        others = λ j other. ap (λ xs. session_at xs j) one.now ∙ (ap told_or_unknown (get_set_other a.sessions k j s' other) ∙ sym (tells.session j));
        started = one.started ∙ sym tells.started;
        last_event = one.last_event ∙ sym tells.last_event;
        events = one.events ∙ sym tells.events;
        calls = refl;
      },
    )

pub faults_grow : (xs : List MemSession) (k j : ℕ) (side : Side) (s s' : MemSession) → slice_get xs k ≡ Some s → NoCountFell s s' → faults_or_none (slice_get xs j) side ≤ faults_or_none (slice_get (set xs k s') j) side
faults_grow [] k j side s s' was fell = omega arith
faults_grow (x ∷ xs) zero zero side s s' was fell = subst (λ (o : Option MemSession). faults_or_none o side ≤ (mem_link_of s' side).faults) (sym was) (fell.faults side)
faults_grow (x ∷ xs) zero (suc j) side s s' was fell = omega arith
faults_grow (x ∷ xs) (suc k) zero side s s' was fell = omega arith
faults_grow (x ∷ xs) (suc k) (suc j) side s s' was fell = faults_grow xs k j side s s' was fell

pub waits_grow : (xs : List MemSession) (k j : ℕ) (side : Side) (s s' : MemSession) → slice_get xs k ≡ Some s → NoCountFell s s' → waits_or_none (slice_get xs j) side ≤ waits_or_none (slice_get (set xs k s') j) side
waits_grow [] k j side s s' was fell = omega arith
waits_grow (x ∷ xs) zero zero side s s' was fell = subst (λ (o : Option MemSession). waits_or_none o side ≤ (mem_link_of s' side).waits) (sym was) (fell.waits side)
waits_grow (x ∷ xs) zero (suc j) side s s' was fell = omega arith
waits_grow (x ∷ xs) (suc k) zero side s s' was fell = omega arith
waits_grow (x ∷ xs) (suc k) (suc j) side s s' was fell = waits_grow xs k j side s s' was fell

pub later_one : (k : ℕ) (s s' : MemSession) (a b : HubState) → OneChanged k s s' a b → NoCountFell s s' → Later (hub_counts a) (hub_counts b)
later_one k s s' a b one fell = record {
  faults = one.faults;
  links = λ j side.
      subst (λ (xs : List MemSession). a.strays + faults_or_none (slice_get a.sessions j) side ≤ b.strays + faults_or_none (slice_get xs j) side) (sym one.now)
      (omega (arith, one.strays, faults_grow a.sessions k j side s s' one.was fell));
  waits = λ j side.
      subst (λ (xs : List MemSession). waits_or_none (slice_get a.sessions j) side ≤ waits_or_none (slice_get xs j) side) (sym one.now)
      (waits_grow a.sessions k j side s s' one.was fell);
}

-- a count that rose at the link has risen in the hub's counts
pub faults_rose : (k : ℕ) (side : Side) (s s' : MemSession) (a b : HubState) → OneChanged k s s' a b → Rose (mem_link_of s side).faults (mem_link_of s' side).faults → Rose ((hub_counts a).link_faults k side) ((hub_counts b).link_faults k side)
faults_rose k side s s' a b one rose =
    let was : faults_or_none (slice_get a.sessions k) side ≡ (mem_link_of s side).faults = ap (λ o. faults_or_none o side) one.was in
    let now : faults_or_none (slice_get b.sessions k) side ≡ (mem_link_of s' side).faults = ap (λ xs. faults_or_none (slice_get xs k) side) one.now ∙ ap (λ o. faults_or_none o side) (get_set_same a.sessions k s' one.within) in
    omega (arith, was, now, one.strays, rose)

pub waits_rose : (k : ℕ) (side : Side) (s s' : MemSession) (a b : HubState) → OneChanged k s s' a b → Rose (mem_link_of s side).waits (mem_link_of s' side).waits → Rose ((hub_counts a).waits k side) ((hub_counts b).waits k side)
waits_rose k side s s' a b one rose =
    let was : waits_or_none (slice_get a.sessions k) side ≡ (mem_link_of s side).waits = ap (λ o. waits_or_none o side) one.was in
    let now : waits_or_none (slice_get b.sessions k) side ≡ (mem_link_of s' side).waits = ap (λ xs. waits_or_none (slice_get xs k) side) one.now ∙ ap (λ o. waits_or_none o side) (get_set_same a.sessions k s' one.within) in
    omega (arith, was, now, rose)

pub open_within : (xs : List MemSession) (k : ℕ) → is_open_at xs k ≡ true → k < length xs
open_within [] k open_at = absurd (true≢false (sym open_at))
open_within (x ∷ xs) zero open_at = omega arith
open_within (x ∷ xs) (suc k) open_at = omega (arith, open_within xs k open_at)

-- the session at an index of the list was changed in place
pub one_changed : (inside a b : HubState) (k : ℕ) (s s' : MemSession) → inside ≡ a → is_open_at a.sessions k ≡ true → s ≡ get_or inside.sessions k s → b.sessions ≡ set inside.sessions k s' → b.started ≡ inside.started → b.last_event ≡ inside.last_event → b.events ≡ inside.events → b.faults ≡ inside.faults → b.strays ≡ inside.strays → b.steps ≡ inside.steps → OneChanged k s s' a b
one_changed inside a b k s s' view open_at is sessions started last_event events faults strays steps =
    let within : k < length inside.sessions = open_within inside.sessions k (ap (λ h. is_open_at h.sessions k) view ∙ open_at) in
    subst (λ (h : HubState). OneChanged k s s' h b) view
    (record {
      was = slice_get_read inside.sessions (length inside.sessions) k s refl within is;
      within = within;
      now = sessions;
      started = started;
      last_event = last_event;
      events = events;
      faults = omega (arith, faults);
      strays = strays;
      steps = steps;
    })

-- the hub with another session at an index
abbrev pub with_session : HubState → ℕ → MemSession → HubState
with_session hub k s = record hub { sessions = set hub.sessions k s }

pub closes_keeps : (s : MemSession) → NoCountFell s (record s { closed = true })
closes_keeps s = record { faults = elim [ side.Client ↦ omega arith | side.Upstream ↦ omega arith ]; waits = elim [ side.Client ↦ omega arith | side.Upstream ↦ omega arith ] }

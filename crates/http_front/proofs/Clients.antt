-- What a call of the hub below leads to at a client, and calls one after another.
use Rattle.std.proofs.Common.{◌≡◌, ℕ, Bool, true, false, refl, sym, ap, ◌∙◌, subst}
use Rattle.gate_hub.specs.Meaning.{Link, Told, HubCall, Meaning, IsOpen}
use Rattle.gate_hub.specs.Hubs.{Leads, Changes, AtSide}
use Rattle.gate_hub.specs.declared.hub.Side.TheVariants as side
use Rattle.http_front.specs.Moving.{ClientGoes, Goes}

pub not_both : (b : Bool) → b ≡ true → b ≡ false → ⊥
not_both true e f = absurd (cc)
not_both false e f = absurd (cc)

pub not_true : (b : Bool) → (b ≡ true → ⊥) → b ≡ false
not_true true h = absurd (h refl)
not_true false h = refl

pub at_client : (Step : Link → Link → Type 0) (s t : Told) → AtSide side.Client Step s t → Step s.client t.client
at_client Step s t h = subst (λ (l : Link). Step s.client l) (sym (ap (λ (t : Told). t.client) h.2)) h.1

at_weaker : (Step Step' : Link → Link → Type 0) (s t : Told) → ((l m : Link) → Step l m → Step' l m) → AtSide side.Client Step s t → AtSide side.Client Step' s t
at_weaker Step Step' s t by h = (h.0, by s.client h.0 h.1, h.2)

at_then : (One Two Both : Link → Link → Type 0) (s t u : Told) → ((l m n : Link) → One l m → Two m n → Both l n) → AtSide side.Client One s t → AtSide side.Client Two t u → AtSide side.Client Both s u
at_then One Two Both s t u by h k =
    let e : t.client ≡ h.0 = ap (λ (t : Told). t.client) h.2 in
    (k.0, by s.client h.0 k.0 h.1 (subst (λ (l : Link). Two l k.0) e k.1), k.2 ∙ ap (λ (t : Told). record t { client = k.0 }) h.2)

-- an open session stays open
pub stays_open : (k : ℕ) (Step : Link → Link → Type 0) (a b : Meaning) → ClientGoes k Step a b → IsOpen k a → IsOpen k b
stays_open k Step a b p is = (ap (λ (t : Told). t.announced) p.session.2 ∙ is.0, ap (λ (t : Told). t.closed) p.session.2 ∙ is.1)

pub goes_none : (told : Meaning → Type 0) (k : ℕ) (Step : Link → Link → Type 0) → ((l : Link) → Step l l) → Goes told told k Step
goes_none told k Step by = λ a tells is_open. (a, tells, record { session = ((a.session k).client, by (a.session k).client, refl); others = λ j other. refl; started = refl; last_event = refl; events = refl })

pub goes_weaker : (told told' : Meaning → Type 0) (k : ℕ) (Step Step' : Link → Link → Type 0) → ((l m : Link) → Step l m → Step' l m) → Goes told told' k Step → Goes told told' k Step'
goes_weaker told told' k Step Step' by g = λ a tells is_open.
    let p = g a tells is_open in
    (p.0, p.1, record { session = at_weaker Step Step' (a.session k) (p.0.session k) by p.2.session; others = p.2.others; started = p.2.started; last_event = p.2.last_event; events = p.2.events })

pub goes_then : (told mid told' : Meaning → Type 0) (k : ℕ) (One Two Both : Link → Link → Type 0) → ((l m n : Link) → One l m → Two m n → Both l n) → Goes told mid k One → Goes mid told' k Two → Goes told told' k Both
goes_then told mid told' k One Two Both by g h = λ a tells is_open.
    let p = g a tells is_open in
    let q = h p.0 p.1 (stays_open k One a p.0 p.2 is_open) in (
      q.0,
      q.1,
      record {
        session = at_then One Two Both (a.session k) (p.0.session k) (q.0.session k) by p.2.session q.2.session;
        others = λ j other. q.2.others j other ∙ p.2.others j other;
        started = q.2.started ∙ p.2.started;
        last_event = q.2.last_event ∙ p.2.last_event;
        events = q.2.events ∙ p.2.events;
      },
    )

pub goes_call : (told told' : Meaning → Type 0) (k : ℕ) (call : HubCall) (Step Step' : Link → Link → Type 0) → ((l m : Link) → Step l m → Step' l m) → Leads told told' (IsOpen k) (Changes k call (AtSide side.Client Step)) → Goes told told' k Step'
goes_call told told' k call Step Step' by leads = λ a tells is_open.
    let p = leads a tells is_open in
    (p.0, p.1, record { session = at_weaker Step Step' (a.session k) (p.0.session k) by p.2.session; others = p.2.others; started = p.2.started; last_event = p.2.last_event; events = p.2.events })

-- nothing has changed below
pub goes_same : (told told' : Meaning → Type 0) (k : ℕ) (Step : Link → Link → Type 0) → told' ≡ told → ((l : Link) → Step l l) → Goes told told' k Step
goes_same told told' k Step same by = subst (λ (t : Meaning → Type 0). Goes told t k Step) (sym same) (goes_none told k Step by)

-- A read in frames, which asks the hub below until a message is whole.
use Rattle.std.proofs.Common.{◌≡◌, ℕ, ◌+◌, ◌≤◌, true, false, List, ◌++◌, length, take, drop, sym, ap, ◌∙◌, subst, arith, append_assoc}
use Rattle.std.proofs.lemmas.List.{take-append-drop}
use Rattle.gate_base.specs.Causes.{Rose}
use Rattle.gate_hub.specs.Meaning.{Link, Meaning, link_of, IsOpen}
use Rattle.gate_hub.specs.Hubs.{Counts, Later, LinkReads}
use Rattle.gate_hub.specs.declared.hub.Side.{Side}
use Rattle.gate_hub.specs.declared.hub.LinkGot.{LinkGot}
use Rattle.gate_hub.specs.declared.hub.LinkGot.TheVariants as got
use Rattle.stream_messages.specs.declared.scan.Wire.{Wire}
use Rattle.stream_messages.specs.declared.framer.Behind.TheVariants as behind
use Rattle.stream_messages.specs.Framing.{FramerState, Stands, Gives, IsIdle}
use Rattle.stream_messages.specs.Filling.{ReadsInto, TakesIn}
use Rattle.stream_messages.specs.Lanes.{Reads, Underway, SideGoes, StaysSent, Ends, FramesReads}
use Rattle.stream_messages.proofs.Framing.{gives_due, ended_between}
use Rattle.stream_messages.proofs.Links.{sent_same, sent_on, goes_nowhere, goes_twice, stays_open, begun, came_below, gave, not_ready_below, failed_below, end_after_end, asked}

-- a read of a side that stood so is under way, and the framer stands so now
abbrev pub WayGoes : (Meaning → Type 0) → (Meaning → Type 0) → ℕ → Side → FramerState → FramerState → Type 0
WayGoes told told' k x s t =
    (wire : Wire) (limit : ℕ) (a : Meaning) (outer : Link) → told a → IsOpen k a → Reads wire limit s (link_of (a.session k) x) outer
    → (b : Meaning) × told' b × SideGoes k x StaysSent a b × Underway wire limit t (link_of (b.session k) x) outer

pub way_begins : (told : Meaning → Type 0) (k : ℕ) (x : Side) (s : FramerState) → s.behind ≡ behind.Messages → WayGoes told told k x s s
way_begins told k x s b wire limit a outer tells is_open reads = (a, tells, goes_nowhere k x StaysSent a sent_same, begun wire limit s (link_of (a.session k) x) outer b reads)

-- bytes came
more_came : (told told1 told2 : Meaning → Type 0) (k : ℕ) (x : Side) (s t t' : FramerState) (n : ℕ) → WayGoes told told1 k x s t → ReadsInto told1 told2 k x (got.Bytes n) (TakesIn t t' (got.Bytes n)) → t.behind ≡ behind.Messages
    → (wire : Wire) (limit : ℕ) (a : Meaning) (outer : Link) → told a → IsOpen k a → Reads wire limit s (link_of (a.session k) x) outer
    → (b : Meaning) × told2 b × SideGoes k x StaysSent a b × (Underway wire limit t' (link_of (b.session k) x) outer × (outer.ended ≡ false))
more_came told told1 told2 k x s t t' n way read m wire limit a outer tells is_open reads =
    let g = way wire limit a outer tells is_open reads in
    let r = asked told1 told2 k x (length read.0) read.0 (got.Bytes n) read.2 g.0 g.1 (stays_open k x StaysSent a g.0 g.2 is_open) in (
      r.0,
      r.1,
      goes_twice k x StaysSent a g.0 r.0 sent_on g.2 r.2,
      came_below wire limit t t' (link_of (g.0.session k) x) (link_of (r.0.session k) x) outer read.0 n m read.1.2 r.3 g.3,
    )

pub way_on : (told told1 told2 : Meaning → Type 0) (k : ℕ) (x : Side) (s t t' : FramerState) (n : ℕ) → WayGoes told told1 k x s t → ReadsInto told1 told2 k x (got.Bytes n) (TakesIn t t' (got.Bytes n)) → t.behind ≡ behind.Messages → WayGoes told told2 k x s t'
way_on told told1 told2 k x s t t' n way read m wire limit a outer tells is_open reads =
    let c = more_came told told1 told2 k x s t t' n way read m wire limit a outer tells is_open reads in (c.0, c.1, c.2, c.3.0)

pub way_gave : (told told1 told2 : Meaning → Type 0) (k : ℕ) (x : Side) (s t t' u : FramerState) (n count : ℕ) (into : List ℕ) → WayGoes told told1 k x s t → ReadsInto told1 told2 k x (got.Bytes n) (TakesIn t t' (got.Bytes n)) → t.behind ≡ behind.Messages
    → Gives t' u (take count into) → FramesReads told told2 s u k x into (got.Bytes count)
way_gave told told1 told2 k x s t t' u n count into way read m gives wire limit = λ a outer tells is_open reads.
    let c = more_came told told1 told2 k x s t t' n way read m wire limit a outer tells is_open reads in
    let inner = link_of (c.0.session k) x in (
      c.0,
      c.1,
      c.2,
      gave wire limit u inner outer count into (gives wire limit inner.received outer.received inner.ended c.3.0.stands) c.3.1,
    )

pub way_not_ready : (told told1 told2 : Meaning → Type 0) (k : ℕ) (x : Side) (s t t' : FramerState) (into : List ℕ) → WayGoes told told1 k x s t → ReadsInto told1 told2 k x got.NotReady (TakesIn t t' got.NotReady) → IsIdle t
    → FramesReads told told2 s t' k x into got.NotReady
way_not_ready told told1 told2 k x s t t' into way read idle wire limit = λ a outer tells is_open reads.
    let g = way wire limit a outer tells is_open reads in
    let r = asked told1 told2 k x (length read.0) read.0 got.NotReady read.2 g.0 g.1 (stays_open k x StaysSent a g.0 g.2 is_open) in (
      r.0,
      r.1,
      goes_twice k x StaysSent a g.0 r.0 sent_on g.2 r.2,
      not_ready_below wire limit t t' (link_of (g.0.session k) x) (link_of (r.0.session k) x) outer read.0 into idle read.1 r.3 g.3,
    )

pub way_failed : (told told1 told2 : Meaning → Type 0) (k : ℕ) (x : Side) (s t t' : FramerState) (into : List ℕ) → WayGoes told told1 k x s t → ReadsInto told1 told2 k x got.Failed (TakesIn t t' got.Failed)
    → FramesReads told told2 s t' k x into got.Failed
way_failed told told1 told2 k x s t t' into way read wire limit = λ a outer tells is_open reads.
    let g = way wire limit a outer tells is_open reads in
    let r = asked told1 told2 k x (length read.0) read.0 got.Failed read.2 g.0 g.1 (stays_open k x StaysSent a g.0 g.2 is_open) in (
      r.0,
      r.1,
      goes_twice k x StaysSent a g.0 r.0 sent_on g.2 r.2,
      failed_below wire limit t t' (link_of (g.0.session k) x) (link_of (r.0.session k) x) outer read.0 into read.1 r.3 g.3,
    )

pub way_ends : (told told1 told2 : Meaning → Type 0) (k : ℕ) (x : Side) (s t t' u : FramerState) (into : List ℕ) (answer : LinkGot) → WayGoes told told1 k x s t → ReadsInto told1 told2 k x got.End (TakesIn t t' got.End) → t.behind ≡ behind.Messages
    → Ends t' u into answer → FramesReads told told2 s u k x into answer
way_ends told told1 told2 k x s t t' u into answer way read m ends wire limit = λ a outer tells is_open reads.
    let g = way wire limit a outer tells is_open reads in
    let r = asked told1 told2 k x (length read.0) read.0 got.End read.2 g.0 g.1 (stays_open k x StaysSent a g.0 g.2 is_open) in
    let inner = link_of (g.0.session k) x in
    let inner' = link_of (r.0.session k) x in
    let ended : inner'.ended ≡ true = ap (λ (l : Link). l.ended) r.3 in
    let same : inner'.received ≡ inner.received = ap (λ (l : Link). l.received) r.3 in
    let stands : Stands wire limit t inner'.received inner'.ended outer.received =
    subst (λ b. Stands wire limit t b inner'.ended outer.received) (sym same)
    (subst (λ e. Stands wire limit t inner.received e outer.received) (sym ended) (ended_between wire limit t inner.received outer.received inner.ended m g.3.stands)) in
    let way' : Underway wire limit t' inner' outer =
    subst (λ (t : FramerState). Underway wire limit t inner' outer) (sym read.1) (record { stands = stands; ended = λ e. ((g.3.ended e).0, ended) }) in (
      r.0,
      r.1,
      goes_twice k x StaysSent a g.0 r.0 sent_on g.2 r.2,
      ends wire limit inner' outer way' ended,
    )

-- what was handed out of a framer before a read stands for the read
pub behind_nothing : (told told' : Meaning → Type 0) (k : ℕ) (x : Side) (s t u : FramerState) (into : List ℕ) (answer : LinkGot) → t ≡ s → FramesReads told told' t u k x into answer → FramesReads told told' s u k x into answer
behind_nothing told told' k x s t u into answer same goes = subst (λ (t : FramerState). FramesReads told told' t u k x into answer) same goes

-- behind an early end
pub way_over : (told told' : Meaning → Type 0) (k : ℕ) (x : Side) (s : FramerState) (size : ℕ) (into : List ℕ) (answer : LinkGot) → IsIdle s → s.behind ≡ behind.End
    → ((a : Meaning) → told a → IsOpen k a → (b : Meaning) × told' b × SideGoes k x StaysSent a b × LinkReads into answer (link_of (a.session k) x) (link_of (b.session k) x)) → FramesReads told told' s s k x into answer
way_over told told' k x s size into answer idle b ask wire limit = λ a outer tells is_open reads.
    let r = ask a tells is_open in
    (r.0, r.1, r.2, end_after_end wire limit s (link_of (a.session k) x) (link_of (r.0.session k) x) outer into answer idle b reads.stands r.3)

-- ---- the counts

pub later_on : (a b c : Counts) → Later a b → Later b c → Later a c
later_on a b c p q = record {
  faults = omega (arith, p.faults, q.faults);
  links = λ k s. omega (arith, p.links k s, q.links k s);
  waits = λ k s. omega (arith, p.waits k s, q.waits k s);
}

pub later_not : (a : Counts) → Later a a
later_not a = record { faults = omega arith; links = λ k s. omega arith; waits = λ k s. omega arith }

pub rose_on : (a b c : ℕ) → a ≤ b → Rose b c → Rose a c
rose_on a b c less rose = omega (arith, less, rose)

-- ---- handing out

-- a piece was handed out
pub handed : (s mid t : FramerState) (count n : ℕ) (into into' piece : List ℕ) → Gives s mid (take count into) → t ≡ record mid { due = drop n mid.due } → take n piece ≡ take n mid.due → take (count + n) into' ≡ take count into ++ take n piece
    → Gives s t (take (count + n) into')
handed s mid t count n into into' piece gives left bytes whole = λ wire limit received given ended stands.
    let m = gives wire limit received given ended stands in
    let parts : mid.due ≡ take n mid.due ++ t.due = sym (take-append-drop n mid.due) ∙ ap (λ (l : List ℕ). take n mid.due ++ l) (sym (ap (λ (f : FramerState). f.due) left)) in
    subst (λ l. Stands wire limit t received ended (given ++ l)) (sym (whole ∙ ap (λ l. take count into ++ l) bytes))
    (subst (λ l. Stands wire limit t received ended l) (append_assoc given (take count into) (take n mid.due))
    (gives_due mid.behind wire limit mid t received (given ++ take count into) (take n mid.due) ended (ap (λ (f : FramerState). f.wire) left) (ap (λ (f : FramerState). f.limit) left) (ap (λ (f : FramerState). f.fresh) left)
    (ap (λ (f : FramerState). f.behind) left) parts m))

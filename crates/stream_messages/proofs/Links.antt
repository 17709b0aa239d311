-- A side that is wrapped, read by read.
use Rattle.std.proofs.Common.{◌≡◌, ℕ, ◌<◌, Bool, true, false, List, [], ◌∷◌, ◌++◌, length, take, Some, refl, sym, ap, ◌∙◌, subst, arith, append-nil}
use Rattle.gate_hub.specs.Meaning.{Link, Told, HubCall, Read, Meaning, link_of, IsOpen}
use Rattle.gate_hub.specs.Hubs.{Leads, Changes, AtSide, LinkReads, LinkWrites, ReadLeads}
use Rattle.gate_hub.specs.declared.hub.Side.{Side}
use Rattle.gate_hub.specs.declared.hub.Side.TheVariants as side
use Rattle.gate_hub.specs.declared.hub.LinkGot.{LinkGot}
use Rattle.gate_hub.specs.declared.hub.LinkGot.TheVariants as got
use Rattle.gate_hub.specs.declared.hub.LinkPut.{LinkPut}
use Rattle.gate_hub.specs.declared.hub.LinkPut.TheVariants as put
use Rattle.stream_messages.specs.declared.scan.Wire.{Wire}
use Rattle.stream_messages.specs.declared.framer.Behind.TheVariants as behind
use Rattle.stream_messages.specs.Messages.{rest, framed_tail, Framed}
use Rattle.stream_messages.specs.Framing.{FramerState, Stands, Gives, IsIdle, HasNoMore, IsOut, GivesAll}
use Rattle.stream_messages.specs.Lanes.{MayEnd, Reads, Underway, SideGoes, StaysSent, StaysReceived, LinkGoes}
use Rattle.stream_messages.proofs.Framing.{nothing_left, came}

pub not_true : (b : Bool) → (b ≡ true → ⊥) → b ≡ false
not_true true h = absurd (h refl)
not_true false h = refl

pub not_both : (b : Bool) → b ≡ true → b ≡ false → ⊥
not_both true e f = absurd (cc)
not_both false e f = absurd (cc)

-- ---- a side of a session

pub at_link : (x : Side) (Step : Link → Link → Type 0) (s t : Told) → AtSide x Step s t → Step (link_of s x) (link_of t x)
at_link side.Client Step s t h = subst (λ (l : Link). Step s.client l) (sym (ap (λ (t : Told). t.client) h.2)) h.1
at_link side.Upstream Step s t h = subst (λ (l : Link). Step s.upstream l) (sym (ap (λ (t : Told). t.upstream) h.2)) h.1

pub at_weaker : (x : Side) (Step Step' : Link → Link → Type 0) (s t : Told) → ((a b : Link) → Step a b → Step' a b) → AtSide x Step s t → AtSide x Step' s t
at_weaker side.Client Step Step' s t by h = (h.0, by s.client h.0 h.1, h.2)
at_weaker side.Upstream Step Step' s t by h = (h.0, by s.upstream h.0 h.1, h.2)

pub at_same : (x : Side) (Step : Link → Link → Type 0) (s : Told) → ((a : Link) → Step a a) → AtSide x Step s s
at_same side.Client Step s by = (s.client, by s.client, refl)
at_same side.Upstream Step s by = (s.upstream, by s.upstream, refl)

pub at_twice : (x : Side) (Step : Link → Link → Type 0) (s t u : Told) → ((a b c : Link) → Step a b → Step b c → Step a c) → AtSide x Step s t → AtSide x Step t u → AtSide x Step s u
at_twice side.Client Step s t u by h k =
    let e : t.client ≡ h.0 = ap (λ (t : Told). t.client) h.2 in
    (k.0, by s.client h.0 k.0 h.1 (subst (λ (l : Link). Step l k.0) e k.1), k.2 ∙ ap (λ (t : Told). record t { client = k.0 }) h.2)
at_twice side.Upstream Step s t u by h k =
    let e : t.upstream ≡ h.0 = ap (λ (t : Told). t.upstream) h.2 in
    (k.0, by s.upstream h.0 k.0 h.1 (subst (λ (l : Link). Step l k.0) e k.1), k.2 ∙ ap (λ (t : Told). record t { upstream = k.0 }) h.2)

pub goes_nowhere : (k : ℕ) (x : Side) (Step : Link → Link → Type 0) (a : Meaning) → ((l : Link) → Step l l) → SideGoes k x Step a a
goes_nowhere k x Step a by = record { session = at_same x Step (a.session k) by; others = λ j other. refl; started = refl; last_event = refl; events = refl }

pub goes_twice : (k : ℕ) (x : Side) (Step : Link → Link → Type 0) (a b c : Meaning) → ((l m n : Link) → Step l m → Step m n → Step l n) → SideGoes k x Step a b → SideGoes k x Step b c → SideGoes k x Step a c
goes_twice k x Step a b c by p q = record {
  session = at_twice x Step (a.session k) (b.session k) (c.session k) by p.session q.session;
  others = λ j other. q.others j other ∙ p.others j other;
  started = q.started ∙ p.started;
  last_event = q.last_event ∙ p.last_event;
  events = q.events ∙ p.events;
}

pub goes_weaker : (k : ℕ) (x : Side) (Step Step' : Link → Link → Type 0) (a b : Meaning) → ((l m : Link) → Step l m → Step' l m) → SideGoes k x Step a b → SideGoes k x Step' a b
goes_weaker k x Step Step' a b by p = record { session = at_weaker x Step Step' (a.session k) (b.session k) by p.session; others = p.others; started = p.started; last_event = p.last_event; events = p.events }

pub goes_by_call : (k : ℕ) (x : Side) (call : HubCall) (Step Step' : Link → Link → Type 0) (a b : Meaning) → ((l m : Link) → Step l m → Step' l m) → Changes k call (AtSide x Step) a b → SideGoes k x Step' a b
goes_by_call k x call Step Step' a b by p = record { session = at_weaker x Step Step' (a.session k) (b.session k) by p.session; others = p.others; started = p.started; last_event = p.last_event; events = p.events }

-- an open session stays open
pub stays_open : (k : ℕ) (x : Side) (Step : Link → Link → Type 0) (a b : Meaning) → SideGoes k x Step a b → IsOpen k a → IsOpen k b
stays_open k x Step a b p is = (announced x p.session ∙ is.0, closed x p.session ∙ is.1)
  where
    announced : (x : Side) → AtSide x Step (a.session k) (b.session k) → (b.session k).announced ≡ (a.session k).announced
    announced side.Client h = ap (λ (t : Told). t.announced) h.2
    announced side.Upstream h = ap (λ (t : Told). t.announced) h.2

    closed : (x : Side) → AtSide x Step (a.session k) (b.session k) → (b.session k).closed ≡ (a.session k).closed
    closed side.Client h = ap (λ (t : Told). t.closed) h.2
    closed side.Upstream h = ap (λ (t : Told). t.closed) h.2

pub sent_same : (l : Link) → StaysSent l l
sent_same l = (refl, refl)

pub sent_on : (l m n : Link) → StaysSent l m → StaysSent m n → StaysSent l n
sent_on l m n p q = (q.0 ∙ p.0, q.1 ∙ p.1)

pub received_same : (l : Link) → StaysReceived l l
received_same l = (refl, refl, refl)

pub reads_send_nothing : (into : List ℕ) (answer : LinkGot) (l m : Link) → LinkReads into answer l m → StaysSent l m
reads_send_nothing into (got.Bytes n) l m h = (ap (λ (l : Link). l.sent) h.1, ap (λ (l : Link). l.last_write) h.1)
reads_send_nothing into got.NotReady l m h = (ap (λ (l : Link). l.sent) h.1, ap (λ (l : Link). l.last_write) h.1)
reads_send_nothing into got.End l m h = (ap (λ (l : Link). l.sent) h, ap (λ (l : Link). l.last_write) h)
reads_send_nothing into got.Failed l m h = (ap (λ (l : Link). l.sent) h.1, ap (λ (l : Link). l.last_write) h.1)

pub writes_receive_nothing : (from : List ℕ) (answer : LinkPut) (l m : Link) → LinkWrites from answer l m → StaysReceived l m
writes_receive_nothing from (put.Took n) l m h = (ap (λ (l : Link). l.received) h, ap (λ (l : Link). l.ended) h, ap (λ (l : Link). l.last_read) h)
writes_receive_nothing from put.NotReady l m h = (ap (λ (l : Link). l.received) h, ap (λ (l : Link). l.ended) h, ap (λ (l : Link). l.last_read) h)
writes_receive_nothing from put.Failed l m h = (ap (λ (l : Link). l.received) h, ap (λ (l : Link). l.ended) h, ap (λ (l : Link). l.last_read) h)

-- ---- reads

-- bytes were handed out
pub gave : (wire : Wire) (limit : ℕ) (s' : FramerState) (inner outer : Link) (n : ℕ) (into : List ℕ) → Stands wire limit s' inner.received inner.ended (outer.received ++ take n into) → outer.ended ≡ false
    → (outer' : Link) × LinkReads into (got.Bytes n) outer outer' × Reads wire limit s' inner outer'
gave wire limit s' inner outer n into stands going = (
  record outer { received = outer.received ++ take n into; last_read = Some (got.Bytes n) },
  (going, refl),
  record {
    stands = stands;
    not_ready = λ e. absurd (cc);
    ended = λ e. absurd (not_both outer.ended e going);
    all = λ e. absurd (not_both outer.ended e going);
    end_told = λ e. absurd (cc);
  },
)

-- the side has ended, and all was handed out
pub gave_end : (wire : Wire) (limit : ℕ) (s : FramerState) (inner outer : Link) (into : List ℕ) → Stands wire limit s inner.received inner.ended outer.received → IsOut s → MayEnd s.behind inner.ended → Framed wire limit inner.received inner.ended outer.received
    → (outer' : Link) × LinkReads into got.End outer outer' × Reads wire limit s inner outer'
gave_end wire limit s inner outer into stands out may all = (
  record outer { ended = true; last_read = Some got.End },
  refl,
  record { stands = stands; not_ready = λ e. absurd (cc); ended = λ e. (out, may); all = λ e. all; end_told = λ e. refl },
)

-- an idle framer behind which the mark was the last
pub mark_was_last : (wire : Wire) (limit : ℕ) (s : FramerState) (inner outer : Link) (into : List ℕ) → IsIdle s → s.behind ≡ behind.Nothing → Stands wire limit s inner.received inner.ended outer.received
    → (outer' : Link) × LinkReads into got.End outer outer' × Reads wire limit s inner outer'
mark_was_last wire limit s inner outer into idle b stands =
    gave_end wire limit s inner outer into stands
    (record { due = idle.due; no_more = subst (λ b. HasNoMore s b) (sym b) tt })
    (subst (λ b. MayEnd b inner.ended) (sym b) tt)
    (nothing_left wire limit s inner.received outer.received inner.ended idle (λ e. absurd (cc)) stands)

-- nothing was handed out
pub gave_nothing : (wire : Wire) (limit : ℕ) (s : FramerState) (received given : List ℕ) (ended : Bool) (n : ℕ) (into : List ℕ) → n ≡ 0 → Stands wire limit s received ended (given ++ take n into) → Stands wire limit s received ended given
gave_nothing wire limit s received given ended n into none stands =
    subst (λ l. Stands wire limit s received ended l) (append-nil given) (subst (λ k. Stands wire limit s received ended (given ++ take k into)) none stands)

-- a side below that has ended answers so
pub answers_end : (into : List ℕ) (answer : LinkGot) (l m : Link) → l.ended ≡ true → LinkReads into answer l m → (answer ≡ got.End) × (m ≡ record l { ended = true; last_read = Some got.End })
answers_end into (got.Bytes n) l m e h = absurd (not_both l.ended e h.0)
answers_end into got.NotReady l m e h = absurd (not_both l.ended e h.0)
answers_end into got.End l m e h = (refl, h)
answers_end into got.Failed l m e h = absurd (not_both l.ended e h.0)

-- behind the byte that tells of an early end
pub end_after_end : (wire : Wire) (limit : ℕ) (s : FramerState) (inner inner' outer : Link) (into : List ℕ) (answer : LinkGot) → IsIdle s → s.behind ≡ behind.End → Stands wire limit s inner.received inner.ended outer.received → LinkReads into answer inner inner'
    → (outer' : Link) × LinkReads into answer outer outer' × Reads wire limit s inner' outer'
end_after_end wire limit s inner inner' outer into answer idle b stands reads =
    let out : GivesAll wire limit behind.End s.fresh stands.left inner.ended stands.messages (outer.received ++ s.due) = subst (λ b. GivesAll wire limit b s.fresh stands.left inner.ended stands.messages (outer.received ++ s.due)) b stands.out in
    let a = answers_end into answer inner inner' out.0 reads in
    let ended : inner'.ended ≡ true = ap (λ (l : Link). l.ended) a.1 in
    let stands' : Stands wire limit s inner'.received inner'.ended outer.received =
    subst (λ r. Stands wire limit s r inner'.ended outer.received) (sym (ap (λ (l : Link). l.received) a.1)) (subst (λ e. Stands wire limit s inner.received e outer.received) (out.0 ∙ sym ended) stands) in
    subst (λ x. (outer' : Link) × LinkReads into x outer outer' × Reads wire limit s inner' outer') (sym a.0)
    (gave_end wire limit s inner' outer into stands'
    (record { due = idle.due; no_more = subst (λ b. HasNoMore s b) (sym b) tt })
    (subst (λ b. MayEnd b inner'.ended) (sym b) ended)
    (nothing_left wire limit s inner'.received outer.received inner'.ended idle (λ e. absurd (cc)) stands'))

-- a read begins
pub begun : (wire : Wire) (limit : ℕ) (s : FramerState) (inner outer : Link) → s.behind ≡ behind.Messages → Reads wire limit s inner outer → Underway wire limit s inner outer
begun wire limit s inner outer b reads = record {
  stands = reads.stands;
  ended = λ e. (subst (λ b. HasNoMore s b) b (reads.ended e).0.no_more, subst (λ b. MayEnd b inner.ended) b (reads.ended e).1);
}

-- bytes came below
pub came_below : (wire : Wire) (limit : ℕ) (s t : FramerState) (inner inner' outer : Link) (into : List ℕ) (n : ℕ) → s.behind ≡ behind.Messages → t ≡ record s { fresh = s.fresh ++ take n into } → LinkReads into (got.Bytes n) inner inner' → Underway wire limit s inner outer
    → Underway wire limit t inner' outer × (outer.ended ≡ false)
came_below wire limit s t inner inner' outer into n b is reads way =
    let going : outer.ended ≡ false = not_true outer.ended (λ e. not_both inner.ended (way.ended e).1 reads.0) in (
      record {
        stands = subst (λ (l : Link). Stands wire limit t l.received l.ended outer.received) (sym reads.1) (came wire limit s t inner.received outer.received (take n into) inner.ended b is way.stands);
        ended = λ e. absurd (not_both outer.ended e going);
      },
      going,
    )

no_rest : (l : List ℕ) → framed_tail (rest l) false ≡ []
no_rest [] = refl
no_rest (x ∷ l) = refl

-- it isn't ready below
pub not_ready_below : (wire : Wire) (limit : ℕ) (s t : FramerState) (inner inner' outer : Link) (from into : List ℕ) → IsIdle s → t ≡ s → LinkReads from got.NotReady inner inner' → Underway wire limit s inner outer
    → (outer' : Link) × LinkReads into got.NotReady outer outer' × Reads wire limit t inner' outer'
not_ready_below wire limit s t inner inner' outer from into idle is reads way =
    let going : outer.ended ≡ false = not_true outer.ended (λ e. not_both inner.ended (way.ended e).1 reads.0) in
    let all : Framed wire limit inner.received inner.ended outer.received =
    nothing_left wire limit s inner.received outer.received inner.ended idle (λ e. ap (λ b. framed_tail (rest s.fresh) b) reads.0 ∙ no_rest s.fresh) way.stands in (
      record outer { last_read = Some got.NotReady },
      (going, refl),
      subst (λ (t : FramerState). Reads wire limit t inner' (record outer { last_read = Some got.NotReady })) (sym is)
          (subst (λ (l : Link). Reads wire limit s l (record outer { last_read = Some got.NotReady })) (sym reads.1)
          (record {
            stands = way.stands;
            not_ready = λ e. all;
            ended = λ e. absurd (not_both outer.ended e going);
            all = λ e. absurd (not_both outer.ended e going);
            end_told = λ e. absurd (cc);
          })),
    )

-- it failed below
pub failed_below : (wire : Wire) (limit : ℕ) (s t : FramerState) (inner inner' outer : Link) (from into : List ℕ) → t ≡ s → LinkReads from got.Failed inner inner' → Underway wire limit s inner outer
    → (outer' : Link) × LinkReads into got.Failed outer outer' × Reads wire limit t inner' outer'
failed_below wire limit s t inner inner' outer from into is reads way =
    let going : outer.ended ≡ false = not_true outer.ended (λ e. not_both inner.ended (way.ended e).1 reads.0) in (
      record outer { last_read = Some got.Failed },
      (going, refl),
      subst (λ (t : FramerState). Reads wire limit t inner' (record outer { last_read = Some got.Failed })) (sym is)
          (subst (λ (l : Link). Reads wire limit s l (record outer { last_read = Some got.Failed })) (sym reads.1)
          (record {
            stands = way.stands;
            not_ready = λ e. absurd (cc);
            ended = λ e. absurd (not_both outer.ended e going);
            all = λ e. absurd (not_both outer.ended e going);
            end_told = λ e. absurd (cc);
          })),
    )

-- ---- the reads of a side in frames

-- the hub below isn't asked
pub unasked_below : (told : Meaning → Type 0) (k : ℕ) (x : Side) (Over Over' Step : Link → Link → Type 0) → ((inner outer : Link) → Over inner outer → (outer' : Link) × Step outer outer' × Over' inner outer')
    → LinkGoes told told k x Over StaysSent Step Over'
unasked_below told k x Over Over' Step by = λ a outer tells is_open over. (a, tells, goes_nowhere k x StaysSent a sent_same, by (link_of (a.session k) x) outer over)

-- what was due was handed out
pub gives_frames : (wire : Wire) (limit : ℕ) (s t : FramerState) (n : ℕ) (into : List ℕ) → Gives s t (take n into) → (IsOut s → n ≡ 0) → 0 < n → (inner outer : Link) → Reads wire limit s inner outer
    → (outer' : Link) × LinkReads into (got.Bytes n) outer outer' × Reads wire limit t inner outer'
gives_frames wire limit s t n into gives out some inner outer reads =
    gave wire limit t inner outer n into (gives wire limit inner.received outer.received inner.ended reads.stands)
    (not_true outer.ended (λ e. absurd (omega (arith, some, out (reads.ended e).0))))

-- the mark was the last
pub gives_end : (wire : Wire) (limit : ℕ) (s t : FramerState) (into : List ℕ) → t ≡ s → IsIdle t → t.behind ≡ behind.Nothing → (inner outer : Link) → Reads wire limit s inner outer
    → (outer' : Link) × LinkReads into got.End outer outer' × Reads wire limit t inner outer'
gives_end wire limit s t into same idle b inner outer reads =
    mark_was_last wire limit t inner outer into idle b (subst (λ (s : FramerState). Stands wire limit s inner.received inner.ended outer.received) (sym same) reads.stands)

-- a side that ended inside a message tells so
pub end_inside : (wire : Wire) (limit : ℕ) (s t : FramerState) (n : ℕ) (into : List ℕ) (inner outer : Link) → Underway wire limit s inner outer → inner.ended ≡ true → 0 < length s.fresh
    → ((wire : Wire) (limit : ℕ) (received given : List ℕ) (ended : Bool) → Stands wire limit s received ended given → Stands wire limit t received true (given ++ take n into))
    → (outer' : Link) × LinkReads into (got.Bytes n) outer outer' × Reads wire limit t inner outer'
end_inside wire limit s t n into inner outer way ended some by =
    gave wire limit t inner outer n into (subst (λ e. Stands wire limit t inner.received e (outer.received ++ take n into)) (sym ended) (by wire limit inner.received outer.received inner.ended way.stands))
    (not_true outer.ended (λ e. absurd (omega (arith, some, ap (λ (l : List ℕ). length l) (way.ended e).0))))

-- a side that ended behind whole messages
pub end_between : (wire : Wire) (limit : ℕ) (s : FramerState) (into : List ℕ) (inner outer : Link) → Underway wire limit s inner outer → inner.ended ≡ true → IsIdle s → s.behind ≡ behind.Messages → s.fresh ≡ []
    → (outer' : Link) × LinkReads into got.End outer outer' × Reads wire limit s inner outer'
end_between wire limit s into inner outer way ended idle b none =
    gave_end wire limit s inner outer into way.stands
    (record { due = idle.due; no_more = subst (λ b. HasNoMore s b) (sym b) none })
    (subst (λ b. MayEnd b inner.ended) (sym b) ended)
    (nothing_left wire limit s inner.received outer.received inner.ended idle (λ e. ap (λ l. framed_tail (rest l) inner.ended) none) way.stands)

-- the read of the hub below, as it changes the side
pub asked : (told told' : Meaning → Type 0) (k : ℕ) (x : Side) (size : ℕ) (from : List ℕ) (answer : LinkGot) → Leads told told' (IsOpen k) (ReadLeads k x size from answer) → (a : Meaning) → told a → IsOpen k a
    → (b : Meaning) × told' b × SideGoes k x StaysSent a b × LinkReads from answer (link_of (a.session k) x) (link_of (b.session k) x)
asked told told' k x size from answer leads a tells is_open =
    let led = leads a tells is_open in (
      led.0,
      led.1,
      goes_by_call k x (Read k x size answer) (LinkReads from answer) StaysSent a led.0 (reads_send_nothing from answer) led.2,
      at_link x (LinkReads from answer) (a.session k) (led.0.session k) led.2.session,
    )

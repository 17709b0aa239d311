-- The calls on a side of a session, wrapped or passed through.
use Rattle.std.proofs.Common.{◌≡◌, ℕ, true, List, ◌++◌, length, take, Option, None, Some, refl, sym, ap, ◌∙◌, subst}
use Rattle.gate_hub.specs.Meaning.{Link, Told, Read, Wrote, Meaning, link_of, IsOpen}
use Rattle.gate_hub.specs.Hubs.{Leads, LinkReads, LinkWrites, ReadLeads, WriteLeads}
use Rattle.gate_hub.specs.declared.hub.Side.{Side}
use Rattle.gate_hub.specs.declared.hub.Side.TheVariants as side
use Rattle.gate_hub.specs.declared.hub.LinkGot.{LinkGot}
use Rattle.gate_hub.specs.declared.hub.LinkGot.TheVariants as got
use Rattle.gate_hub.specs.declared.hub.LinkPut.{LinkPut}
use Rattle.gate_hub.specs.declared.hub.LinkPut.TheVariants as put
use Rattle.stream_messages.specs.declared.scan.Wire.{Wire}
use Rattle.stream_messages.specs.declared.lane.Lane.{Lane}
use Rattle.stream_messages.specs.declared.lanes.Lanes.{Lanes}
use Rattle.stream_messages.specs.Messages.{Framed}
use Rattle.stream_messages.specs.Framing.{FramerState, Stands}
use Rattle.stream_messages.specs.Stripping.{StripperState, StripsTo}
use Rattle.stream_messages.specs.Lanes.{MayEnd, Reads, PassesOn, WrapsSide, StaysSent, StaysReceived, Anything, FramesReads, StripsWrites, LaneGoes, OneSideGoes}
use Rattle.stream_messages.specs.Sessions.{LanesGo}
use Rattle.stream_messages.proofs.Links.{at_link, goes_weaker, goes_by_call, reads_send_nothing}

-- ---- a wrapped side

pub lane_reads : (told told' : Meaning → Type 0) (k : ℕ) (x : Side) (lane lane' : Lane) (into : List ℕ) (answer : LinkGot) → lane'.stripper ≡ lane.stripper → FramesReads told told' lane.framer lane'.framer k x into answer → LaneGoes told told' lane lane' k x (LinkReads into answer)
lane_reads told told' k x lane lane' into answer same goes wire limit = λ a outer tells is_open wraps.
    let g = goes wire limit a outer tells is_open wraps.reads in
    let b = g.0 in
    let outer' = g.3.0 in
    let below : (link_of (b.session k) x).sent ≡ (link_of (a.session k) x).sent = (at_link x StaysSent (a.session k) (b.session k) g.2.session).0 in
    let above : outer'.sent ≡ outer.sent = (reads_send_nothing into answer outer outer' g.3.1).0 in (
      b,
      g.1,
      goes_weaker k x StaysSent Anything a b (λ l m h. tt) g.2,
      (
        outer',
        g.3.1,
        record {
          reads = g.3.2;
          writes = subst (λ (s : StripperState). StripsTo s outer'.sent (link_of (b.session k) x).sent) (sym same)
              (subst (λ (o : List ℕ). StripsTo lane.stripper o (link_of (b.session k) x).sent) (sym above)
              (subst (λ (i : List ℕ). StripsTo lane.stripper outer.sent i) (sym below) wraps.writes));
        },
      ),
    )

-- nothing was received below
below_stays : (wire : Wire) (limit : ℕ) (lane : Lane) (i i' o : Link) → StaysReceived i i' → Reads wire limit lane.framer i o → Reads wire limit lane.framer i' o
below_stays wire limit lane i i' o p h =
    record {
      stands = subst (λ r. Stands wire limit lane.framer r i'.ended o.received) (sym p.0) (subst (λ e. Stands wire limit lane.framer i.received e o.received) (sym p.1) h.stands);
      not_ready = λ n. all (h.not_ready n);
      ended = λ e. ((h.ended e).0, subst (λ b. MayEnd lane.framer.behind b) (sym p.1) (h.ended e).1);
      all = λ e. all (h.all e);
      end_told = h.end_told;
    }
  where
    all : Framed wire limit i.received i.ended o.received → Framed wire limit i'.received i'.ended o.received
    all f = subst (λ r. Framed wire limit r i'.ended o.received) (sym p.0) (subst (λ e. Framed wire limit i.received e o.received) (sym p.1) f)

-- nor above
above_stays : (wire : Wire) (limit : ℕ) (lane : Lane) (i o o' : Link) (from : List ℕ) (answer : LinkPut) → LinkWrites from answer o o' → Reads wire limit lane.framer i o → Reads wire limit lane.framer i o'
above_stays wire limit lane i o o' from (put.Took n) w h = subst (λ (o' : Link). Reads wire limit lane.framer i o') (sym w) (record { stands = h.stands; not_ready = h.not_ready; ended = h.ended; all = h.all; end_told = h.end_told })
above_stays wire limit lane i o o' from put.NotReady w h = subst (λ (o' : Link). Reads wire limit lane.framer i o') (sym w) (record { stands = h.stands; not_ready = h.not_ready; ended = h.ended; all = h.all; end_told = h.end_told })
above_stays wire limit lane i o o' from put.Failed w h = subst (λ (o' : Link). Reads wire limit lane.framer i o') (sym w) (record { stands = h.stands; not_ready = h.not_ready; ended = h.ended; all = h.all; end_told = h.end_told })

pub lane_writes : (told told' : Meaning → Type 0) (k : ℕ) (x : Side) (lane lane' : Lane) (from : List ℕ) (answer : LinkPut) → lane'.framer ≡ lane.framer → StripsWrites told told' lane.stripper lane'.stripper k x from answer → LaneGoes told told' lane lane' k x (LinkWrites from answer)
lane_writes told told' k x lane lane' from answer same goes wire limit = λ a outer tells is_open wraps.
    let g = goes a outer tells is_open wraps.writes in
    let b = g.0 in
    let outer' = g.3.0 in
    let kept = at_link x StaysReceived (a.session k) (b.session k) g.2.session in (
      b,
      g.1,
      goes_weaker k x StaysReceived Anything a b (λ l m h. tt) g.2,
      (
        outer',
        g.3.1,
        record {
          reads = subst (λ (f : FramerState). Reads wire limit f (link_of (b.session k) x) outer') (sym same)
              (above_stays wire limit lane (link_of (b.session k) x) outer outer' from answer g.3.1 (below_stays wire limit lane (link_of (a.session k) x) (link_of (b.session k) x) outer kept wraps.reads));
          writes = g.3.2;
        },
      ),
    )

-- ---- a side of either kind

pub wrapped_goes : (told told' : Meaning → Type 0) (k : ℕ) (x : Side) (lane lane' : Lane) (Step : Link → Link → Type 0) → LaneGoes told told' lane lane' k x Step → OneSideGoes told told' (Some lane) (Some lane') k x Step
wrapped_goes told told' k x lane lane' Step goes None limit = λ a outer tells is_open over. absurd over
wrapped_goes told told' k x lane lane' Step goes (Some wire) limit = goes wire limit

passes_read : (into : List ℕ) (answer : LinkGot) (i i' o : Link) → LinkReads into answer i i' → PassesOn i o → (o' : Link) × LinkReads into answer o o' × PassesOn i' o'
passes_read into (got.Bytes n) i i' o h p = (
  record o { received = o.received ++ take n into; last_read = Some (got.Bytes n) },
  (p.ended ∙ h.0, refl),
  subst (λ (i' : Link). PassesOn i' (record o { received = o.received ++ take n into; last_read = Some (got.Bytes n) })) (sym h.1)
      (record { received = ap (λ (r : List ℕ). r ++ take n into) p.received; sent = p.sent; ended = p.ended }),
)
passes_read into got.NotReady i i' o h p = (
  record o { last_read = Some got.NotReady },
  (p.ended ∙ h.0, refl),
  subst (λ (i' : Link). PassesOn i' (record o { last_read = Some got.NotReady })) (sym h.1) (record { received = p.received; sent = p.sent; ended = p.ended }),
)
passes_read into got.End i i' o h p = (
  record o { ended = true; last_read = Some got.End },
  refl,
  subst (λ (i' : Link). PassesOn i' (record o { ended = true; last_read = Some got.End })) (sym h) (record { received = p.received; sent = p.sent; ended = refl }),
)
passes_read into got.Failed i i' o h p = (
  record o { last_read = Some got.Failed },
  (p.ended ∙ h.0, refl),
  subst (λ (i' : Link). PassesOn i' (record o { last_read = Some got.Failed })) (sym h.1) (record { received = p.received; sent = p.sent; ended = p.ended }),
)

passes_write : (from : List ℕ) (answer : LinkPut) (i i' o : Link) → LinkWrites from answer i i' → PassesOn i o → (o' : Link) × LinkWrites from answer o o' × PassesOn i' o'
passes_write from (put.Took n) i i' o h p = (
  record o { sent = o.sent ++ take n from; last_write = Some (put.Took n) },
  refl,
  subst (λ (i' : Link). PassesOn i' (record o { sent = o.sent ++ take n from; last_write = Some (put.Took n) })) (sym h)
      (record { received = p.received; sent = ap (λ (r : List ℕ). r ++ take n from) p.sent; ended = p.ended }),
)
passes_write from put.NotReady i i' o h p = (
  record o { last_write = Some put.NotReady },
  refl,
  subst (λ (i' : Link). PassesOn i' (record o { last_write = Some put.NotReady })) (sym h) (record { received = p.received; sent = p.sent; ended = p.ended }),
)
passes_write from put.Failed i i' o h p = (
  record o { last_write = Some put.Failed },
  refl,
  subst (λ (i' : Link). PassesOn i' (record o { last_write = Some put.Failed })) (sym h) (record { received = p.received; sent = p.sent; ended = p.ended }),
)

pub passed_read : (told told' : Meaning → Type 0) (k : ℕ) (x : Side) (size : ℕ) (into : List ℕ) (answer : LinkGot) → Leads told told' (IsOpen k) (ReadLeads k x size into answer) → OneSideGoes told told' None None k x (LinkReads into answer)
passed_read told told' k x size into answer leads None limit = λ a outer tells is_open over.
    let led = leads a tells is_open in (
      led.0,
      led.1,
      goes_by_call k x (Read k x size answer) (LinkReads into answer) Anything a led.0 (λ l m h. tt) led.2,
      passes_read into answer (link_of (a.session k) x) (link_of (led.0.session k) x) outer (at_link x (LinkReads into answer) (a.session k) (led.0.session k) led.2.session) over,
    )
passed_read told told' k x size into answer leads (Some wire) limit = λ a outer tells is_open over. absurd over

pub passed_write : (told told' : Meaning → Type 0) (k : ℕ) (x : Side) (from : List ℕ) (answer : LinkPut) → Leads told told' (IsOpen k) (WriteLeads k x from answer) → OneSideGoes told told' None None k x (LinkWrites from answer)
passed_write told told' k x from answer leads None limit = λ a outer tells is_open over.
    let led = leads a tells is_open in (
      led.0,
      led.1,
      goes_by_call k x (Wrote k x (length from) answer) (LinkWrites from answer) Anything a led.0 (λ l m h. tt) led.2,
      passes_write from answer (link_of (a.session k) x) (link_of (led.0.session k) x) outer (at_link x (LinkWrites from answer) (a.session k) (led.0.session k) led.2.session) over,
    )
passed_write told told' k x from answer leads (Some wire) limit = λ a outer tells is_open over. absurd over

-- ---- both sides of a session

pub client_goes : (told told' : Meaning → Type 0) (k : ℕ) (lanes : Lanes) (lane : Option Lane) (Step : Link → Link → Type 0) → OneSideGoes told told' lanes.client lane k side.Client Step → LanesGo told told' lanes (record lanes { client = lane }) k side.Client Step
client_goes told told' k lanes lane Step goes w a t tells is_open wraps =
    let g = goes w.client w.limit a t.client tells is_open wraps.client in
    let b = g.0 in
    let same : b.session k ≡ record (a.session k) { client = g.2.session.0 } = g.2.session.2 in (
      b,
      g.1,
      record { others = g.2.others; started = g.2.started; last_event = g.2.last_event; events = g.2.events },
      (
        record t { client = g.3.0 },
        (g.3.0, g.3.1, refl),
        record {
          client = g.3.2;
          upstream = subst (λ (u : Link). WrapsSide w.upstream w.limit lanes.upstream u t.upstream) (sym (ap (λ (s : Told). s.upstream) same)) wraps.upstream;
          announced = wraps.announced ∙ sym (ap (λ (s : Told). s.announced) same);
          closed = wraps.closed ∙ sym (ap (λ (s : Told). s.closed) same);
        },
      ),
    )

pub upstream_goes : (told told' : Meaning → Type 0) (k : ℕ) (lanes : Lanes) (lane : Option Lane) (Step : Link → Link → Type 0) → OneSideGoes told told' lanes.upstream lane k side.Upstream Step → LanesGo told told' lanes (record lanes { upstream = lane }) k side.Upstream Step
upstream_goes told told' k lanes lane Step goes w a t tells is_open wraps =
    let g = goes w.upstream w.limit a t.upstream tells is_open wraps.upstream in
    let b = g.0 in
    let same : b.session k ≡ record (a.session k) { upstream = g.2.session.0 } = g.2.session.2 in (
      b,
      g.1,
      record { others = g.2.others; started = g.2.started; last_event = g.2.last_event; events = g.2.events },
      (
        record t { upstream = g.3.0 },
        (g.3.0, g.3.1, refl),
        record {
          client = subst (λ (u : Link). WrapsSide w.client w.limit lanes.client u t.client) (sym (ap (λ (s : Told). s.client) same)) wraps.client;
          upstream = g.3.2;
          announced = wraps.announced ∙ sym (ap (λ (s : Told). s.announced) same);
          closed = wraps.closed ∙ sym (ap (λ (s : Told). s.closed) same);
        },
      ),
    )

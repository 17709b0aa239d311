-- What the calls of the hub do to what it tells, by what those of its sockets do.
use Rattle.std.proofs.Common.{◌≡◌, ◌≢◌, ℕ, ◌+◌, ◌<◌, List, [], ◌∷◌, ◌++◌, take, Bool, true, false, true≢false, Option, None, Some, IsSome, nat_lt, ◌⊎◌, inl, inr, refl, sym, ap, ◌∙◌, subst, arith}
use Rattle.std.proofs.lemmas.Bool.Decides.{nat_tests}
use Rattle.gate_base.specs.Bytes.{AreBytes}
use Rattle.gate_base.specs.Causes.{one_more}
use Rattle.gate_hub.specs.Meaning.{Link, Told, Meaning, Started, HubCall, Asked, Closed, IsOpen, link_of, new_session, reopened}
use Rattle.gate_hub.specs.Hubs.{Leads, Changes, AtSide, LinkReads, LinkWrites, NotStarted, HasStarted, StartLeads, NextLeads, CloseLeads}
use Rattle.gate_hub.specs.declared.hub.Began.{Began}
use Rattle.gate_hub.specs.declared.hub.Began.TheVariants as began
use Rattle.gate_hub.specs.declared.hub.HubNext.{HubNext}
use Rattle.gate_hub.specs.declared.hub.HubNext.TheVariants as event
use Rattle.gate_hub.specs.declared.hub.LinkGot.{LinkGot}
use Rattle.gate_hub.specs.declared.hub.LinkGot.TheVariants as got
use Rattle.gate_hub.specs.declared.hub.LinkPut.{LinkPut}
use Rattle.gate_hub.specs.declared.hub.LinkPut.TheVariants as put
use Rattle.gate_hub.specs.declared.hub.Side.{Side}
use Rattle.gate_hub.specs.declared.hub.Side.TheVariants as side
use Rattle.mio_edge.specs.Wire.{Wire, Moves, Stays}
use Rattle.mio_edge.specs.Sessions.{Links, AtPort, named_links}
use Rattle.mio_edge.specs.Tables.{World, AtSession, Shuts, Opens, MovesAt, empty_world}
use Rattle.mio_edge.specs.Worlds.{ListeningTells, SocketsTell, HasStopped, EventMoves}
use Rattle.mio_edge.specs.Numbers.{AllAnnounced, Numbers}
use Rattle.mio_edge.specs.Telling.{port_number, Alike, Agrees, Matches, HubTells}
use Rattle.mio_edge.specs.declared.hub.MioHub.{MioHub}
use Rattle.mio_edge.specs.declared.listening.Listening.{Listening}
use Rattle.mio_edge.specs.declared.sockets.Sockets.{Sockets}
use Rattle.mio_edge.proofs.Numbers.{AloneNumbers, ended_same, numbers_alone}
use Rattle.mio_edge.proofs.Sessions.{decide}
use Rattle.mio_edge.proofs.Received.{received_bytes}

-- a session that is open in the meaning is open in the world
pub open_there : (told : Told) (links : Option Links) → Agrees told links → told.announced ≡ true → told.closed ≡ false → IsSome links
open_there told None agrees announced shut = absurd (true≢false (sym (agrees announced) ∙ shut))
open_there told (Some links) agrees announced shut = refl

-- ---- links that are alike move alike

abbrev pub Follows : (Link → Link → Type 0) → Type 0
Follows Step = (x y x' : Link) → Step x y → Alike x x' → (y' : Link) × Step x' y' × Alike y y'

pub reads_follow : (into : List ℕ) (answer : LinkGot) → Follows (LinkReads into answer)
reads_follow into (got.Bytes n) x y x' step alike = (
  record x' { received = x'.received ++ take n into; last_read = Some (got.Bytes n) },
  (alike.ended ∙ step.0, refl),
  record {
    received = ap (λ xs. xs ++ take n into) alike.received ∙ sym (ap (λ (l : Link). l.received) step.1);
    sent = alike.sent ∙ sym (ap (λ (l : Link). l.sent) step.1);
    ended = alike.ended ∙ sym (ap (λ (l : Link). l.ended) step.1);
    last_read = sym (ap (λ (l : Link). l.last_read) step.1);
    last_write = alike.last_write ∙ sym (ap (λ (l : Link). l.last_write) step.1);
  },
)
reads_follow into got.NotReady x y x' step alike = (
  record x' { last_read = Some got.NotReady },
  (alike.ended ∙ step.0, refl),
  record {
    received = alike.received ∙ sym (ap (λ (l : Link). l.received) step.1);
    sent = alike.sent ∙ sym (ap (λ (l : Link). l.sent) step.1);
    ended = alike.ended ∙ sym (ap (λ (l : Link). l.ended) step.1);
    last_read = sym (ap (λ (l : Link). l.last_read) step.1);
    last_write = alike.last_write ∙ sym (ap (λ (l : Link). l.last_write) step.1);
  },
)
reads_follow into got.End x y x' step alike = (
  record x' { ended = true; last_read = Some got.End },
  refl,
  record {
    received = alike.received ∙ sym (ap (λ (l : Link). l.received) step);
    sent = alike.sent ∙ sym (ap (λ (l : Link). l.sent) step);
    ended = sym (ap (λ (l : Link). l.ended) step);
    last_read = sym (ap (λ (l : Link). l.last_read) step);
    last_write = alike.last_write ∙ sym (ap (λ (l : Link). l.last_write) step);
  },
)
reads_follow into got.Failed x y x' step alike = (
  record x' { last_read = Some got.Failed },
  (alike.ended ∙ step.0, refl),
  record {
    received = alike.received ∙ sym (ap (λ (l : Link). l.received) step.1);
    sent = alike.sent ∙ sym (ap (λ (l : Link). l.sent) step.1);
    ended = alike.ended ∙ sym (ap (λ (l : Link). l.ended) step.1);
    last_read = sym (ap (λ (l : Link). l.last_read) step.1);
    last_write = alike.last_write ∙ sym (ap (λ (l : Link). l.last_write) step.1);
  },
)

pub writes_follow : (from : List ℕ) (answer : LinkPut) → Follows (LinkWrites from answer)
writes_follow from (put.Took n) x y x' step alike = (
  record x' { sent = x'.sent ++ take n from; last_write = Some (put.Took n) },
  refl,
  record {
    received = alike.received ∙ sym (ap (λ (l : Link). l.received) step);
    sent = ap (λ xs. xs ++ take n from) alike.sent ∙ sym (ap (λ (l : Link). l.sent) step);
    ended = alike.ended ∙ sym (ap (λ (l : Link). l.ended) step);
    last_read = alike.last_read ∙ sym (ap (λ (l : Link). l.last_read) step);
    last_write = sym (ap (λ (l : Link). l.last_write) step);
  },
)
writes_follow from put.NotReady x y x' step alike = (
  record x' { last_write = Some put.NotReady },
  refl,
  record {
    received = alike.received ∙ sym (ap (λ (l : Link). l.received) step);
    sent = alike.sent ∙ sym (ap (λ (l : Link). l.sent) step);
    ended = alike.ended ∙ sym (ap (λ (l : Link). l.ended) step);
    last_read = alike.last_read ∙ sym (ap (λ (l : Link). l.last_read) step);
    last_write = sym (ap (λ (l : Link). l.last_write) step);
  },
)
writes_follow from put.Failed x y x' step alike = (
  record x' { last_write = Some put.Failed },
  refl,
  record {
    received = alike.received ∙ sym (ap (λ (l : Link). l.received) step);
    sent = alike.sent ∙ sym (ap (λ (l : Link). l.sent) step);
    ended = alike.ended ∙ sym (ap (λ (l : Link). l.ended) step);
    last_read = alike.last_read ∙ sym (ap (λ (l : Link). l.last_read) step);
    last_write = sym (ap (λ (l : Link). l.last_write) step);
  },
)

-- ---- one session of a meaning is another

abbrev pick : {j k : ℕ} → (j ≡ k) ⊎ (j ≢ k) → Told → Told → Told
pick (inl e) x y = x
pick (inr e) x y = y

pick_here : {k : ℕ} (d : (k ≡ k) ⊎ (k ≢ k)) (x y : Told) → pick d x y ≡ x
pick_here (inl e) x y = refl
pick_here (inr e) x y = absurd (e refl)

pick_other : {j k : ℕ} (d : (j ≡ k) ⊎ (j ≢ k)) (x y : Told) → j ≢ k → pick d x y ≡ y
pick_other (inl e) x y off = absurd (off e)
pick_other (inr e) x y off = refl

-- the meaning with another session k
abbrev pub with_session : ℕ → Told → Meaning → Meaning
with_session k told m = record m { session = λ j. pick (decide j k) told (m.session j) }

-- such a meaning matches where the session does
matches_with : (count : ℕ) (a b : World) (m : Meaning) (k : ℕ) (told : Told) → Matches count a m → ((j : ℕ) → j ≢ k → b j ≡ a j) → Agrees told (b k) → told.announced ≡ nat_lt k count → ((s : Side) → AreBytes (link_of told s).received) → Matches count b (with_session k told m)
matches_with count a b m k told matches others agrees announced bytes = record {
  sides = λ j. sides j (decide j k);
  announced = λ j. all j (decide j k);
  bytes = λ j s. are j s (decide j k);
}
  where
    sides : (j : ℕ) (d : (j ≡ k) ⊎ (j ≢ k)) → Agrees (pick d told (m.session j)) (b j)
    sides j (inl e) = subst (λ (i : ℕ). Agrees told (b i)) (sym e) agrees
    sides j (inr off) = subst (λ (o : Option Links). Agrees (m.session j) o) (sym (others j off)) (matches.sides j)

    all : (j : ℕ) (d : (j ≡ k) ⊎ (j ≢ k)) → (pick d told (m.session j)).announced ≡ nat_lt j count
    all j (inl e) = announced ∙ ap (λ i. nat_lt i count) (sym e)
    all j (inr off) = matches.announced j

    are : (j : ℕ) (s : Side) (d : (j ≡ k) ⊎ (j ≢ k)) → AreBytes (link_of (pick d told (m.session j)) s).received
    are j s (inl e) = bytes s
    are j s (inr off) = matches.bytes j s

-- ---- a read or a write

-- the side after its port's link has moved
moved_side : (s : Side) (Step : Link → Link → Type 0) → Follows Step → (told : Told) (before after : Links) → Agrees told (Some before) → AtPort (port_number s) Step before after → (told' : Told) × AtSide s Step told told' × Agrees told' (Some after) × (told'.announced ≡ told.announced)
moved_side side.Client Step follows told before after agrees at =
    let next = follows (before 0) (after 0) told.client at.there agrees.2 in
    (record told { client = next.0 }, (next.0, next.1, refl), (agrees.0, agrees.1, next.2, subst (λ (l : Link). Alike l told.upstream) (sym (at.others 1 (λ e. absurd (omega (arith, e))))) agrees.3), refl)
moved_side side.Upstream Step follows told before after agrees at =
    let next = follows (before 1) (after 1) told.upstream at.there agrees.3 in
    (record told { upstream = next.0 }, (next.0, next.1, refl), (agrees.0, agrees.1, subst (λ (l : Link). Alike l told.client) (sym (at.others 0 (λ e. absurd (omega (arith, e))))) agrees.2, next.2), refl)

-- what was received of an open session are bytes
open_bytes : (told : Told) (links : Links) → Agrees told (Some links) → ((p : ℕ) → AreBytes (links p).received) → (s : Side) → AreBytes (link_of told s).received
open_bytes told links agrees are side.Client = subst AreBytes (sym agrees.2.received) (are 0)
open_bytes told links agrees are side.Upstream = subst AreBytes (sym agrees.3.received) (are 1)

-- ---- numbers that are below a count

none_is_less : (k n : ℕ) → nat_lt k n ≡ true → n ≡ 0 → ⊥
none_is_less k n less none = absurd (omega (arith, is_less k n less, none))
  where
    is_less : (k n : ℕ) → nat_lt k n ≡ true → k < n
    is_less k n less = grind (arith, nat_tests)

never_stopped : (m : Meaning) → m.last_event ≡ None → m.last_event ≡ Some event.Stopped → ⊥
never_stopped m none some = by (sym none ∙ some)
  where
    by : None ≡ Some event.Stopped → ⊥
    by e = absurd (cc)

is_below : (k n : ℕ) → nat_lt k n ≡ true → k < n
is_below k n less = grind (arith, nat_tests)

test_below : (k n : ℕ) → k < n → nat_lt k n ≡ true
test_below k n less = grind (arith, nat_tests)

same_below : (j n : ℕ) → j ≢ n → nat_lt j n ≡ nat_lt j (n + 1)
same_below j n off = by (nat_lt j n) refl
  where
    by : (t : Bool) → nat_lt j n ≡ t → nat_lt j n ≡ nat_lt j (n + 1)
    by true e = e ∙ sym (test_below j (n + 1) (omega (arith, is_below j n e)))
    by false e = e ∙ sym (by_next (nat_lt j (n + 1)) refl)
      where
        by_next : (t : Bool) → nat_lt j (n + 1) ≡ t → nat_lt j (n + 1) ≡ false
        by_next false e' = e'
        by_next true e' = absurd (true≢false (sym (test_below j n (omega (arith, is_below j (n + 1) e', off))) ∙ e))

open_in : (told : Told) (links : Option Links) → Agrees told links → IsSome links → (told.announced ≡ true) × (told.closed ≡ false)
open_in told None agrees some = absurd (cc)
open_in told (Some links) agrees some = (agrees.0, agrees.1)

reopened_agrees : (told : Told) (links : Links) → Agrees told (Some links) → Agrees (reopened told) (Some (named_links links))
reopened_agrees told links agrees = (
  agrees.0,
  agrees.1,
  record { received = agrees.2.received; sent = agrees.2.sent; ended = agrees.2.ended; last_read = refl; last_write = refl },
  record { received = agrees.3.received; sent = agrees.3.sent; ended = agrees.3.ended; last_read = refl; last_write = refl },
)

-- they have stopped, where this follows from being one of several
stopped_too : {W S : Type 0} (A B : Type 0) → (A → B) → (sockets : Sockets W S) → HasStopped A sockets → HasStopped B sockets
stopped_too A B follows sockets has = record { stopped = has.stopped; ended = by has.ended }
  where
    by : AllAnnounced sockets.accept sockets.serving.announced ⊎ A → AllAnnounced sockets.accept sockets.serving.announced ⊎ B
    by (inl all) = inl all
    by (inr a) = inr (follows a)

module _ {W S : Type 0} (Is : Type 0) (tells : S → Wire → Type 0) where
  sockets_bytes : ((s : S) (wire : Wire) → tells s wire → AreBytes wire.received) → (sockets : Sockets W S) (world : World) → SocketsTell Is tells sockets world → (k : ℕ) (links : Links) → world k ≡ Some links → (p : ℕ) → AreBytes (links p).received
  sockets_bytes are sockets world told k links is p = by sockets.serving.listening told.sessions
    where
      by : (o : Option (Listening S)) → ListeningTells tells o world → AreBytes (links p).received
      by None none = absurd (no_links (sym (none k) ∙ is))
        where
          no_links : None ≡ Some links → ⊥
          no_links e = absurd (cc)
      by (Some l) t = received_bytes tells are l.table.sessions l.table.entries.items l.table.closed.items l.table.spare.items world t.1.0 k links is p

  pub call_leads : ((s : S) (wire : Wire) → tells s wire → AreBytes wire.received) → (a b : MioHub W S) (k : ℕ) (s : Side) (call : HubCall) (Step : Link → Link → Type 0) → Follows Step
      → MovesAt k (SocketsTell Is tells a.sockets) (SocketsTell Is tells b.sockets) (AtSession k (port_number s) Step) → b.sockets.serving.announced ≡ a.sockets.serving.announced → (HasStopped ⊥ a.sockets → HasStopped ⊥ b.sockets)
      → Leads (HubTells Is tells a) (HubTells Is tells b) (IsOpen k) (Changes k call (AtSide s Step))
  call_leads are a b k s call Step follows moves count still m told can =
      let some = open_there (m.session k) (told.world k) (told.sessions.sides k) can.0 can.1 in
      let moved = moves told.world told.sockets some in
      let at = moved.2 in
      let agrees : Agrees (m.session k) (Some at.before) = subst (λ (o : Option Links). Agrees (m.session k) o) at.was (told.sessions.sides k) in
      let next = moved_side s Step follows (m.session k) at.before at.after agrees at.step in (
        record (with_session k next.0 m) { calls = m.calls ++ call ∷ [] },
        record {
          world = moved.0;
          sockets = moved.1;
          sessions = same_sessions b.sockets.serving.announced moved.0 (with_session k next.0 m) (m.calls ++ call ∷ [])
              (subst (λ (n : ℕ). Matches n moved.0 (with_session k next.0 m)) (sym count)
              (matches_with a.sockets.serving.announced told.world moved.0 m k next.0 told.sessions at.others (subst (λ (o : Option Links). Agrees next.0 o) (sym at.now) next.2) (next.3 ∙ told.sessions.announced k) (open_bytes next.0 at.after next.2 (sockets_bytes are b.sockets moved.0 moved.1 k at.after at.now))));
          fresh = λ none. count ∙ told.fresh none;
          stopped = λ e. still (told.stopped e);
        },
        record {
          session = subst (λ (t : Told). AtSide s Step (m.session k) t) (sym (pick_here (decide k k) next.0 (m.session k))) next.1;
          others = λ j off. pick_other (decide j k) next.0 (m.session j) off;
          started = refl;
          last_event = refl;
          events = refl;
          calls = refl;
        },
      )
    where
      same_sessions : (count : ℕ) (world : World) (m : Meaning) (calls : List HubCall) → Matches count world m → Matches count world (record m { calls = calls })
      same_sessions count world m calls t = record { sides = t.sides; announced = t.announced; bytes = t.bytes }

  -- ---- a close

  pub close_leads : (a b : MioHub W S) (k : ℕ) → MovesAt k (SocketsTell Is tells a.sockets) (SocketsTell Is tells b.sockets) (Shuts k) → b.sockets.serving.announced ≡ a.sockets.serving.announced → (HasStopped ⊥ a.sockets → HasStopped ⊥ b.sockets) → Leads (HubTells Is tells a) (HubTells Is tells b) (IsOpen k) (CloseLeads k)
  close_leads a b k moves count still m told can =
      let some = open_there (m.session k) (told.world k) (told.sessions.sides k) can.0 can.1 in
      let moved = moves told.world told.sockets some in
      let next : Told = record (m.session k) { closed = true } in
      let matches = matches_with a.sockets.serving.announced told.world moved.0 m k next told.sessions moved.2.others (subst (λ (o : Option Links). Agrees next o) (sym moved.2.closed) (λ announced. refl)) (told.sessions.announced k) (λ s. same_bytes s (m.session k) (told.sessions.bytes k s)) in (
        record (with_session k next m) { calls = m.calls ++ Closed k ∷ [] },
        record {
          world = moved.0;
          sockets = moved.1;
          sessions = record {
            sides = matches.sides;
            announced = λ j. matches.announced j ∙ ap (nat_lt j) (sym count);
            bytes = matches.bytes;
          };
          fresh = λ none. count ∙ told.fresh none;
          stopped = λ e. still (told.stopped e);
        },
        record {
          session = pick_here (decide k k) next (m.session k);
          others = λ j off. pick_other (decide j k) next (m.session j) off;
          started = refl;
          last_event = refl;
          events = refl;
          calls = refl;
        },
      )
    where
      same_bytes : (s : Side) (x : Told) → AreBytes (link_of x s).received → AreBytes (link_of (record x { closed = true }) s).received
      same_bytes side.Client x are = are
      same_bytes side.Upstream x are = are

  -- ---- a start

  pub start_leads : (a b : MioHub W S) (started : Started) (r : Began) → (r ≡ began.Done → Moves (SocketsTell Is tells a.sockets) (SocketsTell Is tells b.sockets) (λ x y. y ≡ empty_world)) → ((r ≡ began.Done → ⊥) → Stays (SocketsTell Is tells a.sockets) (SocketsTell Is tells b.sockets)) → b.sockets.serving.announced ≡ a.sockets.serving.announced → Leads (HubTells Is tells a) (HubTells Is tells b) NotStarted (StartLeads started r)
  start_leads a b started r begins keeps count m told can = by r begins keeps
    where
      kept : Stays (SocketsTell Is tells a.sockets) (SocketsTell Is tells b.sockets) → HubTells Is tells b m
      kept stays = record {
        world = told.world;
        sockets = stays told.world told.sockets;
        sessions = record { sides = told.sessions.sides; announced = λ j. told.sessions.announced j ∙ ap (nat_lt j) (sym count); bytes = told.sessions.bytes };
        fresh = λ none. count ∙ told.fresh none;
        stopped = λ e. absurd (never_stopped m can.1 e);
      }

      not_started : Some started ≡ None → ⊥
      not_started e = absurd (cc)

      by : (r : Began) → (r ≡ began.Done → Moves (SocketsTell Is tells a.sockets) (SocketsTell Is tells b.sockets) (λ x y. y ≡ empty_world)) → ((r ≡ began.Done → ⊥) → Stays (SocketsTell Is tells a.sockets) (SocketsTell Is tells b.sockets)) → (m' : Meaning) × HubTells Is tells b m' × StartLeads started r m m'
      by began.Done begins keeps =
          let moved = begins refl told.world told.sockets in (
            record m { started = Some started },
            record {
              world = moved.0;
              sockets = moved.1;
              sessions = record {
                sides = λ j. subst (λ (w : World). Agrees (m.session j) (w j)) (sym moved.2) (λ announced. absurd (none_is_less j a.sockets.serving.announced (sym (told.sessions.announced j) ∙ announced) (told.fresh can.0)));
                announced = λ j. told.sessions.announced j ∙ ap (nat_lt j) (sym count);
                bytes = told.sessions.bytes;
              };
              fresh = λ none. absurd (not_started none);
              stopped = λ e. absurd (never_stopped m can.1 e);
            },
            refl,
          )
      by began.Failed begins keeps = (m, kept (keeps (λ e. absurd (cc))), refl)
      by (began.NotFound at) begins keeps = (m, kept (keeps (λ e. absurd (cc))), refl)
      by began.OutOfMemory begins keeps = (m, kept (keeps (λ e. absurd (cc))), refl)

  -- ---- an event

  pub next_leads : (Shared : Type 0) → (Is → Shared → ⊥) → (a b : MioHub W S) (r : HubNext) → Moves (SocketsTell Is tells a.sockets) (SocketsTell Is tells b.sockets) (EventMoves r)
      → (HasStopped Shared a.sockets → r ≡ event.Stopped) → (r ≡ event.Stopped → HasStopped Shared b.sockets) → Numbers Shared r a.sockets.serving.announced b.sockets.serving.announced
      → Leads (HubTells Is tells a) (HubTells Is tells b) HasStarted (NextLeads r)
  next_leads Shared alone a b r moves still stops numbers m told can =
      by r (λ e. still (stopped_too ⊥ Shared (λ none. absurd none) a.sockets (told.stopped e))) moves (λ e. stopped_too Shared ⊥ none b.sockets (stops e))
      (numbers_alone Shared none r a.sockets.serving.announced b.sockets.serving.announced numbers)
    where
      none : Shared → ⊥
      none shared = alone told.sockets.is_telling shared

      quiet : (e : HubNext) → (w : World) → SocketsTell Is tells b.sockets w → w ≡ told.world → b.sockets.serving.announced ≡ a.sockets.serving.announced → (e ≡ event.Stopped → HasStopped ⊥ b.sockets) → HubTells Is tells b (record m { last_event = Some e; calls = m.calls ++ Asked e ∷ [] })
      quiet e w sockets same count stops = record {
        world = w;
        sockets = sockets;
        sessions = record { sides = λ j. subst (λ (x : World). Agrees (m.session j) (x j)) (sym same) (told.sessions.sides j); announced = λ j. told.sessions.announced j ∙ ap (nat_lt j) (sym count); bytes = told.sessions.bytes };
        fresh = λ none. count ∙ told.fresh none;
        stopped = λ is. stops (un_some e is);
      }
        where
          un_some : (e : HubNext) → Some e ≡ Some event.Stopped → e ≡ event.Stopped
          un_some e is = cc

      no_stop : (e : HubNext) → (e ≡ event.Stopped → ⊥) → Some e ≡ Some event.Stopped → HasStopped ⊥ b.sockets
      no_stop e off is = absurd (off (un_some e is))
        where
          un_some : (e : HubNext) → Some e ≡ Some event.Stopped → e ≡ event.Stopped
          un_some e is = cc

      has_started : m.started ≡ None → ⊥
      has_started none = by m.started none can
        where
          by : (o : Option Started) → o ≡ None → IsSome o → ⊥
          by None e some = absurd (cc)
          by (Some s) e some = absurd (cc)

      by : (r : HubNext) → (m.last_event ≡ Some event.Stopped → r ≡ event.Stopped) → Moves (SocketsTell Is tells a.sockets) (SocketsTell Is tells b.sockets) (EventMoves r) → (r ≡ event.Stopped → HasStopped ⊥ b.sockets) → AloneNumbers r a.sockets.serving.announced b.sockets.serving.announced → (m' : Meaning) × HubTells Is tells b m' × NextLeads r m m'
      by (event.Opened k) last moves stops numbers =
          let moved = moves told.world told.sockets in (
            record (with_session k new_session m) { last_event = Some (event.Opened k); events = one_more m.events; calls = m.calls ++ Asked (event.Opened k) ∷ [] },
            record {
              world = moved.0;
              sockets = moved.1;
              sessions = record {
                sides = λ j. sides j (decide j k) moved.0 moved.2;
                announced = λ j. all j (decide j k);
                bytes = λ j s. are j s (decide j k);
              };
              fresh = λ none. absurd (has_started none);
              stopped = no_stop (event.Opened k) (λ e. absurd (cc));
            },
            (
              last,
              (
                (λ j announced. omega (arith, is_below j a.sockets.serving.announced (sym (told.sessions.announced j) ∙ announced), numbers.0)),
                record {
                  session = pick_here (decide k k) new_session (m.session k);
                  others = λ j off. pick_other (decide j k) new_session (m.session j) off;
                  started = refl;
                  last_event = refl;
                  events = refl;
                  calls = refl;
                },
              ),
            ),
          )
        where
          sides : (j : ℕ) (d : (j ≡ k) ⊎ (j ≢ k)) (w : World) → Opens k told.world w → Agrees (pick d new_session (m.session j)) (w j)
          sides j (inl e) w opens = subst (λ (o : Option Links). Agrees new_session o) (sym (ap w e ∙ opens.here)) (refl, refl, record { received = refl; sent = refl; ended = refl; last_read = refl; last_write = refl }, record { received = refl; sent = refl; ended = refl; last_read = refl; last_write = refl })
          sides j (inr off) w opens = subst (λ (o : Option Links). Agrees (m.session j) o) (sym (opens.others j off)) (told.sessions.sides j)

          all : (j : ℕ) (d : (j ≡ k) ⊎ (j ≢ k)) → (pick d new_session (m.session j)).announced ≡ nat_lt j b.sockets.serving.announced
          all j (inl e) = sym (test_below j b.sockets.serving.announced (omega (arith, e, numbers.0, numbers.1)))
          all j (inr off) = told.sessions.announced j ∙ (same_below j a.sockets.serving.announced (λ e. off (e ∙ sym numbers.0)) ∙ ap (nat_lt j) (sym numbers.1))

          are : (j : ℕ) (s : Side) (d : (j ≡ k) ⊎ (j ≢ k)) → AreBytes (link_of (pick d new_session (m.session j)) s).received
          are j side.Client (inl e) = tt
          are j side.Upstream (inl e) = tt
          are j s (inr off) = told.sessions.bytes j s
      by (event.Ready k) last moves stops numbers =
          let moved = moves told.world told.sockets in
          let agrees : Agrees (m.session k) (Some moved.2.links) = subst (λ (o : Option Links). Agrees (m.session k) o) moved.2.was (told.sessions.sides k) in
          let open_is = open_in (m.session k) (Some moved.2.links) agrees refl in
          let matches = matches_with a.sockets.serving.announced told.world moved.0 m k (reopened (m.session k)) told.sessions moved.2.others (subst (λ (o : Option Links). Agrees (reopened (m.session k)) o) (sym moved.2.now) (reopened_agrees (m.session k) moved.2.links agrees)) (told.sessions.announced k) (λ s. same_bytes s (m.session k) (told.sessions.bytes k s)) in (
            record (with_session k (reopened (m.session k)) m) { last_event = Some (event.Ready k); events = one_more m.events; calls = m.calls ++ Asked (event.Ready k) ∷ [] },
            record {
              world = moved.0;
              sockets = moved.1;
              sessions = record { sides = matches.sides; announced = λ j. matches.announced j ∙ ap (nat_lt j) (sym numbers.1); bytes = matches.bytes };
              fresh = λ none. absurd (has_started none);
              stopped = no_stop (event.Ready k) (λ e. absurd (cc));
            },
            (
              last,
              (
                open_is,
                record {
                  session = pick_here (decide k k) (reopened (m.session k)) (m.session k);
                  others = λ j off. pick_other (decide j k) (reopened (m.session k)) (m.session j) off;
                  started = refl;
                  last_event = refl;
                  events = refl;
                  calls = refl;
                },
              ),
            ),
          )
        where
          same_bytes : (s : Side) (x : Told) → AreBytes (link_of x s).received → AreBytes (link_of (reopened x) s).received
          same_bytes side.Client x are = are
          same_bytes side.Upstream x are = are
      by event.Stopped last moves stops numbers =
          let moved = moves told.world told.sockets in
          (record m { last_event = Some event.Stopped; calls = m.calls ++ Asked event.Stopped ∷ [] }, quiet event.Stopped moved.0 moved.1 moved.2 numbers stops, (last, record { sessions = λ j. refl; started = refl; last_event = refl; events = refl; calls = refl }))
      by event.Failed last moves stops numbers =
          let moved = moves told.world told.sockets in
          (record m { last_event = Some event.Failed; calls = m.calls ++ Asked event.Failed ∷ [] }, quiet event.Failed moved.0 moved.1 moved.2 numbers stops, (last, record { sessions = λ j. refl; started = refl; last_event = refl; events = refl; calls = refl }))

  -- ---- as the functions of the hub ask

  pub still_stopped : (a b : Sockets W S) → b.has_stopped ≡ a.has_stopped → b.accept ≡ a.accept → b.serving.announced ≡ a.serving.announced → HasStopped ⊥ a → HasStopped ⊥ b
  still_stopped a b stopped accept count h = record { stopped = stopped ∙ h.stopped; ended = ended_same ⊥ a.accept a.serving.announced b.accept b.serving.announced accept count h.ended }

  pub call_leads_over : ((s : S) (wire : Wire) → tells s wire → AreBytes wire.received) → (a b : MioHub W S) (sockets : Sockets W S) (k : ℕ) (s : Side) (port : ℕ) (call : HubCall) (Step : Link → Link → Type 0) → Follows Step → b.sockets ≡ sockets → port ≡ port_number s
      → MovesAt k (SocketsTell Is tells a.sockets) (SocketsTell Is tells sockets) (AtSession k port Step) → sockets.has_stopped ≡ a.sockets.has_stopped → sockets.accept ≡ a.sockets.accept → sockets.serving.announced ≡ a.sockets.serving.announced
      → Leads (HubTells Is tells a) (HubTells Is tells b) (IsOpen k) (Changes k call (AtSide s Step))
  call_leads_over are a b sockets k s port call Step follows is port_is moves stopped accept count =
      call_leads are a b k s call Step follows
      (subst (λ (x : Sockets W S). MovesAt k (SocketsTell Is tells a.sockets) (SocketsTell Is tells x) (AtSession k (port_number s) Step)) (sym is)
      (subst (λ (p : ℕ). MovesAt k (SocketsTell Is tells a.sockets) (SocketsTell Is tells sockets) (AtSession k p Step)) port_is moves))
      (ap (λ (x : Sockets W S). x.serving.announced) is ∙ count)
      (λ h. subst (λ (x : Sockets W S). HasStopped ⊥ x) (sym is) (still_stopped a.sockets sockets stopped accept count h))

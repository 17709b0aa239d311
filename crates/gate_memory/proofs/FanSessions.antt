-- Sessions of the fan in a list, of which one is changed.
use Rattle.std.proofs.Common.{◌≡◌, ◌≢◌, ℕ, zero, suc, ◌+◌, ◌<◌, ◌≤◌, List, [], ◌∷◌, length, map, Bool, Option, None, Some, IfSome, true, false, true≢false, get_or, not, nat_lt, ◌&&◌, if◌then◌else◌, ◌⊎◌, inl, inr, ◌++◌, arith, ap, sym, ◌∙◌, subst, refl, option_map}
use Rattle.std.proofs.Math.Path.{fun_ext}
use Rattle.std.specs.List.{slice_get}
use Rattle.std.proofs.Math.ListN.{set, replicate}
use Rattle.std.proofs.lemmas.List.{length-set, length-replicate}
use Rattle.std.proofs.lemmas.Option.{slice_get_read}
use Rattle.std.proofs.lemmas.Bool.Decides.{nat_tests}
use Rattle.gate_base.specs.Causes.{Rose}
use Rattle.gate_hub.specs.Meaning.{Link, new_link}
use Rattle.gate_hub.specs.Hubs.{LinkReads, LinkWrites}
use Rattle.gate_hub.specs.declared.hub.LinkGot.{LinkGot}
use Rattle.gate_hub.specs.declared.hub.LinkGot.TheVariants as got
use Rattle.gate_hub.specs.declared.hub.LinkPut.{LinkPut}
use Rattle.gate_hub.specs.declared.hub.LinkPut.TheVariants as put
use Rattle.gate_fan.specs.Meaning.{Told, FanCall, Meaning, IsOpen, new_session, unknown_session}
use Rattle.gate_fan.specs.Fans.{Leads, Later, Changes, AtPort, HasPort}
use Rattle.gate_memory.specs.Link.{LinkState, ReadsLink, WritesLink, new_link_state}
use Rattle.gate_memory.specs.FanPorts.{SessionState, link_or_new, port_of, has_port, new_ports, told_of, told_or_unknown, PortDoes, NoPortFell}
use Rattle.gate_memory.specs.Fan.{FanState, TellsFan, fan_counts, session_at, is_open_at, has_port_at, has_port_or_none, faults_or_none, waits_or_none, HavePorts, ArePortsBytes, new_fan_session, SessionDoes, ReadDoes, WriteDoes, CloseDoes}
use Rattle.gate_memory.proofs.Sessions.{get_set_same, get_set_other}
use Rattle.gate_memory.proofs.FanBytes.{one_bytes}

pub decide : (i j : ℕ) → (i ≡ j) ⊎ (i ≢ j)
decide zero zero = inl refl
decide zero (suc j) = inr (λ e. absurd (omega (arith, e)))
decide (suc i) zero = inr (λ e. absurd (omega (arith, e)))
decide (suc i) (suc j) = next (decide i j)
  where
    next : (i ≡ j) ⊎ (i ≢ j) → (suc i ≡ suc j) ⊎ (suc i ≢ suc j)
    next (inl e) = inl (ap suc e)
    next (inr e) = inr (λ d. e (omega (arith, d)))

get_within : {X : Type 0} → (xs : List X) (k : ℕ) (x : X) → slice_get xs k ≡ Some x → k < length xs
get_within [] k x is = absurd (cc)
get_within (y ∷ xs) zero x is = omega arith
get_within (y ∷ xs) (suc k) x is = omega (arith, get_within xs k x is)

-- ---- a port of a session

-- the ports after a call on one of them
same_port : (port : ℕ) (Step : LinkState → LinkState → Type 0) (a b : SessionState) → (does : PortDoes port Step a b) → (port_of b port ≡ does.after) × (port_of a port ≡ does.before)
same_port port Step a b does = (
  ap (λ (s : SessionState). port_of s port) does.now ∙ ap link_or_new (get_set_same a.ports port does.after (get_within a.ports port does.before does.was)),
  ap link_or_new does.was,
)

other_port : (port other : ℕ) (Step : LinkState → LinkState → Type 0) (a b : SessionState) → PortDoes port Step a b → other ≢ port → port_of b other ≡ port_of a other
other_port port other Step a b does off = ap (λ (s : SessionState). port_of s other) does.now ∙ ap link_or_new (get_set_other a.ports port other does.after off)

pub at_port : (port : ℕ) (Step : LinkState → LinkState → Type 0) (Step' : Link → Link → Type 0) (a b : SessionState) → ((x y : LinkState) → Step x y → Step' x.told y.told) → PortDoes port Step a b → AtPort port Step' (told_of a) (told_of b)
at_port port Step Step' a b by does =
    let same = same_port port Step a b does in record {
      changed = subst (λ (x : LinkState). Step' (port_of a port).told x.told) (sym same.0) (subst (λ (x : LinkState). Step' x.told does.after.told) (sym same.1) (by does.before does.after does.step));
      others = λ other off. ap (λ (x : LinkState). x.told) (other_port port other Step a b does off);
      announced = refl;
      closed = ap (λ (s : SessionState). s.closed) does.now;
    }

-- no count of a port falls
pub no_fall : (port : ℕ) (Step : LinkState → LinkState → Type 0) (a b : SessionState) (does : PortDoes port Step a b) → does.before.faults ≤ does.after.faults → does.before.waits ≤ does.after.waits → NoPortFell a b
no_fall port Step a b does faults waits =
    let same = same_port port Step a b does in record {
      faults = λ x. by x (λ (l : LinkState). l.faults) (decide x port) faults;
      waits = λ x. by x (λ (l : LinkState). l.waits) (decide x port) waits;
    }
  where
    by : (x : ℕ) (count : LinkState → ℕ) → (x ≡ port) ⊎ (x ≢ port) → count does.before ≤ count does.after → count (port_of a x) ≤ count (port_of b x)
    by x count (inl is) less =
        let same = same_port port Step a b does in
        subst (λ y. count (port_of a y) ≤ count (port_of b y)) (sym is) (omega (arith, less, ap count same.0, ap count same.1))
    by x count (inr off) less = omega (arith, ap count (other_port port x Step a b does off))

-- a count that rose at the link has risen at the port
pub faults_rose_at : (port : ℕ) (Step : LinkState → LinkState → Type 0) (a b : SessionState) (does : PortDoes port Step a b) → Rose does.before.faults does.after.faults → Rose (port_of a port).faults (port_of b port).faults
faults_rose_at port Step a b does rose =
    let same = same_port port Step a b does in
    omega (arith, ap (λ (l : LinkState). l.faults) same.0, ap (λ (l : LinkState). l.faults) same.1, rose)

pub waits_rose_at : (port : ℕ) (Step : LinkState → LinkState → Type 0) (a b : SessionState) (does : PortDoes port Step a b) → Rose does.before.waits does.after.waits → Rose (port_of a port).waits (port_of b port).waits
waits_rose_at port Step a b does rose =
    let same = same_port port Step a b does in
    omega (arith, ap (λ (l : LinkState). l.waits) same.0, ap (λ (l : LinkState). l.waits) same.1, rose)

read_told : (chunk : ℕ) (into : List ℕ) (answer : LinkGot) (x y : LinkState) → ReadsLink chunk into answer x y → LinkReads into answer x.told y.told
read_told chunk into answer x y reads = reads.0

write_told : (chunk : ℕ) (from : List ℕ) (answer : LinkPut) (refused refused' : ℕ) (x y : LinkState) → WritesLink chunk from answer refused refused' x y → LinkWrites from answer x.told y.told
write_told chunk from answer refused refused' x y writes = writes.0

pub read_at_port : (port chunk : ℕ) (into : List ℕ) (answer : LinkGot) (a b : SessionState) → PortDoes port (ReadsLink chunk into answer) a b → AtPort port (LinkReads into answer) (told_of a) (told_of b)
read_at_port port chunk into answer a b does = at_port port (ReadsLink chunk into answer) (LinkReads into answer) a b (read_told chunk into answer) does

pub write_at_port : (port chunk : ℕ) (from : List ℕ) (answer : LinkPut) (refused refused' : ℕ) (a b : SessionState) → PortDoes port (WritesLink chunk from answer refused refused') a b → AtPort port (LinkWrites from answer) (told_of a) (told_of b)
write_at_port port chunk from answer refused refused' a b does = at_port port (WritesLink chunk from answer refused refused') (LinkWrites from answer) a b (write_told chunk from answer refused refused') does

-- a read that failed, or was not ready, was counted, and so was a write
read_failed : (chunk : ℕ) (into : List ℕ) (x y : LinkState) → ReadsLink chunk into got.Failed x y → Rose x.faults y.faults
read_failed chunk into x y reads = omega (arith, ap (λ (l : LinkState). l.faults) reads.1.1)

read_waited : (chunk : ℕ) (into : List ℕ) (x y : LinkState) → ReadsLink chunk into got.NotReady x y → Rose x.waits y.waits
read_waited chunk into x y reads = omega (arith, ap (λ (l : LinkState). l.waits) reads.1.3)

write_failed : (chunk : ℕ) (from : List ℕ) (refused refused' : ℕ) (x y : LinkState) → WritesLink chunk from put.Failed refused refused' x y → Rose x.faults y.faults
write_failed chunk from refused refused' x y (told, inl exact) = omega (arith, ap (λ (l : LinkState). l.faults) exact.2)
write_failed chunk from refused refused' x y (told, inr exact) = omega (arith, ap (λ (l : LinkState). l.faults) exact.3)

write_waited : (chunk : ℕ) (from : List ℕ) (refused refused' : ℕ) (x y : LinkState) → WritesLink chunk from put.NotReady refused refused' x y → Rose x.waits y.waits
write_waited chunk from refused refused' x y writes = omega (arith, ap (λ (l : LinkState). l.waits) writes.1.3)

pub read_fault : (port chunk : ℕ) (into : List ℕ) (answer : LinkGot) (a b : SessionState) → PortDoes port (ReadsLink chunk into answer) a b → answer ≡ got.Failed → Rose (port_of a port).faults (port_of b port).faults
read_fault port chunk into answer a b does is =
    faults_rose_at port (ReadsLink chunk into answer) a b does (read_failed chunk into does.before does.after (subst (λ r. ReadsLink chunk into r does.before does.after) is does.step))

pub read_wait : (port chunk : ℕ) (into : List ℕ) (answer : LinkGot) (a b : SessionState) → PortDoes port (ReadsLink chunk into answer) a b → answer ≡ got.NotReady → Rose (port_of a port).waits (port_of b port).waits
read_wait port chunk into answer a b does is =
    waits_rose_at port (ReadsLink chunk into answer) a b does (read_waited chunk into does.before does.after (subst (λ r. ReadsLink chunk into r does.before does.after) is does.step))

pub write_fault : (port chunk : ℕ) (from : List ℕ) (answer : LinkPut) (refused refused' : ℕ) (a b : SessionState) → PortDoes port (WritesLink chunk from answer refused refused') a b → answer ≡ put.Failed → Rose (port_of a port).faults (port_of b port).faults
write_fault port chunk from answer refused refused' a b does is =
    faults_rose_at port (WritesLink chunk from answer refused refused') a b does (write_failed chunk from refused refused' does.before does.after (subst (λ r. WritesLink chunk from r refused refused' does.before does.after) is does.step))

pub write_wait : (port chunk : ℕ) (from : List ℕ) (answer : LinkPut) (refused refused' : ℕ) (a b : SessionState) → PortDoes port (WritesLink chunk from answer refused refused') a b → answer ≡ put.NotReady → Rose (port_of a port).waits (port_of b port).waits
write_wait port chunk from answer refused refused' a b does is =
    waits_rose_at port (WritesLink chunk from answer refused refused') a b does (write_waited chunk from refused refused' does.before does.after (subst (λ r. WritesLink chunk from r refused refused' does.before does.after) is does.step))

-- a new session tells what a new session is
none_told : (n port : ℕ) → (link_or_new (slice_get (replicate n new_link_state) port)).told ≡ new_link
none_told zero port = refl
none_told (suc n) zero = refl
none_told (suc n) (suc port) = none_told n port

pub new_told : (targets : ℕ) → told_of (new_fan_session targets) ≡ new_session
new_told targets = ap (λ (f : ℕ → Link). record { announced = true; closed = false; link = f }) (fun_ext (λ port. none_told (targets + 1) port))

-- ---- the ports of all sessions

pub have_get : (targets : ℕ) (sessions : List SessionState) (k : ℕ) (s : SessionState) → slice_get sessions k ≡ Some s → HavePorts targets sessions → length s.ports ≡ targets + 1
have_get targets sessions k s was all = subst (λ (o : Option SessionState). IfSome o (λ s. length s.ports ≡ targets + 1)) was (at sessions k all)
  where
    at : (xs : List SessionState) (j : ℕ) → HavePorts targets xs → IfSome (slice_get xs j) (λ s. length s.ports ≡ targets + 1)
    at [] j p = tt
    at (x ∷ xs) zero p = p.0
    at (x ∷ xs) (suc j) p = at xs j p.1

pub have_set : (targets : ℕ) (sessions : List SessionState) (k : ℕ) (s : SessionState) → length s.ports ≡ targets + 1 → HavePorts targets sessions → HavePorts targets (set sessions k s)
have_set targets [] k s long all = tt
have_set targets (x ∷ xs) zero s long all = (long, all.1)
have_set targets (x ∷ xs) (suc k) s long all = (all.0, have_set targets xs k s long all.1)

pub have_more : (targets : ℕ) (sessions : List SessionState) → HavePorts targets sessions → HavePorts targets (sessions ++ new_fan_session targets ∷ [])
have_more targets [] all = (length-replicate (targets + 1) new_link_state, tt)
have_more targets (x ∷ xs) all = (all.0, have_more targets xs all.1)

-- a session that is open has each of its ports
pub port_there : (targets : ℕ) (sessions : List SessionState) (k port : ℕ) (m : Meaning) → HavePorts targets sessions → m.session k ≡ session_at sessions k → HasPort k port targets m → has_port_at sessions k port ≡ true
port_there targets sessions k port m all tells can = by (slice_get sessions k) refl
  where
    open_now : (b n : Bool) → b ≡ false → n ≡ true → (not b && n) ≡ true
    open_now true n p q = absurd (true≢false p)
    open_now false n p q = q

    by : (o : Option SessionState) → slice_get sessions k ≡ o → has_port_or_none (slice_get sessions k) port ≡ true
    by None is = absurd (true≢false (sym can.open_one.0 ∙ (ap (λ (t : Told). t.announced) tells ∙ ap (λ o. (told_or_unknown o).announced) is)))
    by (Some s) is =
        let long = have_get targets sessions k s is all in
        let closed : s.closed ≡ false = sym (ap (λ (t : Told). t.closed) tells ∙ ap (λ o. (told_or_unknown o).closed) is) ∙ can.open_one.1 in
        let under : port < length s.ports = omega (arith, can.within, long) in
        let test : nat_lt port (length s.ports) ≡ true = grind (arith, nat_tests, under) in
        ap (λ o. has_port_or_none o port) is ∙ open_now s.closed (nat_lt port (length s.ports)) closed test

-- and one that has a port is there
pub there_within : (sessions : List SessionState) (k port : ℕ) → has_port_at sessions k port ≡ true → k < length sessions
there_within [] k port on = absurd (true≢false (sym on))
there_within (x ∷ xs) zero port on = omega arith
there_within (x ∷ xs) (suc k) port on = omega (arith, there_within xs k port on)

pub open_within : (sessions : List SessionState) (k : ℕ) → is_open_at sessions k ≡ true → k < length sessions
open_within [] k on = absurd (true≢false (sym on))
open_within (x ∷ xs) zero on = omega arith
open_within (x ∷ xs) (suc k) on = omega (arith, open_within xs k on)

pub has_port_of : (sessions : List SessionState) (k port : ℕ) (s : SessionState) → s ≡ get_or sessions k s → has_port_at sessions k port ≡ true → has_port s port ≡ true
has_port_of sessions k port s got on =
    ap (λ o. has_port_or_none o port) (sym (slice_get_read sessions (length sessions) k s refl (there_within sessions k port on) got)) ∙ on

pub port_within : (s : SessionState) (port : ℕ) → has_port s port ≡ true → port < length s.ports
port_within s port on = by s.closed on
  where
    by : (b : Bool) → (not b && nat_lt port (length s.ports)) ≡ true → port < length s.ports
    by true p = absurd (true≢false (sym p))
    by false p = grind (arith, nat_tests, p)

-- ---- one session of the fan has changed

pub record OneChanged (k : ℕ) (s s' : SessionState) (a b : FanState) : Type 0 where
  pub was : slice_get a.sessions k ≡ Some s
  pub within : k < length a.sessions
  pub now : b.sessions ≡ set a.sessions k s'
  pub started : b.started ≡ a.started
  pub last_event : b.last_event ≡ a.last_event
  pub events : b.events ≡ a.events
  pub faults : a.faults ≤ b.faults
  pub strays : b.strays ≡ a.strays
  pub steps : b.steps ≡ a.steps

pub leads_one : (call : FanCall) (Can : Meaning → Type 0) (Step : Told → Told → Type 0) (k : ℕ) (s s' : SessionState) (a b : FanState) → OneChanged k s s' a b → (ArePortsBytes s.ports → ArePortsBytes s'.ports) → Step (told_of s) (told_of s') → Leads (TellsFan a) (TellsFan b) Can (Changes k call Step)
leads_one call Can Step k s s' a b one keeps step = λ m tells _.
    let is : m.session k ≡ told_of s = tells.session k ∙ ap told_or_unknown one.was in
    let becomes : session_at b.sessions k ≡ told_of s' = ap (λ xs. session_at xs k) one.now ∙ ap told_or_unknown (get_set_same a.sessions k s' one.within) in (
      record { session = λ j. session_at b.sessions j; started = b.started; last_event = b.last_event; events = b.events; calls = m.calls ++ call ∷ [] },
      record { session = λ j. refl; started = refl; last_event = refl; events = refl; bytes = one_bytes k s s' a b one.was one.now one.steps keeps tells.bytes },
      record {
        session = subst (λ (t : Told). Step t (session_at b.sessions k)) (sym is) (subst (λ (t : Told). Step (told_of s) t) (sym becomes) step);
        others = λ j other. ap (λ xs. session_at xs j) one.now ∙ (ap told_or_unknown (get_set_other a.sessions k j s' other) ∙ sym (tells.session j));
        started = one.started ∙ sym tells.started;
        last_event = one.last_event ∙ sym tells.last_event;
        events = one.events ∙ sym tells.events;
        calls = refl;
      },
    )

pub faults_grow : (xs : List SessionState) (k j port : ℕ) (s s' : SessionState) → slice_get xs k ≡ Some s → NoPortFell s s' → faults_or_none (slice_get xs j) port ≤ faults_or_none (slice_get (set xs k s') j) port
faults_grow [] k j port s s' was fell = omega arith
faults_grow (x ∷ xs) zero zero port s s' was fell = subst (λ (o : Option SessionState). faults_or_none o port ≤ (port_of s' port).faults) (sym was) (fell.faults port)
faults_grow (x ∷ xs) zero (suc j) port s s' was fell = omega arith
faults_grow (x ∷ xs) (suc k) zero port s s' was fell = omega arith
faults_grow (x ∷ xs) (suc k) (suc j) port s s' was fell = faults_grow xs k j port s s' was fell

pub waits_grow : (xs : List SessionState) (k j port : ℕ) (s s' : SessionState) → slice_get xs k ≡ Some s → NoPortFell s s' → waits_or_none (slice_get xs j) port ≤ waits_or_none (slice_get (set xs k s') j) port
waits_grow [] k j port s s' was fell = omega arith
waits_grow (x ∷ xs) zero zero port s s' was fell = subst (λ (o : Option SessionState). waits_or_none o port ≤ (port_of s' port).waits) (sym was) (fell.waits port)
waits_grow (x ∷ xs) zero (suc j) port s s' was fell = omega arith
waits_grow (x ∷ xs) (suc k) zero port s s' was fell = omega arith
waits_grow (x ∷ xs) (suc k) (suc j) port s s' was fell = waits_grow xs k j port s s' was fell

pub later_one : (k : ℕ) (s s' : SessionState) (a b : FanState) → OneChanged k s s' a b → NoPortFell s s' → Later (fan_counts a) (fan_counts b)
later_one k s s' a b one fell = record {
  faults = one.faults;
  links = λ j port.
      subst (λ (xs : List SessionState). a.strays + faults_or_none (slice_get a.sessions j) port ≤ b.strays + faults_or_none (slice_get xs j) port) (sym one.now)
      (omega (arith, one.strays, faults_grow a.sessions k j port s s' one.was fell));
  waits = λ j port.
      subst (λ (xs : List SessionState). waits_or_none (slice_get a.sessions j) port ≤ waits_or_none (slice_get xs j) port) (sym one.now)
      (waits_grow a.sessions k j port s s' one.was fell);
}

-- a count that rose at the port has risen in the fan's counts
pub faults_rose : (k port : ℕ) (s s' : SessionState) (a b : FanState) → OneChanged k s s' a b → Rose (port_of s port).faults (port_of s' port).faults → Rose ((fan_counts a).link_faults k port) ((fan_counts b).link_faults k port)
faults_rose k port s s' a b one rose =
    let was : faults_or_none (slice_get a.sessions k) port ≡ (port_of s port).faults = ap (λ o. faults_or_none o port) one.was in
    let now : faults_or_none (slice_get b.sessions k) port ≡ (port_of s' port).faults = ap (λ xs. faults_or_none (slice_get xs k) port) one.now ∙ ap (λ o. faults_or_none o port) (get_set_same a.sessions k s' one.within) in
    omega (arith, was, now, one.strays, rose)

pub waits_rose : (k port : ℕ) (s s' : SessionState) (a b : FanState) → OneChanged k s s' a b → Rose (port_of s port).waits (port_of s' port).waits → Rose ((fan_counts a).waits k port) ((fan_counts b).waits k port)
waits_rose k port s s' a b one rose =
    let was : waits_or_none (slice_get a.sessions k) port ≡ (port_of s port).waits = ap (λ o. waits_or_none o port) one.was in
    let now : waits_or_none (slice_get b.sessions k) port ≡ (port_of s' port).waits = ap (λ xs. waits_or_none (slice_get xs k) port) one.now ∙ ap (λ o. waits_or_none o port) (get_set_same a.sessions k s' one.within) in
    omega (arith, was, now, rose)

-- the session at an index of the list was changed in place
pub one_changed : (inside a b : FanState) (k : ℕ) (s s' : SessionState) → inside ≡ a → k < length a.sessions → s ≡ get_or inside.sessions k s → b.sessions ≡ set inside.sessions k s' → b.started ≡ inside.started → b.last_event ≡ inside.last_event → b.events ≡ inside.events → b.faults ≡ inside.faults → b.strays ≡ inside.strays → b.steps ≡ inside.steps → OneChanged k s s' a b
one_changed inside a b k s s' view there is sessions started last_event events faults strays steps =
    let within : k < length inside.sessions = omega (arith, ap (λ (f : FanState). length f.sessions) view, there) in
    subst (λ (f : FanState). OneChanged k s s' f b) view
    (record {
      was = slice_get_read inside.sessions (length inside.sessions) k s refl within is;
      within = within;
      now = sessions;
      started = started;
      last_event = last_event;
      events = events;
      faults = omega (arith, faults);
      strays = strays;
      steps = steps;
    })

-- the fan with another session at an index
abbrev pub with_session : FanState → ℕ → SessionState → FanState
with_session fan k s = record fan { sessions = set fan.sessions k s }

pub closes_keeps : (s : SessionState) → NoPortFell s (record s { closed = true })
closes_keeps s = record { faults = λ port. omega arith; waits = λ port. omega arith }

-- a call on a port leaves as many of them
pub port_long : (port targets : ℕ) (Step : LinkState → LinkState → Type 0) (a b : SessionState) → PortDoes port Step a b → length a.ports ≡ targets + 1 → length b.ports ≡ targets + 1
port_long port targets Step a b does long = ap (λ (s : SessionState). length s.ports) does.now ∙ (length-set a.ports port does.after ∙ long)

-- the session at an index of the list
pub read_at : (sessions : List SessionState) (k : ℕ) (s : SessionState) → k < length sessions → s ≡ get_or sessions k s → slice_get sessions k ≡ Some s
read_at sessions k s within got = slice_get_read sessions (length sessions) k s refl within got

-- each session has its ports still, where one was read or written
pub have_port_done : (targets k port : ℕ) (Step : LinkState → LinkState → Type 0) (sessions : List SessionState) (s s' : SessionState) → k < length sessions → s ≡ get_or sessions k s → PortDoes port Step s s' → HavePorts targets sessions → HavePorts targets (set sessions k s')
have_port_done targets k port Step sessions s s' within got does all =
    have_set targets sessions k s' (port_long port targets Step s s' does (have_get targets sessions k s (read_at sessions k s within got) all)) all

pub have_closed : (targets k : ℕ) (sessions : List SessionState) (s s' : SessionState) → k < length sessions → s ≡ get_or sessions k s → s' ≡ record s { closed = true } → HavePorts targets sessions → HavePorts targets (set sessions k s')
have_closed targets k sessions s s' within got now all =
    have_set targets sessions k s' (ap (λ (x : SessionState). length x.ports) now ∙ have_get targets sessions k s (read_at sessions k s within got) all) all

-- ---- by the table

pub read_done : (inside a b : FanState) (k port : ℕ) (into : List ℕ) (answer : LinkGot) (s s' : SessionState) → inside ≡ a → has_port_at a.sessions k port ≡ true → s ≡ get_or inside.sessions k s → PortDoes port (ReadsLink inside.chunk into answer) s s' → b ≡ record inside { sessions = set inside.sessions k s' } → ReadDoes (has_port_at a.sessions k port) k port into answer a b
read_done inside a b k port into answer s s' view on got does now =
    subst (λ (f : FanState). ReadDoes (has_port_at f.sessions k port) k port into answer f b) view
    (let there : has_port_at inside.sessions k port ≡ true = ap (λ (f : FanState). has_port_at f.sessions k port) view ∙ on in
    subst (λ t. ReadDoes t k port into answer inside b) (sym there) (record { before = s; after = s'; was = read_at inside.sessions k s (there_within inside.sessions k port there) got; step = does; now = now }))

pub write_done : (inside a b : FanState) (k port refused : ℕ) (from : List ℕ) (answer : LinkPut) (s s' : SessionState) → inside ≡ a → has_port_at a.sessions k port ≡ true → s ≡ get_or inside.sessions k s → PortDoes port (WritesLink inside.chunk from answer inside.refused refused) s s' → b ≡ record inside { sessions = set inside.sessions k s'; refused = refused } → WriteDoes (has_port_at a.sessions k port) k port from answer a b
write_done inside a b k port refused from answer s s' view on got does now =
    subst (λ (f : FanState). WriteDoes (has_port_at f.sessions k port) k port from answer f b) view
    (let there : has_port_at inside.sessions k port ≡ true = ap (λ (f : FanState). has_port_at f.sessions k port) view ∙ on in
    let same : b.refused ≡ refused = ap (λ (f : FanState). f.refused) now in
    subst (λ t. WriteDoes t k port from answer inside b) (sym there)
    (subst (λ n. SessionDoes k (PortDoes port (WritesLink inside.chunk from answer inside.refused n)) n inside b) (sym same)
    (record { before = s; after = s'; was = read_at inside.sessions k s (there_within inside.sessions k port there) got; step = does; now = now })))

pub close_done : (inside a b : FanState) (k : ℕ) (s s' : SessionState) → inside ≡ a → is_open_at a.sessions k ≡ true → s ≡ get_or inside.sessions k s → s' ≡ record s { closed = true } → b ≡ record inside { sessions = set inside.sessions k s' } → CloseDoes (is_open_at a.sessions k) k a b
close_done inside a b k s s' view on got closed now =
    subst (λ (f : FanState). CloseDoes (is_open_at f.sessions k) k f b) view
    (let there : is_open_at inside.sessions k ≡ true = ap (λ (f : FanState). is_open_at f.sessions k) view ∙ on in
    subst (λ t. CloseDoes t k inside b) (sym there) (record { before = s; after = s'; was = read_at inside.sessions k s (open_within inside.sessions k there) got; step = closed; now = now }))

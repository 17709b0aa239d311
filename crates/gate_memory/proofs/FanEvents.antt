-- What an event of the fan in memory leads to.
use Rattle.std.proofs.Common.{◌≡◌, ◌≢◌, ℕ, zero, suc, ◌+◌, ◌<◌, ◌≤◌, List, [], ◌∷◌, ◌++◌, length, map, drop, Bool, Option, None, Some, true, false, true≢false, get_or, arith, ap, sym, ◌∙◌, subst, refl, not, option_map, if◌then◌else◌, nat_lt, ◌&&◌, ◌⊎◌, ◌^◌, inl, inr, Result, Err, OnErr}
use Rattle.std.proofs.Math.Path.{fun_ext}
use Rattle.std.specs.List.{slice_get}
use Rattle.std.proofs.Math.ListN.{set}
use Rattle.std.proofs.lemmas.Option.{slice_get_read}
use Rattle.std.proofs.lemmas.List.{length-drop, length-map, length-set, drop_more, drop_all, set-get_or}
use Rattle.gate_base.specs.Causes.{one_more, Rose}
use Rattle.gate_hub.specs.Meaning.{Link, unasked, new_link}
use Rattle.gate_hub.specs.declared.hub.HubNext.{HubNext}
use Rattle.gate_hub.specs.declared.hub.HubNext.TheVariants as event
use Rattle.gate_fan.specs.Meaning.{Told, Meaning, Asked, IsOpen, reopened, new_session}
use Rattle.gate_fan.specs.Fans.{Leads, Later, Answers, HasStarted, NextLeads}
use Rattle.gate_memory.specs.Link.{LinkState, MakesChange, unasked_link, new_link_state, changed_by, arrives, finishes, gets_room, will_break}
use Rattle.gate_memory.specs.FanPorts.{SessionState, link_or_new, port_of, has_port, told_of, told_or_unknown, with_port, changed_or_none, changed_session, MakesSession, NoPortFell}
use Rattle.gate_memory.specs.Fan.{FanState, TellsFan, AreFanBytes, fan_counts, session_at, is_open_at, has_port_at, has_port_or_none, faults_or_none, waits_or_none, targets_of, HavePorts, new_fan_session, Brings, NeedsMemory, StepsBy, step_of, NextBy, NextDoes, AnswersStep, after_event, after_refusal, ready, changed_or_unknown}
use Rattle.gate_memory.specs.declared.link.Change.{Change}
use Rattle.gate_memory.specs.declared.link.Change.TheVariants as change
use Rattle.gate_memory.specs.declared.link.Passed.{Passed}
use Rattle.gate_memory.specs.declared.link.Passed.TheVariants as passed
use Rattle.gate_memory.specs.declared.fan.Performed.{Performed}
use Rattle.gate_memory.specs.declared.fan.Performed.TheVariants as performed
use Rattle.gate_memory.specs.declared.fan.Stepped.{Stepped}
use Rattle.gate_memory.specs.declared.fan.Stepped.TheVariants as stepped
use Rattle.gate_memory.specs.declared.fan_steps.FanStep.{FanStep}
use Rattle.gate_memory.specs.declared.fan_steps.FanStep.TheVariants as step
use Rattle.gate_memory.proofs.Events.{get_last, get_before}
use Rattle.gate_memory.proofs.Sessions.{get_set_same, get_set_other}
use Rattle.gate_memory.proofs.FanBytes.{event_bytes, over_bytes}
use Rattle.gate_memory.proofs.FanSessions.{decide, faults_grow, waits_grow, have_set, have_get, have_more, new_told, there_within}

-- ---- what a step brings

-- a change of a port leaves what the port tells
abbrev KeepsTold : (LinkState → Option LinkState) → Type 0
KeepsTold change = (a b : LinkState) → change a ≡ Some b → (b.told ≡ a.told) × (b.faults ≡ a.faults) × (b.waits ≡ a.waits)

some_of : {X : Type 0} → (x y : X) → Some x ≡ Some y → x ≡ y
some_of {X} x y p = ap (λ o. value o) p
  where
    value : Option X → X
    value None = x
    value (Some z) = z

none_some : {X : Type 0} → (x : X) → None ≡ Some x → ⊥
none_some x p = absurd (cc)

arrive_keeps : (bytes : List ℕ) → KeepsTold (arrives bytes)
arrive_keeps bytes a b p = by a.finished p
  where
    by : (t : Bool) → (if t then None else Some (record a { ahead = a.ahead ++ bytes })) ≡ Some b → (b.told ≡ a.told) × (b.faults ≡ a.faults) × (b.waits ≡ a.waits)
    by true p = absurd (none_some b p)
    by false p = let is = sym (some_of _ b p) in (ap (λ (l : LinkState). l.told) is, ap (λ (l : LinkState). l.faults) is, ap (λ (l : LinkState). l.waits) is)

finish_keeps : KeepsTold finishes
finish_keeps a b p = let is = sym (some_of _ b p) in (ap (λ (l : LinkState). l.told) is, ap (λ (l : LinkState). l.faults) is, ap (λ (l : LinkState). l.waits) is)

room_keeps : (n : ℕ) → KeepsTold (gets_room n)
room_keeps n a b p = let is = sym (some_of _ b p) in (ap (λ (l : LinkState). l.told) is, ap (λ (l : LinkState). l.faults) is, ap (λ (l : LinkState). l.waits) is)

break_keeps : KeepsTold will_break
break_keeps a b p = let is = sym (some_of _ b p) in (ap (λ (l : LinkState). l.told) is, ap (λ (l : LinkState). l.faults) is, ap (λ (l : LinkState). l.waits) is)

-- a session after an event that names it: what is told of its ports but for the last answers, its counts and its ports stay
pub record IsNamed (s s' : SessionState) : Type 0 where
  pub told : told_of s' ≡ reopened (told_of s)
  pub fell : NoPortFell s s'
  pub long : length s'.ports ≡ length s.ports

unasked_or_new : (o : Option LinkState) → link_or_new (option_map unasked_link o) ≡ unasked_link (link_or_new o)
unasked_or_new None = refl
unasked_or_new (Some link) = refl

get_unasked : (ports : List LinkState) (port : ℕ) → link_or_new (slice_get (map unasked_link ports) port) ≡ unasked_link (link_or_new (slice_get ports port))
get_unasked [] port = refl
get_unasked (x ∷ xs) zero = refl
get_unasked (x ∷ xs) (suc port) = get_unasked xs port

within_of : {X : Type 0} → (xs : List X) (k : ℕ) (x : X) → slice_get xs k ≡ Some x → k < length xs
within_of [] k x is = absurd (cc)
within_of (y ∷ xs) zero x is = omega arith
within_of (y ∷ xs) (suc k) x is = omega (arith, within_of xs k x is)

-- a port of the session after the change: what it tells and counts
port_after : (s : SessionState) (port : ℕ) (a b : LinkState) → slice_get s.ports port ≡ Some a → (b.told ≡ a.told) × (b.faults ≡ a.faults) × (b.waits ≡ a.waits) → (x : ℕ) → ((port_of (with_port s port b) x).told ≡ unasked (port_of s x).told) × ((port_of (with_port s port b) x).faults ≡ (port_of s x).faults) × ((port_of (with_port s port b) x).waits ≡ (port_of s x).waits)
port_after s port a b was kept x = by (decide x port)
  where
    all : port_of (with_port s port b) x ≡ unasked_link (link_or_new (slice_get (set s.ports port b) x))
    all = get_unasked (set s.ports port b) x

    told_is : (l : LinkState) → link_or_new (slice_get (set s.ports port b) x) ≡ l → (l.told ≡ (port_of s x).told) × (l.faults ≡ (port_of s x).faults) × (l.waits ≡ (port_of s x).waits) → ((port_of (with_port s port b) x).told ≡ unasked (port_of s x).told) × ((port_of (with_port s port b) x).faults ≡ (port_of s x).faults) × ((port_of (with_port s port b) x).waits ≡ (port_of s x).waits)
    told_is l got same =
        let is = all ∙ ap unasked_link got in (
          ap (λ (m : LinkState). m.told) is ∙ ap unasked same.0,
          ap (λ (m : LinkState). m.faults) is ∙ same.1,
          ap (λ (m : LinkState). m.waits) is ∙ same.2,
        )

    by : (x ≡ port) ⊎ (x ≢ port) → ((port_of (with_port s port b) x).told ≡ unasked (port_of s x).told) × ((port_of (with_port s port b) x).faults ≡ (port_of s x).faults) × ((port_of (with_port s port b) x).waits ≡ (port_of s x).waits)
    by (inl is) =
        let here : port_of s x ≡ a = ap (λ y. port_of s y) is ∙ ap link_or_new was in
        told_is b (ap (λ y. link_or_new (slice_get (set s.ports port b) y)) is ∙ ap link_or_new (get_set_same s.ports port b (within_of s.ports port a was)))
        (kept.0 ∙ ap (λ (l : LinkState). l.told) (sym here), kept.1 ∙ ap (λ (l : LinkState). l.faults) (sym here), kept.2 ∙ ap (λ (l : LinkState). l.waits) (sym here))
    by (inr off) = told_is (port_of s x) (ap link_or_new (get_set_other s.ports port x b off)) (refl, refl, refl)

changed_named : (port : ℕ) (change : LinkState → Option LinkState) (s s' : SessionState) → KeepsTold change → changed_session port change s ≡ Some s' → IsNamed s s'
changed_named port change s s' keeps p = found (slice_get s.ports port) refl
  where
    named : (a b : LinkState) → slice_get s.ports port ≡ Some a → (b.told ≡ a.told) × (b.faults ≡ a.faults) × (b.waits ≡ a.waits) → IsNamed s (with_port s port b)
    named a b was kept =
        let after = port_after s port a b was kept in record {
          told = ap (λ (f : ℕ → Link). record { announced = true; closed = s.closed; link = f }) (fun_ext (λ x. (after x).0));
          fell = record { faults = λ x. omega (arith, (after x).1); waits = λ x. omega (arith, (after x).2) };
          long = length-map (set s.ports port b) unasked_link ∙ length-set s.ports port b;
        }

    by : (a : LinkState) (o : Option LinkState) → slice_get s.ports port ≡ Some a → change a ≡ o → option_map (with_port s port) o ≡ Some s' → IsNamed s s'
    by a None was is q = absurd (none_some s' q)
    by a (Some b) was is q = subst (λ t. IsNamed s t) (some_of (with_port s port b) s' q) (named a b was (keeps a b is))

    found : (o : Option LinkState) → slice_get s.ports port ≡ o → IsNamed s s'
    found None was = absurd (none_some s' (sym (ap (λ o. option_map (with_port s port) (changed_or_none change o)) was) ∙ p))
    found (Some a) was = by a (change a) was refl (sym (ap (λ o. option_map (with_port s port) (changed_or_none change o)) was) ∙ p)

-- what comes of a step: a new session, a session that is named, or a fault
abbrev pub Brought : ℕ → List SessionState → HubNext → List SessionState → Type 0
Brought targets old (event.Opened k) new = (k ≡ length old) × (new ≡ old ++ new_fan_session targets ∷ [])
Brought targets old (event.Ready k) new = (s : SessionState) × (s' : SessionState) × (slice_get old k ≡ Some s) × (s.closed ≡ false) × (new ≡ set old k s') × IsNamed s s'
Brought targets old event.Stopped new = ⊥
Brought targets old event.Failed new = new ≡ old

open_of : (s : SessionState) (port : ℕ) → has_port s port ≡ true → s.closed ≡ false
open_of s port on = by s.closed refl on
  where
    by : (b : Bool) → s.closed ≡ b → (not b && nat_lt port (length s.ports)) ≡ true → s.closed ≡ false
    by true is p = absurd (true≢false (sym p))
    by false is p = is

ready_brings : (targets k port : ℕ) (change : LinkState → Option LinkState) (sessions : List SessionState) (brought : HubNext × List SessionState) → KeepsTold change → ready k port change sessions ≡ Some brought → Brought targets sessions brought.0 brought.1
ready_brings targets k port change sessions brought keeps p = by (has_port_at sessions k port) refl p
  where
    named : (s : SessionState) (o : Option SessionState) → slice_get sessions k ≡ Some s → has_port s port ≡ true → changed_session port change s ≡ o → option_map (λ x. (event.Ready k, set sessions k x)) o ≡ Some brought → Brought targets sessions brought.0 brought.1
    named s None was on is q = absurd (none_some brought q)
    named s (Some s') was on is q =
        subst (λ (b : HubNext × List SessionState). Brought targets sessions b.0 b.1) (some_of (event.Ready k, set sessions k s') brought q)
        (s, s', was, open_of s port on, refl, changed_named port change s s' keeps is)

    found : (o : Option SessionState) → slice_get sessions k ≡ o → has_port_or_none o port ≡ true → option_map (λ x. (event.Ready k, set sessions k x)) (changed_or_unknown port change o) ≡ Some brought → Brought targets sessions brought.0 brought.1
    found None was on q = absurd (true≢false (sym on))
    found (Some s) was on q = named s (changed_session port change s) was on refl q

    by : (t : Bool) → has_port_at sessions k port ≡ t → (if t then option_map (λ x. (event.Ready k, set sessions k x)) (changed_or_unknown port change (slice_get sessions k)) else None) ≡ Some brought → Brought targets sessions brought.0 brought.1
    by true on q = found (slice_get sessions k) refl on q
    by false on q = absurd (none_some brought q)

pub step_brings : (targets : ℕ) (first : FanStep) (sessions : List SessionState) (brought : HubNext × List SessionState) → step_of targets first sessions ≡ Some brought → Brought targets sessions brought.0 brought.1
unfolding step_of
step_brings targets step.Connect sessions brought p = subst (λ (b : HubNext × List SessionState). Brought targets sessions b.0 b.1) (some_of _ brought p) (refl, refl)
step_brings targets (step.Arrive k port bytes) sessions brought p = ready_brings targets k port (arrives bytes) sessions brought (arrive_keeps bytes) p
step_brings targets (step.Finish k port) sessions brought p = ready_brings targets k port finishes sessions brought finish_keeps p
step_brings targets (step.Room k port n) sessions brought p = ready_brings targets k port (gets_room n) sessions brought (room_keeps n) p
step_brings targets (step.Break k port) sessions brought p = ready_brings targets k port will_break sessions brought break_keeps p
step_brings targets step.BreakNext sessions brought p = subst (λ (b : HubNext × List SessionState). Brought targets sessions b.0 b.1) (some_of _ brought p) refl

-- each session has its ports still
have_brought : (targets : ℕ) (old new : List SessionState) (answer : HubNext) → Brought targets old answer new → HavePorts targets old → HavePorts targets new
have_brought targets old new (event.Opened k) b all = subst (λ xs. HavePorts targets xs) (sym b.1) (have_more targets old all)
have_brought targets old new (event.Ready k) (s, s', was, open_now, now, named) all =
    subst (λ xs. HavePorts targets xs) (sym now) (have_set targets old k s' (named.long ∙ have_get targets old k s was all) all)
have_brought targets old new event.Stopped b all = absurd b
have_brought targets old new event.Failed b all = subst (λ xs. HavePorts targets xs) (sym b) all

pub ports_kept : (targets : ℕ) (first : FanStep) (old new : List SessionState) (p : Performed) → Brings (step_of targets first old) (NeedsMemory first) old new p → HavePorts targets old → HavePorts targets new
ports_kept targets first old new (performed.Opened k) brings all = have_brought targets old new (event.Opened k) (step_brings targets first old (event.Opened k, new) brings) all
ports_kept targets first old new (performed.Ready k) brings all = have_brought targets old new (event.Ready k) (step_brings targets first old (event.Ready k, new) brings) all
ports_kept targets first old new performed.Broke brings all = have_brought targets old new event.Failed (step_brings targets first old (event.Failed, new) brings) all
ports_kept targets first old new performed.PassedOver brings all = subst (λ xs. HavePorts targets xs) (sym brings.1) all
ports_kept targets first old new performed.Refused brings all = subst (λ xs. HavePorts targets xs) (sym brings.3) all

-- ---- what an event leads to

announced_within : (xs : List SessionState) (j : ℕ) → (session_at xs j).announced ≡ true → j < length xs
announced_within [] j told = absurd (true≢false (sym told))
announced_within (x ∷ xs) zero told = omega arith
announced_within (x ∷ xs) (suc j) told = omega (arith, announced_within xs j told)

pub answers_lead : (a b : FanState) (answer : HubNext) → b.sessions ≡ a.sessions → b.started ≡ a.started → b.last_event ≡ Some answer → b.events ≡ a.events → (AreFanBytes a → AreFanBytes b) → (m : Meaning) → TellsFan a m → ((n : Meaning) × TellsFan b n × Answers answer m n)
answers_lead a b answer sessions started last_event events keeps m tells = (
  record { session = λ j. session_at b.sessions j; started = b.started; last_event = b.last_event; events = b.events; calls = m.calls ++ Asked answer ∷ [] },
  record { session = λ j. refl; started = refl; last_event = refl; events = refl; bytes = keeps tells.bytes },
  record {
    sessions = λ j. ap (λ xs. session_at xs j) sessions ∙ sym (tells.session j);
    started = started ∙ sym tells.started;
    last_event = last_event;
    events = events ∙ sym tells.events;
    calls = refl;
  },
)

event_leads : (a b : FanState) (answer : HubNext) (new : List SessionState) (rest : List FanStep) → (a.last_event ≡ Some event.Stopped → ⊥) → Brought (targets_of a) a.sessions answer new → b ≡ after_event answer rest new a → (AreFanBytes a → AreFanBytes b) → Leads (TellsFan a) (TellsFan b) HasStarted (NextLeads answer)
event_leads a b (event.Opened k) new rest going brought now keeps = λ m tells _.
    let sessions : b.sessions ≡ a.sessions ++ new_fan_session (targets_of a) ∷ [] = ap (λ (f : FanState). f.sessions) now ∙ brought.1 in (
      record { session = λ j. session_at b.sessions j; started = b.started; last_event = b.last_event; events = b.events; calls = m.calls ++ Asked (event.Opened k) ∷ [] },
      record { session = λ j. refl; started = refl; last_event = refl; events = refl; bytes = keeps tells.bytes },
      (
        (λ stopped. absurd (going (sym tells.last_event ∙ stopped))),
        (
          (λ j announced. subst (λ (n : ℕ). j < n) (sym brought.0) (announced_within a.sessions j (ap (λ (t : Told). t.announced) (sym (tells.session j)) ∙ announced))),
          record {
            session = ap (λ xs. session_at xs k) sessions ∙ (ap (λ n. session_at (a.sessions ++ new_fan_session (targets_of a) ∷ []) n) brought.0 ∙ (ap told_or_unknown (get_last a.sessions (new_fan_session (targets_of a))) ∙ new_told (targets_of a)));
            others = λ j other. ap (λ xs. session_at xs j) sessions ∙ (ap told_or_unknown (get_before a.sessions (new_fan_session (targets_of a)) j (λ e. other (e ∙ sym brought.0))) ∙ sym (tells.session j));
            started = ap (λ (f : FanState). f.started) now ∙ sym tells.started;
            last_event = ap (λ (f : FanState). f.last_event) now;
            events = ap (λ (f : FanState). f.events) now ∙ ap one_more (sym tells.events);
            calls = refl;
          },
        ),
      ),
    )
event_leads a b (event.Ready k) new rest going (s, s', was, open_now, is_now, named) now keeps = λ m tells _.
    let is : m.session k ≡ told_of s = tells.session k ∙ ap told_or_unknown was in
    let sessions : b.sessions ≡ set a.sessions k s' = ap (λ (f : FanState). f.sessions) now ∙ is_now in (
      record { session = λ j. session_at b.sessions j; started = b.started; last_event = b.last_event; events = b.events; calls = m.calls ++ Asked (event.Ready k) ∷ [] },
      record { session = λ j. refl; started = refl; last_event = refl; events = refl; bytes = keeps tells.bytes },
      (
        (λ stopped. absurd (going (sym tells.last_event ∙ stopped))),
        (
          (ap (λ (t : Told). t.announced) is, ap (λ (t : Told). t.closed) is ∙ open_now),
          record {
            session = ap (λ xs. session_at xs k) sessions ∙ (ap told_or_unknown (get_set_same a.sessions k s' (within_of a.sessions k s was)) ∙ (named.told ∙ ap reopened (sym is)));
            others = λ j other. ap (λ xs. session_at xs j) sessions ∙ (ap told_or_unknown (get_set_other a.sessions k j s' other) ∙ sym (tells.session j));
            started = ap (λ (f : FanState). f.started) now ∙ sym tells.started;
            last_event = ap (λ (f : FanState). f.last_event) now;
            events = ap (λ (f : FanState). f.events) now ∙ ap one_more (sym tells.events);
            calls = refl;
          },
        ),
      ),
    )
event_leads a b event.Stopped new rest going brought now keeps = absurd brought
event_leads a b event.Failed new rest going brought now keeps = λ m tells _.
    let e = answers_lead a b event.Failed (ap (λ (f : FanState). f.sessions) now ∙ brought) (ap (λ (f : FanState). f.started) now) (ap (λ (f : FanState). f.last_event) now) (ap (λ (f : FanState). f.events) now) keeps m tells in
    (e.0, e.1, ((λ stopped. absurd (going (sym tells.last_event ∙ stopped))), e.2))

pub stopped_leads : (a b : FanState) → b.sessions ≡ a.sessions → b.started ≡ a.started → b.last_event ≡ Some event.Stopped → b.events ≡ a.events → (AreFanBytes a → AreFanBytes b) → Leads (TellsFan a) (TellsFan b) HasStarted (NextLeads event.Stopped)
stopped_leads a b sessions started last_event events keeps = λ m tells _.
    let e = answers_lead a b event.Stopped sessions started last_event events keeps m tells in
    (e.0, e.1, ((λ stopped. refl), e.2))

refused_leads : (a b : FanState) (rest : List FanStep) → (a.last_event ≡ Some event.Stopped → ⊥) → b ≡ after_refusal rest a → (AreFanBytes a → AreFanBytes b) → Leads (TellsFan a) (TellsFan b) HasStarted (NextLeads event.Failed)
refused_leads a b rest going now keeps = λ m tells _.
    let e = answers_lead a b event.Failed (ap (λ (f : FanState). f.sessions) now) (ap (λ (f : FanState). f.started) now) (ap (λ (f : FanState). f.last_event) now) (ap (λ (f : FanState). f.events) now) keeps m tells in
    (e.0, e.1, ((λ stopped. absurd (going (sym tells.last_event ∙ stopped))), e.2))

pub steps_lead : (a b : FanState) (answer : HubNext) → (a.last_event ≡ Some event.Stopped → ⊥) → StepsBy a b (stepped.Event answer) → Leads (TellsFan a) (TellsFan b) HasStarted (NextLeads answer)
steps_lead a b answer going (first, rest, cut, (brought, brings, answers)) = by answers
  where
    keeps : AreFanBytes a → AreFanBytes b
    keeps p = event_bytes a b answer (first, rest, cut, (brought, brings, answers)) p

    by : AnswersStep first brought rest a b answer → Leads (TellsFan a) (TellsFan b) HasStarted (NextLeads answer)
    by (inl (is, now)) = subst (λ e. Leads (TellsFan a) (TellsFan b) HasStarted (NextLeads e)) (sym is) (event_leads a b brought.0 brought.1 rest going (step_brings (targets_of a) first a.sessions brought brings) now keeps)
    by (inr (needs, is, now)) = subst (λ e. Leads (TellsFan a) (TellsFan b) HasStarted (NextLeads e)) (sym is) (refused_leads a b rest going now keeps)

-- ---- the counts

faults_kept : (targets : ℕ) (xs : List SessionState) (j port : ℕ) → faults_or_none (slice_get xs j) port ≤ faults_or_none (slice_get (xs ++ new_fan_session targets ∷ []) j) port
faults_kept targets [] j port = omega arith
faults_kept targets (x ∷ xs) zero port = omega arith
faults_kept targets (x ∷ xs) (suc j) port = faults_kept targets xs j port

waits_kept : (targets : ℕ) (xs : List SessionState) (j port : ℕ) → waits_or_none (slice_get xs j) port ≤ waits_or_none (slice_get (xs ++ new_fan_session targets ∷ []) j) port
waits_kept targets [] j port = omega arith
waits_kept targets (x ∷ xs) zero port = omega arith
waits_kept targets (x ∷ xs) (suc j) port = waits_kept targets xs j port

pub later_same : (a b : FanState) → b.sessions ≡ a.sessions → a.faults ≤ b.faults → a.strays ≤ b.strays → Later (fan_counts a) (fan_counts b)
later_same a b sessions faults strays = record {
  faults = faults;
  links = λ j port. omega (arith, strays, ap (λ xs. faults_or_none (slice_get xs j) port) sessions);
  waits = λ j port. omega (arith, ap (λ xs. waits_or_none (slice_get xs j) port) sessions);
}

event_later : (a b : FanState) (answer : HubNext) (new : List SessionState) (rest : List FanStep) → a.faults < 2 ^ 64 → Brought (targets_of a) a.sessions answer new → b ≡ after_event answer rest new a → Later (fan_counts a) (fan_counts b)
event_later a b (event.Opened k) new rest range brought now =
    let sessions : b.sessions ≡ a.sessions ++ new_fan_session (targets_of a) ∷ [] = ap (λ (f : FanState). f.sessions) now ∙ brought.1 in record {
      faults = omega (arith, ap (λ (f : FanState). f.faults) now);
      links = λ j port. omega (arith, ap (λ (f : FanState). f.strays) now, ap (λ xs. faults_or_none (slice_get xs j) port) sessions, faults_kept (targets_of a) a.sessions j port);
      waits = λ j port. omega (arith, ap (λ xs. waits_or_none (slice_get xs j) port) sessions, waits_kept (targets_of a) a.sessions j port);
    }
event_later a b (event.Ready k) new rest range (s, s', was, open_now, is_now, named) now =
    let sessions : b.sessions ≡ set a.sessions k s' = ap (λ (f : FanState). f.sessions) now ∙ is_now in record {
      faults = omega (arith, ap (λ (f : FanState). f.faults) now);
      links = λ j port. omega (arith, ap (λ (f : FanState). f.strays) now, ap (λ xs. faults_or_none (slice_get xs j) port) sessions, faults_grow a.sessions k j port s s' was named.fell);
      waits = λ j port. omega (arith, ap (λ xs. waits_or_none (slice_get xs j) port) sessions, waits_grow a.sessions k j port s s' was named.fell);
    }
event_later a b event.Stopped new rest range brought now = absurd brought
event_later a b event.Failed new rest range brought now = later_same a b (ap (λ (f : FanState). f.sessions) now ∙ brought) (omega (arith, range, ap (λ (f : FanState). f.faults) now)) (omega (arith, ap (λ (f : FanState). f.strays) now))

pub steps_later : (a b : FanState) (answer : HubNext) → a.faults < 2 ^ 64 → StepsBy a b (stepped.Event answer) → Later (fan_counts a) (fan_counts b)
steps_later a b answer range (first, rest, cut, (brought, brings, answers)) = by answers
  where
    by : AnswersStep first brought rest a b answer → Later (fan_counts a) (fan_counts b)
    by (inl (is, now)) = event_later a b brought.0 brought.1 rest range (step_brings (targets_of a) first a.sessions brought brings) now
    by (inr (needs, is, now)) = later_same a b (ap (λ (f : FanState). f.sessions) now) (omega (arith, range, ap (λ (f : FanState). f.faults) now)) (omega (arith, ap (λ (f : FanState). f.strays) now))

-- a fault was counted
pub steps_cause : (a b : FanState) (answer : HubNext) → StepsBy a b (stepped.Event answer) → answer ≡ event.Failed → Rose a.faults b.faults
steps_cause a b answer (first, rest, cut, (brought, brings, answers)) failed = by answers
  where
    by : AnswersStep first brought rest a b answer → Rose a.faults b.faults
    by (inl (is, now)) =
        let counted : b ≡ after_event event.Failed rest brought.1 a = subst (λ e. b ≡ after_event e rest brought.1 a) (sym is ∙ failed) now in
        omega (arith, ap (λ (f : FanState). f.faults) counted)
    by (inr (needs, is, now)) = omega (arith, ap (λ (f : FanState). f.faults) now)

pub steps_targets : (a b : FanState) (answer : HubNext) → StepsBy a b (stepped.Event answer) → targets_of b ≡ targets_of a
steps_targets a b answer (first, rest, cut, (brought, brings, answers)) = by answers
  where
    by : AnswersStep first brought rest a b answer → targets_of b ≡ targets_of a
    by (inl (is, now)) = ap targets_of now
    by (inr (needs, is, now)) = ap targets_of now

-- ---- the loop over the steps

pub shorter_by_one : {X : Type 0} → (xs : List X) (place : ℕ) → place < length xs → length (drop (place + 1) xs) < length (drop place xs)
shorter_by_one xs place within = omega (arith, length-drop place xs, length-drop (place + 1) xs, within)

pub within_steps : (inside a : FanState) (steps : List FanStep) (place : ℕ) → inside ≡ a → inside.steps ≡ drop place steps → 0 < length a.steps → place < length steps
within_steps inside a steps place view is some = omega (arith, ap (λ (f : FanState). length f.steps) view, ap length is, length-drop place steps, some)

-- a fan with a step left has not stopped
pub not_stopped : (a : FanState) (steps : List FanStep) (place : ℕ) → a.steps ≡ drop place steps → 0 < length a.steps → (a.last_event ≡ Some event.Stopped → place ≡ length steps) → a.last_event ≡ Some event.Stopped → ⊥
not_stopped a steps place is some end stopped = absurd (omega (arith, ap length is, length-drop place steps, some, end stopped))

-- nothing but the steps has changed, and what the steps that are left do is what all do
pub record Passes (a b : FanState) : Type 0 where
  pub same : b ≡ record a { steps = b.steps }
  pub goes : (c : FanState) (answer : HubNext) → NextDoes b.steps a c answer → NextDoes a.steps a c answer
  pub bytes : AreFanBytes a → AreFanBytes b

pub passes_not : (a : FanState) → Passes a a
passes_not a = record { same = refl; goes = λ c answer does. does; bytes = λ p. p }

pub passes_over : (start a b : FanState) → Passes start a → StepsBy a b stepped.Over → Passes start b
passes_over start a b passes (first, rest, cut, none, now) =
    let none_of : step_of (targets_of start) first start.sessions ≡ None = ap (λ (f : FanState). step_of (targets_of f) first f.sessions) (sym passes.same) ∙ none in
    record {
      same = now ∙ (ap (λ (f : FanState). record f { steps = rest }) passes.same ∙ ap (λ (xs : List FanStep). record start { steps = xs }) (sym (ap (λ (f : FanState). f.steps) now)));
      bytes = λ p. over_bytes a b (first, rest, cut, none, now) (passes.bytes p);
      goes = λ c answer does. passes.goes c answer
          (subst (λ (xs : List FanStep). NextDoes xs start c answer) (sym cut)
          (subst (λ (o : Option (HubNext × List SessionState)). NextBy o first rest start c answer (NextDoes rest start c answer)) (sym none_of)
          (subst (λ (xs : List FanStep). NextDoes xs start c answer) (ap (λ (f : FanState). f.steps) now) does)));
    }

pub passes_event : (start a b : FanState) (answer : HubNext) → Passes start a → StepsBy a b (stepped.Event answer) → NextDoes start.steps start b answer
passes_event start a b answer passes (first, rest, cut, (brought, brings, answers)) =
    let some_of : step_of (targets_of start) first start.sessions ≡ Some brought = ap (λ (f : FanState). step_of (targets_of f) first f.sessions) (sym passes.same) ∙ brings in
    passes.goes b answer
    (subst (λ (xs : List FanStep). NextDoes xs start b answer) (sym cut)
    (subst (λ (o : Option (HubNext × List SessionState)). NextBy o first rest start b answer (NextDoes rest start b answer)) (sym some_of)
    (subst (λ (f : FanState). AnswersStep first brought rest f b answer) passes.same answers)))

pub passes_end : (start a b : FanState) → Passes start a → a.steps ≡ [] → b ≡ record a { last_event = Some event.Stopped } → NextDoes start.steps start b event.Stopped
passes_end start a b passes none now =
    passes.goes b event.Stopped
    (subst (λ (xs : List FanStep). NextDoes xs start b event.Stopped) (sym none)
    (refl, now ∙ (ap (λ (f : FanState). record f { last_event = Some event.Stopped }) passes.same ∙ ap (λ (xs : List FanStep). record start { steps = xs; last_event = Some event.Stopped }) none)))

-- no step is left at the end of the loop over the steps
pub none_left : (one other loop : FanState) (steps : List FanStep) (place : ℕ) → one ≡ loop → other ≡ loop → one.steps ≡ drop place steps → length steps ≤ place → other.steps ≡ []
none_left one other loop steps place view view' is past =
    ap (λ (f : FanState). f.steps) (view' ∙ sym view) ∙ (is ∙ drop_all place steps past)

pub at_end : (steps : List FanStep) (place : ℕ) → place ≤ length steps → drop place steps ≡ [] → place ≡ length steps
at_end steps place within none = omega (arith, within, ap length none, length-drop place steps)

-- what was told at the start is told still
pub passes_tells : (a b : FanState) (m : Meaning) → Passes a b → TellsFan a m → TellsFan b m
passes_tells a b m passes tells = record {
  session = λ k. tells.session k ∙ ap (λ (f : FanState). session_at f.sessions k) (sym passes.same);
  started = tells.started ∙ ap (λ (f : FanState). f.started) (sym passes.same);
  last_event = tells.last_event ∙ ap (λ (f : FanState). f.last_event) (sym passes.same);
  events = tells.events ∙ ap (λ (f : FanState). f.events) (sym passes.same);
  bytes = passes.bytes tells.bytes;
}

-- ---- by the table

-- a step that brings an event
pub steps_by : (inside a b : FanState) (steps : List FanStep) (place targets : ℕ) (first : FanStep) (answer : HubNext) (sessions : List SessionState) (result : Stepped) → inside ≡ a → targets ≡ targets_of inside → inside.steps ≡ drop place steps → 0 < length a.steps → first ≡ get_or steps place first → step_of targets first inside.sessions ≡ Some (answer, sessions) → result ≡ stepped.Event answer → b ≡ after_event answer (drop (place + 1) steps) sessions inside → StepsBy a b result
steps_by inside a b steps place targets first answer sessions result view count is some got brings answers now =
    let within : place < length steps = within_steps inside a steps place view is some in
    let cut : inside.steps ≡ first ∷ drop (place + 1) steps = is ∙ (drop_more steps place first within ∙ ap (λ (x : FanStep). x ∷ drop (place + 1) steps) (sym got)) in
    subst (λ (x : FanState). StepsBy x b result) view
    (subst (λ (r : Stepped). StepsBy inside b r) (sym answers)
    (first, drop (place + 1) steps, cut, ((answer, sessions), ap (λ n. step_of n first inside.sessions) (sym count) ∙ brings, inl (refl, now))))

-- and one that found no memory
pub steps_refused : (inside a b : FanState) (steps : List FanStep) (place targets : ℕ) (first : FanStep) (brought : HubNext × List SessionState) (result : Stepped) → inside ≡ a → targets ≡ targets_of inside → inside.steps ≡ drop place steps → 0 < length a.steps → first ≡ get_or steps place first → step_of targets first inside.sessions ≡ Some brought → NeedsMemory first → result ≡ stepped.Event event.Failed → b ≡ after_refusal (drop (place + 1) steps) inside → StepsBy a b result
steps_refused inside a b steps place targets first brought result view count is some got brings needs answers now =
    let within : place < length steps = within_steps inside a steps place view is some in
    let cut : inside.steps ≡ first ∷ drop (place + 1) steps = is ∙ (drop_more steps place first within ∙ ap (λ (x : FanStep). x ∷ drop (place + 1) steps) (sym got)) in
    subst (λ (x : FanState). StepsBy x b result) view
    (subst (λ (r : Stepped). StepsBy inside b r) (sym answers)
    (first, drop (place + 1) steps, cut, (brought, ap (λ n. step_of n first inside.sessions) (sym count) ∙ brings, inr (needs, refl, now))))

-- and one that is passed over
pub steps_over : (inside a b : FanState) (steps : List FanStep) (place targets : ℕ) (first : FanStep) (result : Stepped) → inside ≡ a → targets ≡ targets_of inside → inside.steps ≡ drop place steps → 0 < length a.steps → first ≡ get_or steps place first → step_of targets first inside.sessions ≡ None → result ≡ stepped.Over → b ≡ record inside { steps = drop (place + 1) steps } → StepsBy a b result
steps_over inside a b steps place targets first result view count is some got none answers now =
    let within : place < length steps = within_steps inside a steps place view is some in
    let cut : inside.steps ≡ first ∷ drop (place + 1) steps = is ∙ (drop_more steps place first within ∙ ap (λ (x : FanStep). x ∷ drop (place + 1) steps) (sym got)) in
    subst (λ (x : FanState). StepsBy x b result) view
    (subst (λ (r : Stepped). StepsBy inside b r) (sym answers)
    (first, drop (place + 1) steps, cut, ap (λ n. step_of n first inside.sessions) (sym count) ∙ none, now))

brought_of : (k : ℕ) (sessions : List SessionState) (changed : Option SessionState) → (changed ≡ None → ⊥) → (brings : Option (HubNext × List SessionState)) → brings ≡ option_map (λ x. (event.Ready k, set sessions k x)) changed → (brought : HubNext × List SessionState) × (brings ≡ Some brought)
brought_of k sessions None some brings is = absurd (some refl)
brought_of k sessions (Some s) some brings is = ((event.Ready k, set sessions k s), is)

-- what a change of a session that has the port brings
pub ready_of : (k port : ℕ) (change : LinkState → Option LinkState) (sessions : List SessionState) (s : SessionState) → has_port_at sessions k port ≡ true → s ≡ get_or sessions k s → ready k port change sessions ≡ option_map (λ x. (event.Ready k, set sessions k x)) (changed_session port change s)
ready_of k port change sessions s on got =
    let was : slice_get sessions k ≡ Some s = slice_get_read sessions (length sessions) k s refl (there_within sessions k port on) got in
    ap (λ (b : Bool). if b then option_map (λ x. (event.Ready k, set sessions k x)) (changed_or_unknown port change (slice_get sessions k)) else None) on
    ∙ ap (λ (o : Option SessionState). option_map (λ x. (event.Ready k, set sessions k x)) (changed_or_unknown port change o)) was

-- a change that finds no memory would have been made
pub would_change : (k port : ℕ) (change : LinkState → Option LinkState) (sessions : List SessionState) (s : SessionState) → has_port_at sessions k port ≡ true → s ≡ get_or sessions k s → (changed_session port change s ≡ None → ⊥) → (brought : HubNext × List SessionState) × (ready k port change sessions ≡ Some brought)
would_change k port change sessions s on got some =
    brought_of k sessions (changed_session port change s) some (ready k port change sessions) (ready_of k port change sessions s on got)

-- ---- a change of a session

changes_tell : (c : Change) → KeepsTold (changed_by c)
changes_tell (change.Arrive bytes) = arrive_keeps bytes.now
changes_tell change.Finish = finish_keeps
changes_tell (change.Room n) = room_keeps n
changes_tell change.Break = break_keeps

pub ports_ready : (targets k port : ℕ) (c : Change) (needs : Type 0) (old new : List SessionState) (p : Performed) → Brings (ready k port (changed_by c) old) needs old new p → HavePorts targets old → HavePorts targets new
ports_ready targets k port c needs old new (performed.Opened j) brings all = have_brought targets old new (event.Opened j) (ready_brings targets k port (changed_by c) old (event.Opened j, new) (changes_tell c) brings) all
ports_ready targets k port c needs old new (performed.Ready j) brings all = have_brought targets old new (event.Ready j) (ready_brings targets k port (changed_by c) old (event.Ready j, new) (changes_tell c) brings) all
ports_ready targets k port c needs old new performed.Broke brings all = have_brought targets old new event.Failed (ready_brings targets k port (changed_by c) old (event.Failed, new) (changes_tell c) brings) all
ports_ready targets k port c needs old new performed.PassedOver brings all = subst (λ xs. HavePorts targets xs) (sym brings.1) all
ports_ready targets k port c needs old new performed.Refused brings all = subst (λ xs. HavePorts targets xs) (sym brings.3) all

-- a session that is as it was stands in the list as it did
pub set_again : (sessions : List SessionState) (k : ℕ) (s s' : SessionState) → s ≡ get_or sessions k s → s' ≡ s → set sessions k s' ≡ sessions
set_again sessions k s s' got same = ap (λ x. set sessions k x) (same ∙ got) ∙ set-get_or sessions k s

-- ---- a change of a port

found_port : (inside : SessionState) (port : ℕ) (change : LinkState → Option LinkState) (x : LinkState) → port < length inside.ports → x ≡ get_or inside.ports port x → changed_session port change inside ≡ option_map (with_port inside port) (change x)
found_port inside port change x within got =
    ap (λ (o : Option LinkState). option_map (with_port inside port) (changed_or_none change o)) (slice_get_read inside.ports (length inside.ports) port x refl within got)

none_changed : (inside : SessionState) (port : ℕ) (o : Option LinkState) → (o ≡ None → ⊥) → option_map (with_port inside port) o ≡ None → ⊥
none_changed inside port None some is = some refl
none_changed inside port (Some y) some is = absurd (none_some (with_port inside port y) (sym is))

pub perform_refused : (inside a : SessionState) (port : ℕ) (change : LinkState → Option LinkState) (x y : LinkState) (grows : Type 0) → inside ≡ a → port < length inside.ports → x ≡ get_or inside.ports port x → (y ≡ x) × grows × (change x ≡ None → ⊥) → (record inside { ports = set inside.ports port y } ≡ a) × grows × (changed_session port change a ≡ None → ⊥)
perform_refused inside a port change x y grows view within got (same, need, some) = (
  ap (λ (xs : List LinkState). record inside { ports = xs }) (ap (λ z. set inside.ports port z) (same ∙ got) ∙ set-get_or inside.ports port x) ∙ view,
  need,
  subst (λ (s : SessionState). changed_session port change s ≡ None → ⊥) view (λ is. none_changed inside port (change x) some (sym (found_port inside port change x within got) ∙ is)),
)

pub perform_done : (inside a : SessionState) (port : ℕ) (change : LinkState → Option LinkState) (x y : LinkState) (ports : List LinkState) (p : Passed) → inside ≡ a → port < length inside.ports → x ≡ get_or inside.ports port x → p ≡ passed.Performed → MakesChange (change x) x y p → ports ≡ map unasked_link (set inside.ports port y) → MakesSession (changed_session port change a) a (record inside { ports = ports }) p
perform_done inside a port change x y ports p view within got is makes now =
    subst (λ q. MakesSession (changed_session port change a) a (record inside { ports = ports }) q) (sym is)
    (subst (λ (s : SessionState). changed_session port change s ≡ Some (record inside { ports = ports })) view
    (found_port inside port change x within got
    ∙ (ap (λ o. option_map (with_port inside port) o) (subst (λ q. MakesChange (change x) x y q) is makes)
    ∙ ap (λ (xs : List LinkState). Some (record inside { ports = xs })) (sym now))))

pub perform_over : (inside a : SessionState) (port : ℕ) (change : LinkState → Option LinkState) (x y : LinkState) (p : Passed) → inside ≡ a → port < length inside.ports → x ≡ get_or inside.ports port x → (p ≡ passed.Performed → ⊥) → MakesChange (change x) x y p → MakesSession (changed_session port change a) a (record inside { ports = set inside.ports port y }) p
perform_over inside a port change x y passed.Performed view within got not makes = absurd (not refl)
perform_over inside a port change x y passed.Over view within got not (none, same) = (
  subst (λ (s : SessionState). changed_session port change s ≡ None) view (found_port inside port change x within got ∙ ap (λ o. option_map (with_port inside port) o) none),
  ap (λ (xs : List LinkState). record inside { ports = xs }) (ap (λ z. set inside.ports port z) (same ∙ got) ∙ set-get_or inside.ports port x) ∙ view,
)

-- what is so where a result is an error
pub on_error : {X E : Type 0} → (r : Result X E) (e : E) (P : Type 0) → r ≡ Err e → P → OnErr r P
on_error r e P is p = subst (λ q. OnErr q P) (sym is) p

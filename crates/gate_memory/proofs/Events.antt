-- What an event of the hub in memory leads to.
use Rattle.std.proofs.Common.{◌≡◌, ◌≢◌, ℕ, zero, suc, ◌+◌, ◌<◌, ◌≤◌, List, [], ◌∷◌, ◌++◌, length, drop, Option, None, Some, true, false, true≢false, get_or, arith, ap, sym, ◌∙◌, subst, refl, ◌&&◌, not, option_map, if◌then◌else◌, Bool, inl}
use Rattle.std.specs.List.{slice_get}
use Rattle.std.proofs.Math.ListN.{set}
use Rattle.std.proofs.lemmas.Option.{slice_get_read}
use Rattle.std.proofs.lemmas.List.{length-drop, drop_more, drop_all}
use Rattle.gate_memory.specs.declared.hub.Stepped.{Stepped}
use Rattle.gate_memory.specs.declared.hub.Stepped.TheVariants as stepped
use Rattle.gate_base.specs.Causes.{one_more}
use Rattle.gate_hub.specs.Meaning.{Told, Meaning, Asked, IsOpen, reopened}
use Rattle.gate_hub.specs.Hubs.{Leads, Later, Answers, HasStarted, NextLeads}
use Rattle.gate_memory.specs.Link.{LinkState}
use Rattle.gate_memory.specs.Hub.{HubState, TellsHub, AreHubBytes, hub_counts, session_at, is_open_at, told_of, told_or_unknown, faults_or_none, waits_or_none, new_mem_session, NoCountFell, Steps, StepsBy, step_of, NextBy, NextDoes, AnswersStep, after_event, ready, changed_session, changed_or_none}
use Rattle.gate_hub.specs.declared.hub.Side.{Side}
use Rattle.gate_hub.specs.declared.hub.HubNext.{HubNext}
use Rattle.gate_hub.specs.declared.hub.HubNext.TheVariants as event
use Rattle.gate_memory.specs.declared.hub.MemSession.{MemSession}
use Rattle.gate_memory.specs.declared.steps.HubStep.{HubStep}
use Rattle.gate_memory.proofs.Bytes.{over_bytes}
use Rattle.gate_memory.proofs.Sessions.{get_set_same, get_set_other, later_one, open_within}

pub get_last : {X : Type 0} → (xs : List X) (x : X) → slice_get (xs ++ x ∷ []) (length xs) ≡ Some x
get_last [] x = refl
get_last (y ∷ xs) x = get_last xs x

pub get_before : {X : Type 0} → (xs : List X) (x : X) (j : ℕ) → j ≢ length xs → slice_get (xs ++ x ∷ []) j ≡ slice_get xs j
get_before [] x zero other = absurd (other refl)
get_before [] x (suc j) other = refl
get_before (y ∷ xs) x zero other = refl
get_before (y ∷ xs) x (suc j) other = get_before xs x j (λ e. other (ap suc e))

pub announced_within : (xs : List MemSession) (j : ℕ) → (session_at xs j).announced ≡ true → j < length xs
announced_within [] j told = absurd (true≢false (sym told))
announced_within (x ∷ xs) zero told = omega arith
announced_within (x ∷ xs) (suc j) told = omega (arith, announced_within xs j told)

-- what stays and what comes with an event
pub record Follows (event : HubNext) (a b : HubState) : Type 0 where
  pub started : b.started ≡ a.started
  pub last_event : b.last_event ≡ Some event
  pub events : b.events ≡ one_more a.events

pub leads_opened : (a b : HubState) (k : ℕ) → k ≡ length a.sessions → b.sessions ≡ a.sessions ++ new_mem_session ∷ [] → (a.last_event ≡ Some event.Stopped → ⊥) → Follows (event.Opened k) a b → (AreHubBytes a → AreHubBytes b) → Leads (TellsHub a) (TellsHub b) HasStarted (NextLeads (event.Opened k))
leads_opened a b k is now goes_on follows keeps = λ m tells _. (
  record { session = λ j. session_at b.sessions j; started = b.started; last_event = b.last_event; events = b.events; calls = m.calls ++ Asked (event.Opened k) ∷ [] },
  record { session = λ j. refl; started = refl; last_event = refl; events = refl; bytes = keeps tells.bytes },
  (
    (λ stopped. absurd (goes_on (sym tells.last_event ∙ stopped))),
    (
      (λ j announced. subst (λ (n : ℕ). j < n) (sym is) (announced_within a.sessions j (ap (λ t. t.announced) (sym (tells.session j)) ∙ announced))),
      record {
        session = ap (λ xs. session_at xs k) now ∙ (ap (λ n. session_at (a.sessions ++ new_mem_session ∷ []) n) is ∙ ap told_or_unknown (get_last a.sessions new_mem_session));
        others = λ j other. ap (λ xs. session_at xs j) now ∙ (ap told_or_unknown (get_before a.sessions new_mem_session j (λ e. other (e ∙ sym is))) ∙ sym (tells.session j));
        started = follows.started ∙ sym tells.started;
        last_event = follows.last_event;
        events = follows.events ∙ ap one_more (sym tells.events);
        calls = refl;
      },
    ),
  ),
)

pub is_announced : (t : Told) → (t.announced && not t.closed) ≡ true → (t.announced ≡ true) × (t.closed ≡ false)
is_announced t both = grind arith

open_told : (a : HubState) (k : ℕ) → is_open_at a.sessions k ≡ true → (m : Meaning) → TellsHub a m → IsOpen k m
open_told a k open_at m tells = is_announced (m.session k) (ap (λ t. t.announced && not t.closed) (tells.session k) ∙ open_at)

pub leads_ready : (a b : HubState) (k : ℕ) (s s' : MemSession) → slice_get a.sessions k ≡ Some s → k < length a.sessions → is_open_at a.sessions k ≡ true → b.sessions ≡ set a.sessions k s' → told_of s' ≡ reopened (told_of s) → (a.last_event ≡ Some event.Stopped → ⊥) → Follows (event.Ready k) a b → (AreHubBytes a → AreHubBytes b) → Leads (TellsHub a) (TellsHub b) HasStarted (NextLeads (event.Ready k))
leads_ready a b k s s' was within open_at now told goes_on follows keeps = λ m tells _.
    let is : m.session k ≡ told_of s = tells.session k ∙ ap told_or_unknown was in (
      record { session = λ j. session_at b.sessions j; started = b.started; last_event = b.last_event; events = b.events; calls = m.calls ++ Asked (event.Ready k) ∷ [] },
      record { session = λ j. refl; started = refl; last_event = refl; events = refl; bytes = keeps tells.bytes },
      (
        (λ stopped. absurd (goes_on (sym tells.last_event ∙ stopped))),
        (
          open_told a k open_at m tells,
          record {
            session = ap (λ xs. session_at xs k) now ∙ (ap told_or_unknown (get_set_same a.sessions k s' within) ∙ (told ∙ ap reopened (sym is)));
            others = λ j other. ap (λ xs. session_at xs j) now ∙ (ap told_or_unknown (get_set_other a.sessions k j s' other) ∙ sym (tells.session j));
            started = follows.started ∙ sym tells.started;
            last_event = follows.last_event;
            events = follows.events ∙ ap one_more (sym tells.events);
            calls = refl;
          },
        ),
      ),
    )

pub leads_answer : (a b : HubState) (answer : HubNext) → b.sessions ≡ a.sessions → b.started ≡ a.started → b.last_event ≡ Some answer → b.events ≡ a.events → (AreHubBytes a → AreHubBytes b) → (m : Meaning) → TellsHub a m → ((n : Meaning) × TellsHub b n × Answers answer m n)
leads_answer a b answer sessions started last_event events keeps m tells = (
  record { session = λ j. session_at b.sessions j; started = b.started; last_event = b.last_event; events = b.events; calls = m.calls ++ Asked answer ∷ [] },
  record { session = λ j. refl; started = refl; last_event = refl; events = refl; bytes = keeps tells.bytes },
  record {
    sessions = λ j. ap (λ xs. session_at xs j) sessions ∙ sym (tells.session j);
    started = started ∙ sym tells.started;
    last_event = last_event;
    events = events ∙ sym tells.events;
    calls = refl;
  },
)

pub leads_failed : (a b : HubState) → b.sessions ≡ a.sessions → b.started ≡ a.started → b.last_event ≡ Some event.Failed → b.events ≡ a.events → (a.last_event ≡ Some event.Stopped → ⊥) → (AreHubBytes a → AreHubBytes b) → Leads (TellsHub a) (TellsHub b) HasStarted (NextLeads event.Failed)
leads_failed a b sessions started last_event events goes_on keeps = λ m tells _.
    let e = leads_answer a b event.Failed sessions started last_event events keeps m tells in
    (e.0, e.1, ((λ stopped. absurd (goes_on (sym tells.last_event ∙ stopped))), e.2))

pub leads_stopped : (a b : HubState) → b.sessions ≡ a.sessions → b.started ≡ a.started → b.last_event ≡ Some event.Stopped → b.events ≡ a.events → (AreHubBytes a → AreHubBytes b) → Leads (TellsHub a) (TellsHub b) HasStarted (NextLeads event.Stopped)
leads_stopped a b sessions started last_event events keeps = λ m tells _.
    let e = leads_answer a b event.Stopped sessions started last_event events keeps m tells in
    (e.0, e.1, ((λ stopped. refl), e.2))

pub faults_kept : (xs : List MemSession) (j : ℕ) (side : Side) → faults_or_none (slice_get xs j) side ≤ faults_or_none (slice_get (xs ++ new_mem_session ∷ []) j) side
faults_kept [] j side = omega arith
faults_kept (x ∷ xs) zero side = omega arith
faults_kept (x ∷ xs) (suc j) side = faults_kept xs j side

pub waits_kept : (xs : List MemSession) (j : ℕ) (side : Side) → waits_or_none (slice_get xs j) side ≤ waits_or_none (slice_get (xs ++ new_mem_session ∷ []) j) side
waits_kept [] j side = omega arith
waits_kept (x ∷ xs) zero side = omega arith
waits_kept (x ∷ xs) (suc j) side = waits_kept xs j side

pub later_opened : (a b : HubState) → b.sessions ≡ a.sessions ++ new_mem_session ∷ [] → b.faults ≡ a.faults → b.strays ≡ a.strays → Later (hub_counts a) (hub_counts b)
later_opened a b now faults strays = record {
  faults = omega (arith, faults);
  links = λ j side. subst (λ (xs : List MemSession). a.strays + faults_or_none (slice_get a.sessions j) side ≤ b.strays + faults_or_none (slice_get xs j) side) (sym now) (omega (arith, strays, faults_kept a.sessions j side));
  waits = λ j side. subst (λ (xs : List MemSession). waits_or_none (slice_get a.sessions j) side ≤ waits_or_none (slice_get xs j) side) (sym now) (waits_kept a.sessions j side);
}

-- the same of a step, whose hub has gone one step on
pub steps_opened : (inside a h b : HubState) (k : ℕ) (result : Stepped) → inside ≡ a → result ≡ stepped.Event (event.Opened k) → b ≡ record h { last_event = Some (event.Opened k); events = one_more h.events } → k ≡ length inside.sessions → h.sessions ≡ inside.sessions ++ new_mem_session ∷ [] → h.started ≡ inside.started → h.events ≡ inside.events → length h.steps < length inside.steps → (inside.last_event ≡ Some event.Stopped → ⊥) → (AreHubBytes inside → AreHubBytes b) → Steps a b result
steps_opened inside a h b k result view is after number sessions started events shorter goes_on keeps =
    subst (λ (x : HubState). Steps x b result) view
    (subst (λ (r : Stepped). Steps inside b r) (sym is)
    (subst (λ (x : HubState). Steps inside x (stepped.Event (event.Opened k))) (sym after)
    (shorter, leads_opened inside _ k number sessions goes_on (record { started = started; last_event = refl; events = ap one_more events }) (λ p. subst AreHubBytes after (keeps p)))))

pub steps_ready : (inside a h b : HubState) (k : ℕ) (s s' : MemSession) (result : Stepped) → inside ≡ a → result ≡ stepped.Event (event.Ready k) → b ≡ record h { last_event = Some (event.Ready k); events = one_more h.events } → is_open_at inside.sessions k ≡ true → s ≡ get_or inside.sessions k s → h.sessions ≡ set inside.sessions k s' → told_of s' ≡ reopened (told_of s) → h.started ≡ inside.started → h.events ≡ inside.events → length h.steps < length inside.steps → (inside.last_event ≡ Some event.Stopped → ⊥) → (AreHubBytes inside → AreHubBytes b) → Steps a b result
steps_ready inside a h b k s s' result view is after open_at got sessions told started events shorter goes_on keeps =
    let within : k < length inside.sessions = open_within inside.sessions k open_at in
    subst (λ (x : HubState). Steps x b result) view
    (subst (λ (r : Stepped). Steps inside b r) (sym is)
    (subst (λ (x : HubState). Steps inside x (stepped.Event (event.Ready k))) (sym after)
    (shorter, leads_ready inside _ k s s' (slice_get_read inside.sessions (length inside.sessions) k s refl within got) within open_at sessions told goes_on (record { started = started; last_event = refl; events = ap one_more events }) (λ p. subst AreHubBytes after (keeps p)))))

pub steps_failed : (inside a h b : HubState) (result : Stepped) (n : ℕ) → inside ≡ a → result ≡ stepped.Event event.Failed → b ≡ record h { last_event = Some event.Failed; faults = n } → h.sessions ≡ inside.sessions → h.started ≡ inside.started → h.events ≡ inside.events → length h.steps < length inside.steps → (inside.last_event ≡ Some event.Stopped → ⊥) → (AreHubBytes inside → AreHubBytes b) → Steps a b result
steps_failed inside a h b result n view is after sessions started events shorter goes_on keeps =
    subst (λ (x : HubState). Steps x b result) view
    (subst (λ (r : Stepped). Steps inside b r) (sym is)
    (subst (λ (x : HubState). Steps inside x (stepped.Event event.Failed)) (sym after)
    (shorter, leads_failed inside _ sessions started refl events goes_on (λ p. subst AreHubBytes after (keeps p)))))

pub later_ready : (inside a b : HubState) (k : ℕ) (s s' : MemSession) → inside ≡ a → is_open_at inside.sessions k ≡ true → s ≡ get_or inside.sessions k s → b.sessions ≡ set inside.sessions k s' → NoCountFell s s' → b.faults ≡ inside.faults → b.strays ≡ inside.strays → Later (hub_counts a) (hub_counts b)
later_ready inside a b k s s' view open_at got sessions fell faults strays =
    let within : k < length inside.sessions = open_within inside.sessions k open_at in
    subst (λ (x : HubState). Later (hub_counts x) (hub_counts b)) view
    (later_one k s s' inside (record inside { sessions = b.sessions; faults = b.faults; strays = b.strays }) (record { was = slice_get_read inside.sessions (length inside.sessions) k s refl within got; within = within; now = sessions; started = refl; last_event = refl; events = refl; faults = omega (arith, faults); strays = strays; steps = refl }) fell)

pub later_opened_in : (inside a b : HubState) → inside ≡ a → b.sessions ≡ inside.sessions ++ new_mem_session ∷ [] → b.faults ≡ inside.faults → b.strays ≡ inside.strays → Later (hub_counts a) (hub_counts b)
later_opened_in inside a b view sessions faults strays = subst (λ (x : HubState). Later (hub_counts x) (hub_counts b)) view (later_opened inside b sessions faults strays)

pub shorter_by_one : {X : Type 0} → (xs : List X) (place : ℕ) → place < length xs → length (drop (place + 1) xs) < length (drop place xs)
shorter_by_one xs place within = omega (arith, length-drop place xs, length-drop (place + 1) xs, within)

pub within_steps : (inside a : HubState) (steps : List HubStep) (place : ℕ) → inside ≡ a → inside.steps ≡ drop place steps → 0 < length a.steps → place < length steps
within_steps inside a steps place view is some = omega (arith, ap (λ (h : HubState). length h.steps) view, ap length is, length-drop place steps, some)

-- a hub with a step left has not stopped
pub not_stopped : (inside a : HubState) (steps : List HubStep) (place : ℕ) → inside ≡ a → inside.steps ≡ drop place steps → 0 < length a.steps → (inside.last_event ≡ Some event.Stopped → place ≡ length steps) → inside.last_event ≡ Some event.Stopped → ⊥
not_stopped inside a steps place view is some end stopped =
    let within : place < length steps = within_steps inside a steps place view is some in
    absurd (omega (arith, within, end stopped))

-- ---- by the table

-- a step that brings an event
pub steps_by : (inside a b : HubState) (steps : List HubStep) (place : ℕ) (first : HubStep) (answer : HubNext) (sessions : List MemSession) (result : Stepped) → inside ≡ a → inside.steps ≡ drop place steps → 0 < length a.steps → first ≡ get_or steps place first → step_of first inside.sessions ≡ Some (answer, sessions) → result ≡ stepped.Event answer → b ≡ after_event answer (drop (place + 1) steps) sessions inside → StepsBy a b result
steps_by inside a b steps place first answer sessions result view is some got brings answers now =
    let within : place < length steps = within_steps inside a steps place view is some in
    let cut : inside.steps ≡ first ∷ drop (place + 1) steps = is ∙ (drop_more steps place first within ∙ ap (λ (x : HubStep). x ∷ drop (place + 1) steps) (sym got)) in
    subst (λ (x : HubState). StepsBy x b result) view
    (subst (λ (r : Stepped). StepsBy inside b r) (sym answers)
    (first, drop (place + 1) steps, cut, ((answer, sessions), brings, inl (refl, now))))

brought_of : (k : ℕ) (sessions : List MemSession) (changed : Option MemSession) → (changed ≡ None → ⊥) → (brings : Option (HubNext × List MemSession)) → brings ≡ option_map (λ x. (event.Ready k, set sessions k x)) changed → (brought : HubNext × List MemSession) × (brings ≡ Some brought)
brought_of k sessions None some brings is = absurd (some refl)
brought_of k sessions (Some s) some brings is = ((event.Ready k, set sessions k s), is)

-- a change that finds no memory would have been made
pub would_change : (k : ℕ) (side : Side) (change : LinkState → Option LinkState) (sessions : List MemSession) (s : MemSession) → is_open_at sessions k ≡ true → s ≡ get_or sessions k s → (changed_session side change s ≡ None → ⊥) → (brought : HubNext × List MemSession) × (ready k side change sessions ≡ Some brought)
would_change k side change sessions s open_at got some =
    let was : slice_get sessions k ≡ Some s = slice_get_read sessions (length sessions) k s refl (open_within sessions k open_at) got in
    let whole : ready k side change sessions ≡ option_map (λ x. (event.Ready k, set sessions k x)) (changed_session side change s) =
    ap (λ (b : Bool). if b then option_map (λ x. (event.Ready k, set sessions k x)) (changed_or_none side change (slice_get sessions k)) else None) open_at
    ∙ ap (λ (o : Option MemSession). option_map (λ x. (event.Ready k, set sessions k x)) (changed_or_none side change o)) was in
    brought_of k sessions (changed_session side change s) some (ready k side change sessions) whole

-- nothing but the steps has changed, and what the steps that are left do is what all do
pub record Passes (a b : HubState) : Type 0 where
  pub same : b ≡ record a { steps = b.steps }
  pub goes : (c : HubState) (answer : HubNext) → NextDoes b.steps a c answer → NextDoes a.steps a c answer
  pub bytes : AreHubBytes a → AreHubBytes b

pub passes_over : (start a b : HubState) → Passes start a → StepsBy a b stepped.Over → Passes start b
passes_over start a b passes (first, rest, cut, none, now) =
    let none_of : step_of first start.sessions ≡ None = ap (λ (h : HubState). step_of first h.sessions) (sym passes.same) ∙ none in
    record {
      same = now ∙ (ap (λ (h : HubState). record h { steps = rest }) passes.same ∙ ap (λ (xs : List HubStep). record start { steps = xs }) (sym (ap (λ (h : HubState). h.steps) now)));
      bytes = λ p. over_bytes a b (first, rest, cut, none, now) (passes.bytes p);
      goes = λ c answer does. passes.goes c answer
          (subst (λ (xs : List HubStep). NextDoes xs start c answer) (sym cut)
          (subst (λ (o : Option (HubNext × List MemSession)). NextBy o first rest start c answer (NextDoes rest start c answer)) (sym none_of)
          (subst (λ (xs : List HubStep). NextDoes xs start c answer) (ap (λ (h : HubState). h.steps) now) does)));
    }

pub passes_event : (start a b : HubState) (answer : HubNext) → Passes start a → StepsBy a b (stepped.Event answer) → NextDoes start.steps start b answer
passes_event start a b answer passes (first, rest, cut, (brought, brings, answers)) =
    let some_of : step_of first start.sessions ≡ Some brought = ap (λ (h : HubState). step_of first h.sessions) (sym passes.same) ∙ brings in
    passes.goes b answer
    (subst (λ (xs : List HubStep). NextDoes xs start b answer) (sym cut)
    (subst (λ (o : Option (HubNext × List MemSession)). NextBy o first rest start b answer (NextDoes rest start b answer)) (sym some_of)
    (subst (λ (h : HubState). AnswersStep first brought rest h b answer) passes.same answers)))

pub passes_end : (start a b : HubState) → Passes start a → a.steps ≡ [] → b ≡ record a { last_event = Some event.Stopped } → NextDoes start.steps start b event.Stopped
passes_end start a b passes none now =
    passes.goes b event.Stopped
    (subst (λ (xs : List HubStep). NextDoes xs start b event.Stopped) (sym none)
    (refl, now ∙ (ap (λ (h : HubState). record h { last_event = Some event.Stopped }) passes.same ∙ ap (λ (xs : List HubStep). record start { steps = xs; last_event = Some event.Stopped }) none)))

-- no step is left at the end of the loop over the steps
pub none_left : (one other loop : HubState) (steps : List HubStep) (place : ℕ) → one ≡ loop → other ≡ loop → one.steps ≡ drop place steps → length steps ≤ place → other.steps ≡ []
none_left one other loop steps place view view' is past =
    ap (λ (h : HubState). h.steps) (view' ∙ sym view) ∙ (is ∙ drop_all place steps past)

pub at_end : (steps : List HubStep) (place : ℕ) → place ≤ length steps → drop place steps ≡ [] → place ≡ length steps
at_end steps place within none = omega (arith, within, ap length none, length-drop place steps)

-- what was told at the start is told still
pub passes_tells : (a b : HubState) (m : Meaning) → Passes a b → TellsHub a m → TellsHub b m
passes_tells a b m passes tells = record {
  session = λ k. tells.session k ∙ ap (λ (h : HubState). session_at h.sessions k) (sym passes.same);
  started = tells.started ∙ ap (λ (h : HubState). h.started) (sym passes.same);
  last_event = tells.last_event ∙ ap (λ (h : HubState). h.last_event) (sym passes.same);
  events = tells.events ∙ ap (λ (h : HubState). h.events) (sym passes.same);
  bytes = passes.bytes tells.bytes;
}

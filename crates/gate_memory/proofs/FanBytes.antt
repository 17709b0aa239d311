-- What the fan in memory holds stays bytes.
use Rattle.std.proofs.Common.{◌≡◌, ℕ, zero, suc, ◌+◌, List, [], ◌∷◌, ◌++◌, map, Bool, true, false, Option, None, Some, IfSome, ap, sym, subst, inl, inr, option_map, if◌then◌else◌}
use Rattle.std.specs.List.{slice_get}
use Rattle.std.proofs.Math.ListN.{set, replicate}
use Rattle.gate_hub.specs.declared.hub.HubNext.{HubNext}
use Rattle.gate_hub.specs.declared.hub.HubNext.TheVariants as event
use Rattle.gate_memory.specs.Link.{LinkState, AreLinkBytes, new_link_state, unasked_link, arrives, finishes, gets_room, will_break}
use Rattle.gate_memory.specs.FanPorts.{SessionState, PortDoes, with_port, changed_or_none, changed_session}
use Rattle.gate_memory.specs.Fan.{FanState, ArePortsBytes, AreSessionsBytes, IsStepBytes, AreStepsBytes, AreFanBytes, AnswersStep, StepsBy, step_of, ready, changed_or_unknown, new_fan_session, has_port_at, targets_of}
use Rattle.gate_memory.specs.declared.fan.Stepped.{Stepped}
use Rattle.gate_memory.specs.declared.fan.Stepped.TheVariants as stepped
use Rattle.gate_memory.specs.declared.fan_steps.FanStep.{FanStep}
use Rattle.gate_memory.specs.declared.fan_steps.FanStep.TheVariants as step
use Rattle.gate_memory.proofs.Bytes.{KeepsBytes, arrive_bytes}

-- ---- the ports of a session

ports_get : (ports : List LinkState) (port : ℕ) → ArePortsBytes ports → IfSome (slice_get ports port) AreLinkBytes
ports_get [] port all = tt
ports_get (x ∷ xs) zero all = all.0
ports_get (x ∷ xs) (suc port) all = ports_get xs port all.1

ports_set : (ports : List LinkState) (port : ℕ) (link : LinkState) → AreLinkBytes link → ArePortsBytes ports → ArePortsBytes (set ports port link)
ports_set [] port link p all = tt
ports_set (x ∷ xs) zero link p all = (p, all.1)
ports_set (x ∷ xs) (suc port) link p all = (all.0, ports_set xs port link p all.1)

ports_unasked : (ports : List LinkState) → ArePortsBytes ports → ArePortsBytes (map unasked_link ports)
ports_unasked [] all = tt
ports_unasked (x ∷ xs) all = (all.0, ports_unasked xs all.1)

ports_new : (n : ℕ) → ArePortsBytes (replicate n new_link_state)
ports_new zero = tt
ports_new (suc n) = ((tt, tt), ports_new n)

pub port_bytes : (port : ℕ) (Step : LinkState → LinkState → Type 0) (a b : SessionState) → ((x y : LinkState) → Step x y → AreLinkBytes x → AreLinkBytes y) → PortDoes port Step a b → ArePortsBytes a.ports → ArePortsBytes b.ports
port_bytes port Step a b keeps does all =
    let before : AreLinkBytes does.before = subst (λ (o : Option LinkState). IfSome o AreLinkBytes) does.was (ports_get a.ports port all) in
    subst (λ (s : SessionState). ArePortsBytes s.ports) (sym does.now) (ports_set a.ports port does.after (keeps does.before does.after does.step before) all)

-- ---- the sessions

pub get_bytes : (xs : List SessionState) (k : ℕ) → AreSessionsBytes xs → IfSome (slice_get xs k) (λ s. ArePortsBytes s.ports)
get_bytes [] k all = tt
get_bytes (x ∷ xs) zero all = all.0
get_bytes (x ∷ xs) (suc k) all = get_bytes xs k all.1

pub set_bytes : (xs : List SessionState) (k : ℕ) (s : SessionState) → ArePortsBytes s.ports → AreSessionsBytes xs → AreSessionsBytes (set xs k s)
set_bytes [] k s p all = tt
set_bytes (x ∷ xs) zero s p all = (p, all.1)
set_bytes (x ∷ xs) (suc k) s p all = (all.0, set_bytes xs k s p all.1)

opened_bytes : (targets : ℕ) (xs : List SessionState) → AreSessionsBytes xs → AreSessionsBytes (xs ++ new_fan_session targets ∷ [])
opened_bytes targets [] all = (ports_new (targets + 1), tt)
opened_bytes targets (x ∷ xs) all = (all.0, opened_bytes targets xs all.1)

-- one session was changed, and nothing of the steps
pub one_bytes : (k : ℕ) (s s' : SessionState) (a b : FanState) → slice_get a.sessions k ≡ Some s → b.sessions ≡ set a.sessions k s' → b.steps ≡ a.steps → (ArePortsBytes s.ports → ArePortsBytes s'.ports) → AreFanBytes a → AreFanBytes b
one_bytes k s s' a b was now steps keeps p =
    let before : ArePortsBytes s.ports = subst (λ (o : Option SessionState). IfSome o (λ s. ArePortsBytes s.ports)) was (get_bytes a.sessions k p.sessions) in
    record { steps = subst AreStepsBytes (sym steps) p.steps; sessions = subst AreSessionsBytes (sym now) (set_bytes a.sessions k s' (keeps before) p.sessions) }

-- ---- the steps of the outside

changed_bytes : (port : ℕ) (change : LinkState → Option LinkState) (s : SessionState) → KeepsBytes change → ArePortsBytes s.ports → IfSome (changed_session port change s) (λ s. ArePortsBytes s.ports)
changed_bytes port change s keeps all = by (changed_or_none change (slice_get s.ports port)) (found (slice_get s.ports port) (ports_get s.ports port all))
  where
    found : (o : Option LinkState) → IfSome o AreLinkBytes → IfSome (changed_or_none change o) AreLinkBytes
    found None p = tt
    found (Some link) p = keeps link p

    by : (o : Option LinkState) → IfSome o AreLinkBytes → IfSome (option_map (with_port s port) o) (λ s. ArePortsBytes s.ports)
    by None p = tt
    by (Some link) p = ports_unasked (set s.ports port link) (ports_set s.ports port link p all)

-- what a step brings
abbrev BringsBytes : Option (HubNext × List SessionState) → Type 0
BringsBytes brings = IfSome brings (λ brought. AreSessionsBytes brought.1)

ready_bytes : (k port : ℕ) (change : LinkState → Option LinkState) (sessions : List SessionState) → KeepsBytes change → AreSessionsBytes sessions → BringsBytes (ready k port change sessions)
ready_bytes k port change sessions keeps all = by (has_port_at sessions k port)
  where
    put : (o : Option SessionState) → IfSome o (λ s. ArePortsBytes s.ports) → BringsBytes (option_map (λ s. (event.Ready k, set sessions k s)) o)
    put None p = tt
    put (Some s) p = set_bytes sessions k s p all

    found : (o : Option SessionState) → IfSome o (λ s. ArePortsBytes s.ports) → IfSome (changed_or_unknown port change o) (λ s. ArePortsBytes s.ports)
    found None p = tt
    found (Some s) p = changed_bytes port change s keeps p

    by : (t : Bool) → BringsBytes (if t then option_map (λ s. (event.Ready k, set sessions k s)) (changed_or_unknown port change (slice_get sessions k)) else None)
    by true = put (changed_or_unknown port change (slice_get sessions k)) (found (slice_get sessions k) (get_bytes sessions k all))
    by false = tt

step_bytes : (targets : ℕ) (first : FanStep) (sessions : List SessionState) → IsStepBytes first → AreSessionsBytes sessions → BringsBytes (step_of targets first sessions)
unfolding step_of
step_bytes targets step.Connect sessions is all = opened_bytes targets sessions all
step_bytes targets (step.Arrive k port bytes) sessions is all = ready_bytes k port (arrives bytes) sessions (arrive_bytes bytes is) all
step_bytes targets (step.Finish k port) sessions is all = ready_bytes k port finishes sessions (λ link p. p) all
step_bytes targets (step.Room k port n) sessions is all = ready_bytes k port (gets_room n) sessions (λ link p. p) all
step_bytes targets (step.Break k port) sessions is all = ready_bytes k port will_break sessions (λ link p. p) all
step_bytes targets step.BreakNext sessions is all = all

-- a step that brings an event, and one that is passed over
pub event_bytes : (a b : FanState) (answer : HubNext) → StepsBy a b (stepped.Event answer) → AreFanBytes a → AreFanBytes b
event_bytes a b answer (first, rest, cut, (brought, brings, answers)) p =
    let all : AreStepsBytes (first ∷ rest) = subst AreStepsBytes cut p.steps in
    let brings_bytes : AreSessionsBytes brought.1 = subst BringsBytes brings (step_bytes (targets_of a) first a.sessions all.0 p.sessions) in
    by answers brings_bytes all.1
  where
    by : AnswersStep first brought rest a b answer → AreSessionsBytes brought.1 → AreStepsBytes rest → AreFanBytes b
    by (inl (is, now)) sessions steps = subst AreFanBytes (sym now) (record { steps = steps; sessions = sessions })
    by (inr (needs, is, now)) sessions steps = subst AreFanBytes (sym now) (record { steps = steps; sessions = p.sessions })

pub over_bytes : (a b : FanState) → StepsBy a b stepped.Over → AreFanBytes a → AreFanBytes b
over_bytes a b (first, rest, cut, none, now) p =
    let all : AreStepsBytes (first ∷ rest) = subst AreStepsBytes cut p.steps in
    subst AreFanBytes (sym now) (record { steps = all.1; sessions = p.sessions })

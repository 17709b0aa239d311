use Rattle.std.proofs.Common.{◌≡◌, ◌<◌, ◌≤◌, Some, refl, ap, sym, ◌∙◌, arith, subst, length, drop}
use Rattle.std.proofs.lemmas.List.{length-drop}
use Rattle.gate_hub.specs.declared.hub.HubNext.TheVariants as event
use Rattle.gate_memory.specs.Fan.{FanState, AreFanBytes, fan_counts, targets_of}
use Rattle.gate_memory.specs.contracts.fan.MemFan.{the_view}
use Rattle.gate_memory.proofs.FanEvents.{stopped_leads, Passes, passes_not, passes_over, passes_event, passes_end, passes_tells, none_left, at_end, steps_lead, steps_later, steps_cause, steps_targets, later_same, not_stopped}
use Rattle.gate_memory.proofs.fan.MemFanFan.next.Goals as goal

pub returns-clause-leads : goal.returns-clause-leads
returns-clause-leads c =
    let same = c.self-2.view_is ∙ c.loop-self.invariant.same in
    stopped_leads c.args.self.now (record (the_view c.self-2.inside) { last_event = Some event.Stopped }) (ap (λ f. f.sessions) same) (ap (λ f. f.started) same) refl (ap (λ f. f.events) same)
    (λ p. let q : AreFanBytes (the_view c.self-2.inside) = subst AreFanBytes (sym c.self-2.view_is) (c.loop-self.invariant.bytes p) in record { steps = q.steps; sessions = q.sessions })

pub returns-clause-exact : goal.returns-clause-exact
returns-clause-exact c =
    passes_end c.args.self.now (the_view c.self-2.inside) _ (subst (λ (f : FanState). Passes c.args.self.now f) (sym c.self-2.view_is) c.loop-self.invariant)
    (none_left (the_view c.self.inside) (the_view c.self-2.inside) c.loop-self.self c.self.inside.steps c.self.inside.place c.self.view_is c.self-2.view_is refl (omega (arith, ap length c.as_slice.ensures, c.loop-self-test.false))) refl

pub returns-clause-later : goal.returns-clause-later
returns-clause-later c =
    let same = c.self-2.view_is ∙ c.loop-self.invariant.same in
    later_same c.args.self.now (record (the_view c.self-2.inside) { last_event = Some event.Stopped }) (ap (λ f. f.sessions) same) (omega (arith, ap (λ f. f.faults) same)) (omega (arith, ap (λ f. f.strays) same))

pub returns-clause-targets : goal.returns-clause-targets
returns-clause-targets c = ap targets_of (c.self-2.view_is ∙ c.loop-self.invariant.same)

pub invariant_of-self : goal.invariant_of-self
invariant_of-self c =
    let none = none_left (the_view c.self.inside) (the_view c.self-2.inside) c.loop-self.self c.self.inside.steps c.self.inside.place c.self.view_is c.self-2.view_is refl (omega (arith, ap length c.as_slice.ensures, c.loop-self-test.false)) in
    (c.self-2.invariant.0, c.self-2.invariant.1, (λ stopped. at_end c.self-2.inside.steps c.self-2.inside.place c.self-2.invariant.0 none), c.self-2.invariant.3)

pub returns-in-Event-clause-exact : goal.returns-in-Event-clause-exact
returns-in-Event-clause-exact c = passes_event c.args.self.now c.loop-self.self c.step.new.self c.in-Event.event c.loop-self.invariant c.in-Event.ensures.exact

pub returns-in-Event-clause-leads : goal.returns-in-Event-clause-leads
returns-in-Event-clause-leads c = λ m tells can.
    let some : 0 < length (drop c.self.inside.place c.self.inside.steps) = omega (arith, length-drop c.self.inside.place c.self.inside.steps, ap length c.as_slice.ensures, c.loop-self-test.true) in
    let going = subst (λ (f : FanState). f.last_event ≡ Some event.Stopped → ⊥) c.self.view_is (not_stopped (the_view c.self.inside) c.self.inside.steps c.self.inside.place refl some c.self.invariant.2) in
    steps_lead c.loop-self.self c.step.new.self c.in-Event.event going c.in-Event.ensures.exact m (passes_tells c.args.self.now c.loop-self.self m c.loop-self.invariant tells) can

pub returns-in-Event-clause-later : goal.returns-in-Event-clause-later
returns-in-Event-clause-later c =
    let l = steps_later c.loop-self.self c.step.new.self c.in-Event.event c.step.ensures.range c.in-Event.ensures.exact in
    let same = c.loop-self.invariant.same in record {
      faults = omega (arith, l.faults, ap (λ f. f.faults) same);
      links = λ k port. subst (λ f. (fan_counts f).link_faults k port ≤ (fan_counts c.step.new.self).link_faults k port) same (l.links k port);
      waits = λ k port. subst (λ f. (fan_counts f).waits k port ≤ (fan_counts c.step.new.self).waits k port) same (l.waits k port);
    }

pub returns-in-Event-clause-cause : goal.returns-in-Event-clause-cause
returns-in-Event-clause-cause c = λ failed. omega (arith, steps_cause c.loop-self.self c.step.new.self c.in-Event.event c.in-Event.ensures.exact failed, ap (λ f. f.faults) c.loop-self.invariant.same)

pub returns-in-Event-clause-targets : goal.returns-in-Event-clause-targets
returns-in-Event-clause-targets c = steps_targets c.loop-self.self c.step.new.self c.in-Event.event c.in-Event.ensures.exact ∙ ap targets_of c.loop-self.invariant.same

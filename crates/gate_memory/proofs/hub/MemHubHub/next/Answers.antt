use Rattle.std.proofs.Common.{Some, refl, ap, sym, ◌∙◌, arith, subst, length}
use Rattle.gate_hub.specs.declared.hub.HubNext.TheVariants as event
use Rattle.gate_memory.specs.Hub.{HubState, AreHubBytes}
use Rattle.gate_memory.specs.contracts.hub.MemHub.{the_view}
use Rattle.gate_memory.proofs.Events.{leads_stopped, Passes, passes_event, passes_end, passes_tells, none_left, at_end}
use Rattle.gate_memory.proofs.hub.MemHubHub.next.Goals as goal

pub returns-clause-leads : goal.returns-clause-leads
returns-clause-leads c =
    let same = c.self-2.view_is ∙ c.loop-self.invariant.same in
    leads_stopped c.args.self.now (record (the_view c.self-2.inside) { last_event = Some event.Stopped }) (ap (λ h. h.sessions) same) (ap (λ h. h.started) same) refl (ap (λ h. h.events) same)
    (λ p. let q : AreHubBytes (the_view c.self-2.inside) = subst AreHubBytes (sym c.self-2.view_is) (c.loop-self.invariant.bytes p) in record { steps = q.steps; sessions = q.sessions })

pub returns-clause-exact : goal.returns-clause-exact
returns-clause-exact c =
    passes_end c.args.self.now (the_view c.self-2.inside) _ (subst (λ (h : HubState). Passes c.args.self.now h) (sym c.self-2.view_is) c.loop-self.invariant)
    (none_left (the_view c.self.inside) (the_view c.self-2.inside) c.loop-self.self c.self.inside.steps c.self.inside.place c.self.view_is c.self-2.view_is refl (omega (arith, ap length c.as_slice.ensures, c.loop-self-test.false))) refl

pub invariant_of-self : goal.invariant_of-self
invariant_of-self c =
    let none = none_left (the_view c.self.inside) (the_view c.self-2.inside) c.loop-self.self c.self.inside.steps c.self.inside.place c.self.view_is c.self-2.view_is refl (omega (arith, ap length c.as_slice.ensures, c.loop-self-test.false)) in
    (c.self-2.invariant.0, c.self-2.invariant.1, (λ stopped. at_end c.self-2.inside.steps c.self-2.inside.place c.self-2.invariant.0 none))

pub returns-in-Event-clause-exact : goal.returns-in-Event-clause-exact
returns-in-Event-clause-exact c = passes_event c.args.self.now c.loop-self.self c.step.new.self c.in-Event.event c.loop-self.invariant c.in-Event.ensures.exact

pub returns-in-Event-clause-leads : goal.returns-in-Event-clause-leads
returns-in-Event-clause-leads c = λ m tells can. c.in-Event.ensures.steps.1 m (passes_tells c.args.self.now c.loop-self.self m c.loop-self.invariant tells) can

use Rattle.std.proofs.Common.{true, refl, sym, ap, ◌∙◌, subst}
use Rattle.gate_memory.specs.FanPorts.{SessionState, NoPortFell, told_of}
use Rattle.gate_memory.specs.Fan.{FanState, ArePortsBytes, targets_of, is_open_at}
use Rattle.gate_memory.specs.contracts.fan.MemFan.{the_view}
use Rattle.gate_memory.proofs.FanSessions.{one_changed, leads_one, later_one, with_session, closes_keeps, open_within, have_closed, close_done}
use Rattle.gate_memory.proofs.fan.MemFanFan.close.Goals as goal

pub returns-then-is_open-clause-leads : goal.returns-then-is_open-clause-leads
returns-then-is_open-clause-leads c =
    let s = c.index_mut.result.now in
    let s' = c.close.new.self in
    let within = open_within c.args.self.now.sessions c.args.k (sym c.is_open.ensures ∙ c.if-is_open.true) in
    leads_one _ _ _ c.args.k s s' _ _ (one_changed _ _ _ c.args.k s s' c.self.view_is within c.index_mut.ensures.value refl refl refl refl refl refl refl) (λ p. subst (λ (x : SessionState). ArePortsBytes x.ports) (sym c.close.ensures) p) (ap told_of c.close.ensures)

pub returns-then-is_open-clause-later : goal.returns-then-is_open-clause-later
returns-then-is_open-clause-later c =
    let s = c.index_mut.result.now in
    let s' = c.close.new.self in
    let within = open_within c.args.self.now.sessions c.args.k (sym c.is_open.ensures ∙ c.if-is_open.true) in
    later_one c.args.k s s' _ (with_session (the_view c.self.inside) c.args.k s')
    (one_changed _ _ (with_session (the_view c.self.inside) c.args.k s') c.args.k s s' c.self.view_is within c.index_mut.ensures.value refl refl refl refl refl refl refl) (subst (λ x. NoPortFell s x) (sym c.close.ensures) (closes_keeps s))

pub invariant_of-self : goal.invariant_of-self
invariant_of-self c =
    let within = open_within c.self.inside.sessions.items c.args.k (ap (λ (f : FanState). is_open_at f.sessions c.args.k) c.self.view_is ∙ (sym c.is_open.ensures ∙ c.if-is_open.true)) in
    (c.self.invariant.0, c.self.invariant.1, c.self.invariant.2, have_closed (targets_of (the_view c.self.inside)) c.args.k c.self.inside.sessions.items c.index_mut.result.now c.close.new.self within c.index_mut.ensures.value c.close.ensures c.self.invariant.3)

pub returns-then-is_open-clause-exact : goal.returns-then-is_open-clause-exact
returns-then-is_open-clause-exact c = close_done (the_view c.self.inside) _ _ c.args.k c.index_mut.result.now c.close.new.self c.self.view_is (sym c.is_open.ensures ∙ c.if-is_open.true) c.index_mut.ensures.value c.close.ensures refl

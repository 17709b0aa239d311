use Rattle.std.proofs.Common.{◌≡◌, ◌<◌, length, true≢false, arith, refl, ap, sym, ◌∙◌, subst}
use Rattle.gate_memory.specs.Fan.{FanState, targets_of, has_port_at, HavePorts}
use Rattle.gate_memory.specs.contracts.fan.MemFan.{the_view}
use Rattle.gate_memory.proofs.Bytes.{read_bytes}
use Rattle.gate_memory.proofs.FanBytes.{port_bytes}
use Rattle.gate_memory.proofs.FanSessions.{one_changed, leads_one, later_one, faults_rose, waits_rose, with_session, read_at_port, read_fault, read_wait, port_there, there_within, has_port_of, have_port_done, read_done}
use Rattle.gate_memory.proofs.fan.MemFanFan.read.Goals as goal

pub returns-then-not-has_port-clause-leads : goal.returns-then-not-has_port-clause-leads
returns-then-not-has_port-clause-leads c = λ m tells can.
    let all = subst (λ (f : FanState). HavePorts (targets_of f) f.sessions) c.self.view_is c.self.invariant.3 in
    absurd (true≢false (sym (port_there (targets_of c.args.self.now) c.args.self.now.sessions c.args.k c.args.port m all (tells.session c.args.k) can) ∙ (sym c.has_port.ensures ∙ c.if-not-has_port.true)))

pub read-requires-clause-port : goal.read-requires-clause-port
read-requires-clause-port c = has_port_of c.self.inside.sessions.items c.args.k c.args.port c.index_mut.result.now c.index_mut.ensures.value (ap (λ (f : FanState). has_port_at f.sessions c.args.k c.args.port) c.self.view_is ∙ (sym c.has_port.ensures ∙ c.if-not-has_port.false))

pub returns-clause-leads : goal.returns-clause-leads
returns-clause-leads c =
    let s = c.index_mut.result.now in
    let s' = c.read.new.self in
    let within = there_within c.args.self.now.sessions c.args.k c.args.port (sym c.has_port.ensures ∙ c.if-not-has_port.false) in
    leads_one _ _ _ c.args.k s s' _ _ (one_changed _ _ _ c.args.k s s' c.self.view_is within c.index_mut.ensures.value refl refl refl refl refl refl refl) (port_bytes c.args.port _ s s' (read_bytes _ _ _) c.read.ensures.exact) (read_at_port c.args.port _ _ _ s s' c.read.ensures.exact)

pub returns-clause-later : goal.returns-clause-later
returns-clause-later c =
    let s = c.index_mut.result.now in
    let s' = c.read.new.self in
    let within = there_within c.args.self.now.sessions c.args.k c.args.port (sym c.has_port.ensures ∙ c.if-not-has_port.false) in
    later_one c.args.k s s' _ (with_session (the_view c.self.inside) c.args.k s') (one_changed _ _ (with_session (the_view c.self.inside) c.args.k s') c.args.k s s' c.self.view_is within c.index_mut.ensures.value refl refl refl refl refl refl refl) c.read.ensures.later

pub returns-clause-cause : goal.returns-clause-cause
returns-clause-cause c = λ failed.
    let s = c.index_mut.result.now in
    let s' = c.read.new.self in
    let within = there_within c.args.self.now.sessions c.args.k c.args.port (sym c.has_port.ensures ∙ c.if-not-has_port.false) in
    faults_rose c.args.k c.args.port s s' _ (with_session (the_view c.self.inside) c.args.k s') (one_changed _ _ (with_session (the_view c.self.inside) c.args.k s') c.args.k s s' c.self.view_is within c.index_mut.ensures.value refl refl refl refl refl refl refl) (read_fault c.args.port _ _ _ s s' c.read.ensures.exact failed)

pub returns-clause-wait : goal.returns-clause-wait
returns-clause-wait c = λ waits.
    let s = c.index_mut.result.now in
    let s' = c.read.new.self in
    let within = there_within c.args.self.now.sessions c.args.k c.args.port (sym c.has_port.ensures ∙ c.if-not-has_port.false) in
    waits_rose c.args.k c.args.port s s' _ (with_session (the_view c.self.inside) c.args.k s') (one_changed _ _ (with_session (the_view c.self.inside) c.args.k s') c.args.k s s' c.self.view_is within c.index_mut.ensures.value refl refl refl refl refl refl refl) (read_wait c.args.port _ _ _ s s' c.read.ensures.exact waits)

pub index_mut-requires : goal.index_mut-requires
index_mut-requires c =
    let within = there_within c.self.inside.sessions.items c.args.k c.args.port (ap (λ (f : FanState). has_port_at f.sessions c.args.k c.args.port) c.self.view_is ∙ (sym c.has_port.ensures ∙ c.if-not-has_port.false)) in
    omega (arith, within, c.self.inside.sessions.ok.0)

pub invariant_of-self : goal.invariant_of-self
invariant_of-self c =
    let within = there_within c.self.inside.sessions.items c.args.k c.args.port (ap (λ (f : FanState). has_port_at f.sessions c.args.k c.args.port) c.self.view_is ∙ (sym c.has_port.ensures ∙ c.if-not-has_port.false)) in
    (c.self.invariant.0, c.self.invariant.1, c.self.invariant.2, have_port_done (targets_of (the_view c.self.inside)) c.args.k c.args.port _ c.self.inside.sessions.items c.index_mut.result.now c.read.new.self within c.index_mut.ensures.value c.read.ensures.exact c.self.invariant.3)

pub returns-clause-exact : goal.returns-clause-exact
returns-clause-exact c = read_done (the_view c.self.inside) _ _ c.args.k c.args.port c.read.new.into c.read.result c.index_mut.result.now c.read.new.self c.self.view_is (sym c.has_port.ensures ∙ c.if-not-has_port.false) c.index_mut.ensures.value c.read.ensures.exact refl

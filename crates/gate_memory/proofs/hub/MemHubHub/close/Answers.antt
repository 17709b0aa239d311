use Rattle.std.proofs.Common.{true, refl, sym, ◌∙◌}
use Rattle.gate_memory.specs.contracts.hub.MemHub.{the_view}
use Rattle.gate_memory.proofs.Sessions.{one_changed, leads_one, later_one, with_session, closes_keeps}
use Rattle.gate_memory.proofs.hub.MemHubHub.close.Goals as goal

pub returns-then-is_open-clause-leads : goal.returns-then-is_open-clause-leads
returns-then-is_open-clause-leads c = leads_one _ _ c.args.k c.index_mut.result.now (record c.index_mut.result.now { closed = true }) _ _
    (one_changed _ _ _ c.args.k c.index_mut.result.now (record c.index_mut.result.now { closed = true }) c.self.view_is (sym c.is_open.ensures ∙ c.if-is_open.true) c.index_mut.ensures.value refl refl refl refl refl refl refl) (λ p. p) refl

pub returns-then-is_open-clause-later : goal.returns-then-is_open-clause-later
returns-then-is_open-clause-later c = later_one c.args.k c.index_mut.result.now (record c.index_mut.result.now { closed = true }) _ (with_session (the_view c.self.inside) c.args.k (record c.index_mut.result.now { closed = true }))
    (one_changed _ _ (with_session (the_view c.self.inside) c.args.k (record c.index_mut.result.now { closed = true })) c.args.k c.index_mut.result.now (record c.index_mut.result.now { closed = true }) c.self.view_is (sym c.is_open.ensures ∙ c.if-is_open.true) c.index_mut.ensures.value refl refl refl refl refl refl refl) (closes_keeps c.index_mut.result.now)

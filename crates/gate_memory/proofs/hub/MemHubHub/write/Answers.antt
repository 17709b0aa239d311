use Rattle.std.proofs.Common.{refl, sym, ◌∙◌}
use Rattle.gate_memory.specs.contracts.hub.MemHub.{the_view}
use Rattle.gate_memory.proofs.Bytes.{side_bytes, write_bytes}
use Rattle.gate_memory.proofs.Sessions.{one_changed, leads_one, later_one, faults_rose, waits_rose, with_session}
use Rattle.gate_memory.proofs.hub.MemHubHub.write.Goals as goal

pub returns-clause-leads : goal.returns-clause-leads
returns-clause-leads c = leads_one _ _ c.args.k c.index_mut.result.now c.write.new.self _ _
    (one_changed _ _ _ c.args.k c.index_mut.result.now c.write.new.self c.self.view_is (sym c.is_open.ensures ∙ c.if-not-is_open.false) c.index_mut.ensures.value refl refl refl refl refl refl refl) (side_bytes _ c.args.side c.index_mut.result.now c.write.new.self (write_bytes _ _ _ _ _) c.write.ensures.exact) c.write.ensures.told

pub returns-clause-later : goal.returns-clause-later
returns-clause-later c = later_one c.args.k c.index_mut.result.now c.write.new.self _ (with_session (the_view c.self.inside) c.args.k c.write.new.self)
    (one_changed _ _ (with_session (the_view c.self.inside) c.args.k c.write.new.self) c.args.k c.index_mut.result.now c.write.new.self c.self.view_is (sym c.is_open.ensures ∙ c.if-not-is_open.false) c.index_mut.ensures.value refl refl refl refl refl refl refl) c.write.ensures.later

pub returns-clause-cause : goal.returns-clause-cause
returns-clause-cause c = λ failed. faults_rose c.args.k c.args.side c.index_mut.result.now c.write.new.self _ (with_session (the_view c.self.inside) c.args.k c.write.new.self)
    (one_changed _ _ (with_session (the_view c.self.inside) c.args.k c.write.new.self) c.args.k c.index_mut.result.now c.write.new.self c.self.view_is (sym c.is_open.ensures ∙ c.if-not-is_open.false) c.index_mut.ensures.value refl refl refl refl refl refl refl) (c.write.ensures.cause failed)

pub returns-clause-wait : goal.returns-clause-wait
returns-clause-wait c = λ waits. waits_rose c.args.k c.args.side c.index_mut.result.now c.write.new.self _ (with_session (the_view c.self.inside) c.args.k c.write.new.self)
    (one_changed _ _ (with_session (the_view c.self.inside) c.args.k c.write.new.self) c.args.k c.index_mut.result.now c.write.new.self c.self.view_is (sym c.is_open.ensures ∙ c.if-not-is_open.false) c.index_mut.ensures.value refl refl refl refl refl refl refl) (c.write.ensures.wait waits)

use Rattle.std.proofs.Common.{rules, ◌≡◌, map, ap, ◌∙◌, sym, Err}
use Rattle.std.specs.Vec.{with_item}
use Rattle.std.proofs.lemmas.List.{with_items_is, places}
use Rattle.gate_memory.specs.Link.{changed_by, unasked_link}
use Rattle.gate_memory.specs.FanPorts.{SessionState, has_port}
use Rattle.gate_memory.specs.contracts.fan_session.FanSession.{the_view}
use Rattle.gate_memory.proofs.FanEvents.{perform_refused, perform_done, perform_over, on_error}
use Rattle.gate_memory.proofs.FanSessions.{port_within}
use Rattle.gate_memory.proofs.fan_session.FanSession.perform.Goals as goal

pub returns-in_err-passed-clause-err : goal.returns-in_err-passed-clause-err
returns-in_err-passed-clause-err c =
    let is : c.from_residual.result ≡ Err c.in_err-passed.field-0.0 = search rules in
    let within = port_within (the_view c.self.inside) c.args.port (ap (λ (s : SessionState). has_port s c.args.port) c.self.view_is ∙ c.requires.port) in
    on_error c.from_residual.result c.in_err-passed.field-0.0 _ is (perform_refused (the_view c.self.inside) c.args.self.now c.args.port (changed_by c.args.change) c.index_mut.result.now c.perform.new.self _ c.self.view_is within c.index_mut.ensures.value c.in_err-passed.ensures.err)

pub returns-in-Performed-clause-done : goal.returns-in-Performed-clause-done
returns-in-Performed-clause-done c =
    let within = port_within (the_view c.self.inside) c.args.port (ap (λ (s : SessionState). has_port s c.args.port) c.self.view_is ∙ c.requires.port) in
    perform_done (the_view c.self.inside) c.args.self.now c.args.port (changed_by c.args.change) c.index_mut.result.now c.perform.new.self _ c.in_ok-passed.passed c.self.view_is within c.index_mut.ensures.value c.in-Performed.is c.in_ok-passed.ensures.done
    (with_items_is (with_item c.self.inside.ports c.args.port c.perform.new.self) c.forget_answers.new.ports (search (rules, places)) ∙ (c.forget_answers.ensures ∙ ap (map unasked_link) c.deref_mut.ensures.value))

pub returns-in_default-clause-done : goal.returns-in_default-clause-done
returns-in_default-clause-done c =
    let within = port_within (the_view c.self.inside) c.args.port (ap (λ (s : SessionState). has_port s c.args.port) c.self.view_is ∙ c.requires.port) in
    perform_over (the_view c.self.inside) c.args.self.now c.args.port (changed_by c.args.change) c.index_mut.result.now c.perform.new.self c.in_ok-passed.passed c.self.view_is within c.index_mut.ensures.value (search rules) c.in_ok-passed.ensures.done

use Rattle.std.proofs.Common.{rules, ◌≡◌, length, Err, subst, sym, refl, ap, ◌∙◌, arith}
use Rattle.gate_io.proofs.Streams.{appends_none}
use Rattle.route_server.specs.Serving.{HaveTargets}
use Rattle.route_server.specs.Working.{Waits}
use Rattle.route_server.specs.Steps.{outside, setting_of, Goes}
use Rattle.route_server.proofs.Running.{later_on, later_not}
use Rattle.route_server.proofs.Calls.{chained, goes_quietly, at_budget, stays_so}
use Rattle.route_server.proofs.server.Server.attend.Goals as goal

pub serving-init : goal.serving-init
serving-init g c =
    let tells = g.M.Fan.tells in
    let moment = outside tells g.M.Fan.counts g.O.Sink.written g.O.Sink.faults in
    let set = setting_of c.args.self.now.terms in
    let held = c.args.self.now.sessions.items in
    let spent = c.args.self.now.spent in
    let now = moment c.args.fan.now c.args.output.now in
    record {
      terms = refl;
      room = refl;
      goes = (tt, goes_quietly set (g.L.RefusalLines.text c.args.lines.now) now now (λ begun. Waits set begun spent held) spent held _ (appends_none _) (λ begun past. stays_so (tells c.args.fan.now) (Waits set begun spent held past) (Waits set begun spent held past) (λ m s. s)));
      budget = c.requires.budget;
      later = later_not _;
      output_later = omega arith;
      stays = refl;
      served = c.requires.served;
    }

pub serving-preserved : goal.serving-preserved
serving-preserved g c =
    let tells = g.M.Fan.tells in
    let moment = outside tells g.M.Fan.counts g.O.Sink.written g.O.Sink.faults in
    let text = g.L.RefusalLines.text c.args.lines.now in
    let set = setting_of c.args.self.now.terms in
    let i = c.serving.invariant in
    let before = moment c.args.fan.now c.args.output.now in
    let mid = moment c.serving.fan c.serving.output in
    let after = moment c.step.new.fan c.step.new.output in
    let old = c.args.self.now in
    let held = c.serving.self.sessions.items in
    let spent = c.serving.self.spent in
    let new = c.step.new.self in
    let went = subst (λ r. Goes set text mid after (λ begun. Waits set begun spent held) new.spent new.sessions.items r) c.in-Ok.is
    (subst (λ t. Goes (setting_of t) text mid after (λ begun. Waits (setting_of t) begun spent held) new.spent new.sessions.items c.step.result) i.terms c.step.ensures.goes) in
    record {
      terms = c.step.ensures.carried.0 ∙ i.terms;
      room = c.step.ensures.carried.1 ∙ i.room;
      goes = (_, chained set text before mid after i.goes.0 old.spent spent new.spent old.sessions.items held new.sessions.items _ i.later c.step.ensures.later i.goes.1 went);
      budget = omega (arith, c.step.ensures.carried.3, ap (λ l. l.events) i.terms);
      later = later_on _ _ _ i.later c.step.ensures.later;
      output_later = omega (arith, i.output_later, c.step.ensures.output_later);
      stays = c.step.ensures.targets ∙ i.stays;
      served = subst (λ n. HaveTargets n new.sessions.items) i.stays c.step.ensures.served;
    }

pub returns-in-Err-clause-goes : goal.returns-in-Err-clause-goes
returns-in-Err-clause-goes g c =
    let tells = g.M.Fan.tells in
    let moment = outside tells g.M.Fan.counts g.O.Sink.written g.O.Sink.faults in
    let text = g.L.RefusalLines.text c.args.lines.now in
    let set = setting_of c.args.self.now.terms in
    let i = c.serving.invariant in
    let before = moment c.args.fan.now c.args.output.now in
    let mid = moment c.serving.fan c.serving.output in
    let after = moment c.step.new.fan c.step.new.output in
    let old = c.args.self.now in
    let held = c.serving.self.sessions.items in
    let spent = c.serving.self.spent in
    let new = c.step.new.self in
    let went = subst (λ t. Goes (setting_of t) text mid after (λ begun. Waits (setting_of t) begun spent held) new.spent new.sessions.items (Err c.in-Err.ending)) i.terms c.in-Err.ensures.goes in
    chained set text before mid after i.goes.0 old.spent spent new.spent old.sessions.items held new.sessions.items (Err c.in-Err.ending) i.later c.step.ensures.later i.goes.1 went

pub returns-clause-goes : goal.returns-clause-goes
returns-clause-goes g c =
    let moment = outside g.M.Fan.tells g.M.Fan.counts g.O.Sink.written g.O.Sink.faults in
    let set = setting_of c.args.self.now.terms in
    let i = c.serving.invariant in
    let all : c.len.result ≡ length c.serving.self.sessions.items = search rules in
    at_budget set (g.L.RefusalLines.text c.args.lines.now) (moment c.args.fan.now c.args.output.now) (moment c.serving.fan c.serving.output) i.goes.0 c.args.self.now.spent c.serving.self.spent c.len.result c.args.self.now.sessions.items c.serving.self.sessions.items all i.goes.1

pub step-requires-clause-targets : goal.step-requires-clause-targets
step-requires-clause-targets g c =
    let i = c.serving.invariant in
    ap (λ t. length t.targets.now) i.terms ∙ (c.requires.targets ∙ sym i.stays)

pub step-requires-clause-served : goal.step-requires-clause-served
step-requires-clause-served g c =
    let i = c.serving.invariant in
    subst (λ n. HaveTargets n c.serving.self.sessions.items) (sym i.stays) i.served

pub returns-in-Err-clause-served : goal.returns-in-Err-clause-served
returns-in-Err-clause-served g c = subst (λ n. HaveTargets n c.step.new.self.sessions.items) c.serving.invariant.stays c.step.ensures.served

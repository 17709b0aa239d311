use Rattle.std.proofs.Common.{◌⊎◌, inl, inr, length, sym, ap, ◌∙◌, subst, Err}
use Rattle.gate_io.specs.declared.writing.Wrote.TheVariants as wrote
use Rattle.route_server.specs.Serving.{SpendsBy}
use Rattle.route_server.specs.Working.{Waits}
use Rattle.route_server.specs.Steps.{Serves, Goes, outside, setting_by, setting_of, served_by}
use Rattle.route_server.proofs.Places.{targets_none}
use Rattle.route_server.proofs.Calls.{serves_parts, serves_none}
use Rattle.route_server.proofs.serving.route_serve.Goals as goal

either : {A B C : Type 0} → (A → B) → A ⊎ C → B ⊎ C
either f (inl a) = inl (f a)
either f (inr c) = inr c

pub returns-in_default-clause-serves : goal.returns-in_default-clause-serves
returns-in_default-clause-serves g c = serves_none (setting_by c.args.setup.now c.args.targets.now c.args.sessions c.args.events) (g.L.RefusalLines.text c.args.lines.now) (outside g.M.Fan.tells g.M.Fan.counts g.O.Sink.written g.O.Sink.faults c.args.fan.now c.args.output.now)

pub returns-clause-serves : goal.returns-clause-serves
returns-clause-serves g c =
    let written = g.O.Sink.written in
    let moment = outside g.M.Fan.tells g.M.Fan.counts written g.O.Sink.faults in
    let set = setting_by c.args.setup.now c.args.targets.now c.args.sessions c.args.events in
    let text = g.L.RefusalLines.text c.args.lines.now in
    let a = c.attend-ending in
    let l = c.leave-wrote in
    let first = c.in-Some.server.sessions.items in
    let held = a.new.self.sessions.items in
    let before = moment c.args.fan.now c.args.output.now in
    let mid = moment a.new.fan a.new.output in
    let after = moment l.new.fan l.new.output in
    subst (λ r. Serves set text before after r) (sym c.served.ensures)
    (serves_parts set text a.result l.result before mid after c.in-Some.server.spent a.new.self.spent first held (record {
      none_before = c.in-Some.ensures.empty.1;
      none_spent = c.in-Some.ensures.empty.3;
      work = subst (λ t. Goes (setting_of t) text before mid (λ begun. Waits (setting_of t) begun c.in-Some.server.spent first) a.new.self.spent held (Err a.result)) c.in-Some.ensures.empty.0 a.ensures.goes;
      spends = subst (λ t. SpendsBy (served_by a.result wrote.All) a.new.self.spent t.events) c.in-Some.ensures.empty.0 a.ensures.spends;
      lines = λ e. l.ensures.lines (c.written_so_far.ensures ∙ e);
      no_lines = λ e. ((l.ensures.none (c.written_so_far.ensures ∙ e)).0, ap written (l.ensures.none (c.written_so_far.ensures ∙ e)).1);
      leaves = λ m past busy last calls. l.ensures.keeps set m a.new.self.spent past busy last calls;
      fault = λ e. a.ensures.cause e;
      unwritten = λ at e. a.ensures.unwritten at e;
      cause = λ f. either (λ e. sym c.written_so_far.ensures ∙ e) (l.ensures.cause f);
      later = a.ensures.output_later;
      later_still = l.ensures.output_later;
      counts_later = l.ensures.later;
    }))

pub attend-ending-requires-clause-targets : goal.attend-ending-requires-clause-targets
attend-ending-requires-clause-targets g c = ap (λ t. length t.targets.now) c.in-Some.ensures.empty.0 ∙ sym c.requires.targets

pub attend-ending-requires-clause-served : goal.attend-ending-requires-clause-served
attend-ending-requires-clause-served g c = targets_none _ c.in-Some.server.sessions.items c.in-Some.ensures.empty.1

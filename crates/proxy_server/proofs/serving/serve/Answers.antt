use Rattle.std.proofs.Common.{◌⊎◌, inl, inr, sym, ap, ◌∙◌, subst, Err}
use Rattle.gate_io.specs.declared.writing.Wrote.TheVariants as wrote
use Rattle.proxy_server.specs.Serving.{SpendsBy}
use Rattle.proxy_server.specs.Working.{Waits}
use Rattle.proxy_server.specs.Steps.{Serves, Goes, outside, setting_of, served_by}
use Rattle.proxy_server.proofs.Calls.{serves_parts, serves_none}
use Rattle.proxy_server.proofs.serving.serve.Goals as goal

either : {A B C : Type 0} → (A → B) → A ⊎ C → B ⊎ C
either f (inl a) = inl (f a)
either f (inr c) = inr c

pub returns-in_default-clause-serves : goal.returns-in_default-clause-serves
returns-in_default-clause-serves g c = serves_none _ g.J.Judge.rules (setting_of (g.P.Judges.rules c.args.judges.now) c.args.limits) (g.L.RefusalLines.text c.args.lines.now) (outside g.H.Hub.tells g.H.Hub.counts g.O.Sink.written g.O.Sink.faults c.args.hub.now c.args.output.now)

pub returns-clause-serves : goal.returns-clause-serves
returns-clause-serves g c =
    let written = g.O.Sink.written in
    let moment = outside g.H.Hub.tells g.H.Hub.counts written g.O.Sink.faults in
    let rules = g.J.Judge.rules in
    let judged = g.P.Judges.rules c.args.judges.now in
    let set = setting_of judged c.args.limits in
    let text = g.L.RefusalLines.text c.args.lines.now in
    let a = c.attend-ending in
    let l = c.leave-wrote in
    let first = c.in-Some.server.sessions.items in
    let held = a.new.self.sessions.items in
    let before = moment c.args.hub.now c.args.output.now in
    let mid = moment a.new.hub a.new.output in
    let after = moment l.new.hub l.new.output in
    subst (λ r. Serves _ rules set text before after r) (sym c.served.ensures)
    (serves_parts _ rules set text a.result l.result before mid after c.in-Some.server.spent a.new.self.spent first held (record {
      none_before = c.in-Some.ensures.empty.1;
      none_spent = c.in-Some.ensures.empty.3;
      work = subst (λ limits. Goes _ rules (setting_of judged limits) text before mid (λ begun. Waits _ rules (setting_of judged limits) begun c.in-Some.server.spent first) a.new.self.spent held (Err a.result)) c.in-Some.ensures.empty.0 a.ensures.goes;
      spends = subst (λ limits. SpendsBy (served_by a.result wrote.All) a.new.self.spent limits.events) c.in-Some.ensures.empty.0 a.ensures.spends;
      lines = λ e. l.ensures.lines (c.written_so_far.ensures ∙ e);
      no_lines = λ e. ((l.ensures.none (c.written_so_far.ensures ∙ e)).0, ap written (l.ensures.none (c.written_so_far.ensures ∙ e)).1);
      leaves = λ m past busy last calls. l.ensures.keeps set m a.new.self.spent past busy last calls;
      fault = λ e. a.ensures.cause e;
      unwritten = λ at e. a.ensures.unwritten at e;
      cause = λ f. either (λ e. sym c.written_so_far.ensures ∙ e) (l.ensures.cause f);
      later = a.ensures.output_later;
      later_still = l.ensures.output_later;
      counts_later = l.ensures.later;
    }))

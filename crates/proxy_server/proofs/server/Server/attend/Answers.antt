use Rattle.std.proofs.Common.{rules, ◌≡◌, length, Err, subst, refl, ap, ◌∙◌, arith}
use Rattle.gate_io.proofs.Streams.{appends_none}
use Rattle.proxy_server.specs.Working.{Waits}
use Rattle.proxy_server.specs.Steps.{outside, setting_of, Goes}
use Rattle.proxy_server.proofs.Running.{later_on, later_not}
use Rattle.proxy_server.proofs.Calls.{chained, goes_quietly, at_budget, stays_so}
use Rattle.proxy_server.proofs.server.Server.attend.Goals as goal

pub serving-init : goal.serving-init
serving-init g c =
    let tells = g.H.Hub.tells in
    let judged = g.J.Judge.rules in
    let moment = outside tells g.H.Hub.counts g.O.Sink.written g.O.Sink.faults in
    let set = setting_of (g.P.Judges.rules c.args.judges.now) c.args.self.now.limits in
    let held = c.args.self.now.sessions.items in
    let spent = c.args.self.now.spent in
    let now = moment c.args.hub.now c.args.output.now in
    record {
      limits = refl;
      room = refl;
      goes = (tt, goes_quietly _ judged set (g.L.RefusalLines.text c.args.lines.now) now now (λ begun. Waits _ judged set begun spent held) spent held _ (appends_none _) (λ begun past. stays_so (tells c.args.hub.now) (Waits _ judged set begun spent held past) (Waits _ judged set begun spent held past) (λ m s. s)));
      budget = c.requires.budget;
      later = later_not _;
      output_later = omega arith;
      stays = refl;
      piece = search rules;
    }

pub serving-preserved : goal.serving-preserved
serving-preserved g c =
    let tells = g.H.Hub.tells in
    let judged = g.J.Judge.rules in
    let moment = outside tells g.H.Hub.counts g.O.Sink.written g.O.Sink.faults in
    let own = g.P.Judges.rules c.args.judges.now in
    let text = g.L.RefusalLines.text c.args.lines.now in
    let set = setting_of own c.args.self.now.limits in
    let i = c.serving.invariant in
    let before = moment c.args.hub.now c.args.output.now in
    let mid = moment c.serving.hub c.serving.output in
    let after = moment c.step.new.hub c.step.new.output in
    let old = c.args.self.now in
    let held = c.serving.self.sessions.items in
    let spent = c.serving.self.spent in
    let new = c.step.new.self in
    let went = subst (λ r. Goes _ judged set text mid after (λ begun. Waits _ judged set begun spent held) new.spent new.sessions.items r) c.in-Ok.is
    (subst (λ lims. Goes _ judged (setting_of own lims) text mid after (λ begun. Waits _ judged (setting_of own lims) begun spent held) new.spent new.sessions.items c.step.result) i.limits c.step.ensures.goes) in
    record {
      limits = c.step.ensures.carried.0 ∙ i.limits;
      room = c.step.ensures.carried.1 ∙ i.room;
      goes = (_, chained _ judged set text before mid after i.goes.0 old.spent spent new.spent old.sessions.items held new.sessions.items _ i.later c.step.ensures.later i.goes.1 went);
      budget = omega (arith, c.step.ensures.carried.3, ap (λ l. l.events) i.limits);
      later = later_on _ _ _ i.later c.step.ensures.later;
      output_later = omega (arith, i.output_later, c.step.ensures.output_later);
      stays = c.step.ensures.kept ∙ i.stays;
      piece = c.step.ensures.piece;
    }

pub returns-in-Err-clause-goes : goal.returns-in-Err-clause-goes
returns-in-Err-clause-goes g c =
    let tells = g.H.Hub.tells in
    let judged = g.J.Judge.rules in
    let moment = outside tells g.H.Hub.counts g.O.Sink.written g.O.Sink.faults in
    let own = g.P.Judges.rules c.args.judges.now in
    let text = g.L.RefusalLines.text c.args.lines.now in
    let set = setting_of own c.args.self.now.limits in
    let i = c.serving.invariant in
    let before = moment c.args.hub.now c.args.output.now in
    let mid = moment c.serving.hub c.serving.output in
    let after = moment c.step.new.hub c.step.new.output in
    let old = c.args.self.now in
    let held = c.serving.self.sessions.items in
    let spent = c.serving.self.spent in
    let new = c.step.new.self in
    let went = subst (λ lims. Goes _ judged (setting_of own lims) text mid after (λ begun. Waits _ judged (setting_of own lims) begun spent held) new.spent new.sessions.items (Err c.in-Err.ending)) i.limits c.in-Err.ensures.goes in
    chained _ judged set text before mid after i.goes.0 old.spent spent new.spent old.sessions.items held new.sessions.items (Err c.in-Err.ending) i.later c.step.ensures.later i.goes.1 went

pub returns-clause-goes : goal.returns-clause-goes
returns-clause-goes g c =
    let moment = outside g.H.Hub.tells g.H.Hub.counts g.O.Sink.written g.O.Sink.faults in
    let set = setting_of (g.P.Judges.rules c.args.judges.now) c.args.self.now.limits in
    let i = c.serving.invariant in
    let all : c.len.result ≡ length c.serving.self.sessions.items = search rules in
    at_budget _ g.J.Judge.rules set (g.L.RefusalLines.text c.args.lines.now) (moment c.args.hub.now c.args.output.now) (moment c.serving.hub c.serving.output) i.goes.0 c.args.self.now.spent c.serving.self.spent c.len.result c.args.self.now.sessions.items c.serving.self.sessions.items all i.goes.1

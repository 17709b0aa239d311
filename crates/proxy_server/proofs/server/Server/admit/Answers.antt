use Rattle.std.proofs.Common.{rules, ◌≡◌, ◌++◌, ◌∷◌, [], length, subst, sym, refl, ap, arith}
use Rattle.proxy_server.specs.Serving.{Entry}
use Rattle.proxy_server.specs.Working.{Awaits, IsBusy}
use Rattle.proxy_server.specs.Steps.{outside, setting_of, Goes}
use Rattle.proxy_server.proofs.Running.{later_not}
use Rattle.proxy_server.proofs.Standing.{opens_busy}
use Rattle.proxy_server.proofs.Calls.{goes_after, stays_so}
use Rattle.proxy_server.proofs.server.Server.admit.Goals as goal

pub returns-in-Some-clause-goes : goal.returns-in-Some-clause-goes
returns-in-Some-clause-goes g c =
    let tells = g.H.Hub.tells in
    let judge_rules = g.J.Judge.rules in
    let held = c.args.self.now.sessions.items in
    let spent = c.args.self.now.spent in
    let k = c.args.number in
    let at = c.in-Some.at in
    let set = setting_of (g.P.Judges.rules c.args.judges.now) c.args.self.now.limits in
    let some = c.in-Some.ensures.some in
    let given = c.in-Ok.ensures.given in
    let e : Entry _ = record { number = k; session = c.in-Ok.session } in
    let count : c.len.result ≡ length held = search rules in
    let held' = c.hold.new.self.sessions.items in
    let moment = outside tells g.H.Hub.counts g.O.Sink.written g.O.Sink.faults in
    let now = moment c.args.hub.now c.args.output.now in
    let text = g.L.RefusalLines.text c.args.lines.now in
    goes_after _ judge_rules set text now now (moment c.settle.new.hub c.settle.new.output) (λ begun. Awaits _ judge_rules set begun spent k held) (λ begun. IsBusy _ judge_rules set begun c.hold.new.self.spent at held') c.settle.new.self.spent c.settle.new.self.sessions.items c.settle.result refl (later_not _)
    (λ begun past. stays_so (tells c.args.hub.now) (Awaits _ judge_rules set begun spent k held past) (IsBusy _ judge_rules set begun c.hold.new.self.spent at held' past)
    (λ m a. subst (λ n. IsBusy _ judge_rules set begun n at held' past m) (sym c.hold.ensures.same.2)
    (subst (λ xs. IsBusy _ judge_rules set begun spent at xs past m) (sym some.1)
    (subst (λ j. IsBusy _ judge_rules set begun spent j (held ++ e ∷ []) past m) (sym some.0)
    (opens_busy _ judge_rules set begun spent held past e m a given.0 given.1 given.2 c.in-Ok.ensures.matches c.in-Ok.ensures.rooms c.in-Ok.ensures.holds c.in-Ok.ensures.going (omega (arith, count, c.if-len-self.false)))))))
    (c.settle.ensures.goes set)

pub returns-then-len-self-clause-goes : goal.returns-then-len-self-clause-goes
returns-then-len-self-clause-goes g c =
    let set = setting_of (g.P.Judges.rules c.args.judges.now) c.args.self.now.limits in
    c.refuse.ensures.goes set (g.L.RefusalLines.text c.args.lines.now) refl

pub returns-in_default-clause-goes : goal.returns-in_default-clause-goes
returns-in_default-clause-goes g c =
    let set = setting_of (g.P.Judges.rules c.args.judges.now) c.args.self.now.limits in
    c.refuse-in_default.ensures.goes set (g.L.RefusalLines.text c.args.lines.now) refl

pub returns-in-None-clause-goes : goal.returns-in-None-clause-goes
returns-in-None-clause-goes g c =
    let tells = g.H.Hub.tells in
    let judge_rules = g.J.Judge.rules in
    let held = c.args.self.now.sessions.items in
    let k = c.args.number in
    let set = setting_of (g.P.Judges.rules c.args.judges.now) c.args.self.now.limits in
    let r = c.refuse-in-None in
    let text = g.L.RefusalLines.text c.args.lines.now in
    let goes = r.ensures.goes set text (sym (ap (λ l. l.sessions) c.hold.ensures.same.0)) in
    let moment = outside tells g.H.Hub.counts g.O.Sink.written g.O.Sink.faults in
    subst (λ n. Goes _ judge_rules set text (moment c.args.hub.now c.args.output.now) (moment r.new.hub r.new.output) (λ begun. Awaits _ judge_rules set begun n k held) r.new.self.spent r.new.self.sessions.items r.result) c.hold.ensures.same.2
    (subst (λ xs. Goes _ judge_rules set text (moment c.args.hub.now c.args.output.now) (moment r.new.hub r.new.output) (λ begun. Awaits _ judge_rules set begun c.hold.new.self.spent k xs) r.new.self.spent r.new.self.sessions.items r.result) (c.in-None.ensures.none refl) goes)

pub returns-then-len-self-clause-unwritten : goal.returns-then-len-self-clause-unwritten
returns-then-len-self-clause-unwritten g c = λ k is. absurd (c.refuse.ensures.written k is)

pub returns-in_default-clause-unwritten : goal.returns-in_default-clause-unwritten
returns-in_default-clause-unwritten g c = λ k is. absurd (c.refuse-in_default.ensures.written k is)

pub returns-in-None-clause-unwritten : goal.returns-in-None-clause-unwritten
returns-in-None-clause-unwritten g c = λ k is. absurd (c.refuse-in-None.ensures.written k is)

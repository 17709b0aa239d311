use Rattle.std.proofs.Common.{rules, ◌≡◌, ◌∙◌, ◌++◌, ◌∷◌, [], length, subst, sym, refl, ap, arith}
use Rattle.route_server.specs.Serving.{Entry, HaveTargets}
use Rattle.route_server.specs.Working.{Awaits, IsBusy}
use Rattle.route_server.specs.Steps.{outside, setting_of, Goes}
use Rattle.route_server.proofs.Places.{targets_behind}
use Rattle.route_server.proofs.Running.{later_not}
use Rattle.route_server.proofs.Standing.{opens_busy}
use Rattle.route_server.proofs.Calls.{goes_after, stays_so}
use Rattle.route_server.proofs.server.Server.admit.Goals as goal

pub returns-in-Some-clause-goes : goal.returns-in-Some-clause-goes
returns-in-Some-clause-goes g c =
    let tells = g.M.Fan.tells in
    let held = c.args.self.now.sessions.items in
    let spent = c.args.self.now.spent in
    let k = c.args.number in
    let at = c.in-Some.at in
    let set = setting_of c.args.self.now.terms in
    let some = c.in-Some.ensures.some in
    let opened = c.in-Ok.ensures in
    let e : Entry = record { number = k; router = c.in-Ok.router } in
    let count : c.len.result ≡ length held = search rules in
    let held' = c.hold.new.self.sessions.items in
    let moment = outside tells g.M.Fan.counts g.O.Sink.written g.O.Sink.faults in
    let now = moment c.args.fan.now c.args.output.now in
    let text = g.L.RefusalLines.text c.args.lines.now in
    goes_after set text now now (moment c.settle.new.fan c.settle.new.output) (λ begun. Awaits set begun spent k held) (λ begun. IsBusy set begun c.hold.new.self.spent at held') c.settle.new.self.spent c.settle.new.self.sessions.items c.settle.result refl (later_not _)
    (λ begun past. stays_so (tells c.args.fan.now) (Awaits set begun spent k held past) (IsBusy set begun c.hold.new.self.spent at held' past)
    (λ m a. subst (λ n. IsBusy set begun n at held' past m) (sym c.hold.ensures.same.2)
    (subst (λ xs. IsBusy set begun spent at xs past m) (sym some.1)
    (subst (λ j. IsBusy set begun spent j (held ++ e ∷ []) past m) (sym some.0)
    (opens_busy set begun spent held past e m a opened.judged opened.limits.0 opened.limits.1 opened.targets opened.matches opened.rooms opened.holds opened.going (omega (arith, count, c.if-len-self.false)))))))
    (c.settle.ensures.goes set)

pub returns-then-len-self-clause-goes : goal.returns-then-len-self-clause-goes
returns-then-len-self-clause-goes g c =
    let set = setting_of c.args.self.now.terms in
    c.refuse.ensures.goes set (g.L.RefusalLines.text c.args.lines.now) refl

pub returns-in_default-clause-goes : goal.returns-in_default-clause-goes
returns-in_default-clause-goes g c =
    let set = setting_of c.args.self.now.terms in
    c.refuse-in_default.ensures.goes set (g.L.RefusalLines.text c.args.lines.now) refl

pub returns-in-None-clause-goes : goal.returns-in-None-clause-goes
returns-in-None-clause-goes g c =
    let tells = g.M.Fan.tells in
    let held = c.args.self.now.sessions.items in
    let k = c.args.number in
    let set = setting_of c.args.self.now.terms in
    let r = c.refuse-in-None in
    let text = g.L.RefusalLines.text c.args.lines.now in
    let goes = r.ensures.goes set text (sym (ap (λ l. l.sessions) c.hold.ensures.same.0)) in
    let moment = outside tells g.M.Fan.counts g.O.Sink.written g.O.Sink.faults in
    subst (λ n. Goes set text (moment c.args.fan.now c.args.output.now) (moment r.new.fan r.new.output) (λ begun. Awaits set begun n k held) r.new.self.spent r.new.self.sessions.items r.result) c.hold.ensures.same.2
    (subst (λ xs. Goes set text (moment c.args.fan.now c.args.output.now) (moment r.new.fan r.new.output) (λ begun. Awaits set begun c.hold.new.self.spent k xs) r.new.self.spent r.new.self.sessions.items r.result) (c.in-None.ensures.none refl) goes)

pub returns-then-len-self-clause-unwritten : goal.returns-then-len-self-clause-unwritten
returns-then-len-self-clause-unwritten g c = λ k is. absurd (c.refuse.ensures.written k is)

pub returns-in_default-clause-unwritten : goal.returns-in_default-clause-unwritten
returns-in_default-clause-unwritten g c = λ k is. absurd (c.refuse-in_default.ensures.written k is)

pub returns-in-None-clause-unwritten : goal.returns-in-None-clause-unwritten
returns-in-None-clause-unwritten g c = λ k is. absurd (c.refuse-in-None.ensures.written k is)

pub settle-requires-clause-served : goal.settle-requires-clause-served
settle-requires-clause-served g c =
    let held = c.args.self.now.sessions.items in
    let e : Entry = record { number = c.args.number; router = c.in-Ok.router } in
    subst (λ xs. HaveTargets (g.M.Fan.target_count c.args.fan.now) xs) (sym c.in-Some.ensures.some.1) (targets_behind _ held e c.requires.served (c.in-Ok.ensures.targets ∙ c.requires.targets))

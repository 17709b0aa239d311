use Rattle.std.proofs.Common.{◌+◌, arith, refl}
use Rattle.gate_io.proofs.Streams.{appends_none}
use Rattle.route_server.specs.Working.{Awaits, Waits, IsNamed}
use Rattle.route_server.specs.Steps.{outside, setting_of}
use Rattle.route_server.proofs.Calls.{goes_after, goes_quietly, stopped_on, failed_on, opened_on, ready_on, step_ends, no_hub_fault}
use Rattle.route_server.proofs.server.Server.step.Goals as goal

pub returns-in-Stopped-clause-goes : goal.returns-in-Stopped-clause-goes
returns-in-Stopped-clause-goes g c =
    let tells = g.M.Fan.tells in
    let moment = outside tells g.M.Fan.counts g.O.Sink.written g.O.Sink.faults in
    let held = c.args.self.now.sessions.items in
    let spent = c.args.self.now.spent in
    let set = setting_of c.args.self.now.terms in
    goes_quietly set (g.L.RefusalLines.text c.args.lines.now) (moment c.args.fan.now c.args.output.now) (moment c.next.new.self c.args.output.now) (λ begun. Waits set begun spent held) spent held _ (appends_none _)
    (λ begun past. stopped_on set begun spent held past (tells c.args.fan.now) (tells c.next.new.self) c.in-Stopped.ensures.leads)

pub returns-in-Failed-clause-goes : goal.returns-in-Failed-clause-goes
returns-in-Failed-clause-goes g c =
    let tells = g.M.Fan.tells in
    let moment = outside tells g.M.Fan.counts g.O.Sink.written g.O.Sink.faults in
    let held = c.args.self.now.sessions.items in
    let spent = c.args.self.now.spent in
    let set = setting_of c.args.self.now.terms in
    goes_quietly set (g.L.RefusalLines.text c.args.lines.now) (moment c.args.fan.now c.args.output.now) (moment c.next.new.self c.args.output.now) (λ begun. Waits set begun spent held) spent held _ (appends_none _)
    (λ begun past. failed_on set begun spent held past (tells c.args.fan.now) (tells c.next.new.self) c.in-Failed.ensures.leads)

pub returns-in-Opened-clause-ends : goal.returns-in-Opened-clause-ends
returns-in-Opened-clause-ends g c = step_ends c.admit.result _ _ _ c.admit.ensures.ends (omega (arith, c.admit.ensures.carried.2))

pub returns-in-Ready-clause-ends : goal.returns-in-Ready-clause-ends
returns-in-Ready-clause-ends g c = step_ends c.resume.result _ _ _ c.resume.ensures.ends (omega (arith, c.resume.ensures.carried.2))

pub returns-in-Opened-clause-hub_cause : goal.returns-in-Opened-clause-hub_cause
returns-in-Opened-clause-hub_cause g c = λ is. no_hub_fault _ c.admit.result _ _ c.admit.ensures.ends is

pub returns-in-Ready-clause-hub_cause : goal.returns-in-Ready-clause-hub_cause
returns-in-Ready-clause-hub_cause g c = λ is. no_hub_fault _ c.resume.result _ _ c.resume.ensures.ends is

pub returns-in-Opened-clause-goes : goal.returns-in-Opened-clause-goes
returns-in-Opened-clause-goes g c =
    let tells = g.M.Fan.tells in
    let moment = outside tells g.M.Fan.counts g.O.Sink.written g.O.Sink.faults in
    let held = c.args.self.now.sessions.items in
    let spent = c.args.self.now.spent in
    let k = c.in-Opened.number in
    let set = setting_of c.args.self.now.terms in
    goes_after set (g.L.RefusalLines.text c.args.lines.now) (moment c.args.fan.now c.args.output.now) (moment c.next.new.self c.args.output.now) (moment c.admit.new.fan c.admit.new.output) (λ begun. Waits set begun spent held) (λ begun. Awaits set begun (spent + 1) k held) c.admit.new.self.spent c.admit.new.self.sessions.items c.admit.result refl c.next.ensures.later
    (λ begun past. opened_on set begun spent held past k (tells c.args.fan.now) (tells c.next.new.self) c.in-Opened.ensures.leads) c.admit.ensures.goes

pub returns-in-Ready-clause-goes : goal.returns-in-Ready-clause-goes
returns-in-Ready-clause-goes g c =
    let tells = g.M.Fan.tells in
    let moment = outside tells g.M.Fan.counts g.O.Sink.written g.O.Sink.faults in
    let held = c.args.self.now.sessions.items in
    let spent = c.args.self.now.spent in
    let k = c.in-Ready.number in
    let set = setting_of c.args.self.now.terms in
    goes_after set (g.L.RefusalLines.text c.args.lines.now) (moment c.args.fan.now c.args.output.now) (moment c.next.new.self c.args.output.now) (moment c.resume.new.fan c.resume.new.output) (λ begun. Waits set begun spent held) (λ begun. IsNamed set begun (spent + 1) k held) c.resume.new.self.spent c.resume.new.self.sessions.items c.resume.result refl c.next.ensures.later
    (λ begun past. ready_on set begun spent held past k (tells c.args.fan.now) (tells c.next.new.self) c.in-Ready.ensures.leads) (c.resume.ensures.goes set)

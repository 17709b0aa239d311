use Rattle.std.proofs.Common.{◌≡◌, ◌<◌, List, length, Some, refl, sym, ap, ◌∙◌, subst}
use Rattle.std.specs.Prelude.{slice_get}
use Rattle.std.proofs.lemmas.Option.{slice_get_read}
use Rattle.gate_fan.specs.declared.fan.Target.{Target}
use Rattle.peer_addresses.specs.Names.{name_in}
use Rattle.gate_start.proofs.Unfound.{says_as}
use Rattle.gate_route.specs.Routes.{Began, Unfound}
use Rattle.gate_route.proofs.route.route_all.Goals as goal

pub returns-in-Done-clause-routes : goal.returns-in-Done-clause-routes
returns-in-Done-clause-routes g c = λ left input.
    let leads = c.in-Done.ensures.leads in
    Began c.start.new.self c.route_started-served.result refl c.start.ensures.later
    (rw (c.as_slice-listen.ensures, c.as_slice-targets.ensures.value) at leads)
    c.route_started-served.ensures.serves
    (c.end_served.ensures.ends left (g.O.Sink.written c.args.output.now) (g.O.Sink.written c.route_started-served.new.output)
    input (g.O.Sink.faults c.args.output.now) (g.O.Sink.faults c.route_started-served.new.output)
    (g.G.Fan.counts c.start.new.self).faults (g.G.Fan.counts c.route_started-served.new.fan).faults c.route_started-served.ensures.fan_fault)

pub returns-in-NotFound-clause-routes : goal.returns-in-NotFound-clause-routes
returns-in-NotFound-clause-routes g c = λ left input.
    let at = c.in-NotFound.at in
    let target = c.index-targets-at.result in
    let targets = c.as_slice-targets.result.now in
    let under : at < length targets = c.in-NotFound.ensures.place at refl in
    let there : slice_get targets at ≡ Some target = slice_get_read targets (length targets) at target refl under c.index-targets-at.is in
    let name : c.name_in.result.now ≡ name_in target.address = c.name_in.ensures ∙ (ap name_in c.as_slice.ensures ∙ ap (λ (t : Target). name_in t.address) (sym c.index-targets-at.is)) in
    Unfound at target (subst (λ (ts : List Target). slice_get ts at ≡ Some target) c.as_slice-targets.ensures.value there)
    c.in-NotFound.ensures.leads (c.in-NotFound.ensures.unfound at refl)
    (says_as c.name_in.result.now (name_in target.address) left (g.O.Sink.written c.args.output.now) (g.E.Sink.written c.args.report.now) (g.E.Sink.written c.end_unfound.new.report)
    input (g.O.Sink.faults c.args.output.now) (g.E.Sink.faults c.args.report.now) (g.E.Sink.faults c.end_unfound.new.report) c.end_unfound.result
    name c.end_unfound.ensures.front c.end_unfound.ensures.whole c.end_unfound.ensures.ending)

use Rattle.std.proofs.Common.{◌≡◌, refl, ap, ◌∙◌}
use Rattle.peer_addresses.specs.Names.{name_in}
use Rattle.gate_start.proofs.Unfound.{says_as}
use Rattle.gate_serve.specs.Serving.{Began, Unfound}
use Rattle.gate_serve.proofs.serve.serve_hub.Goals as goal

pub returns-in-Done-clause-serves : goal.returns-in-Done-clause-serves
returns-in-Done-clause-serves g c = λ left input.
    let leads = c.in-Done.ensures.leads in
    Began c.start.new.self c.serve_started-served.result refl c.start.ensures.later
    (rw (c.as_slice-listen.ensures, c.as_slice-target.ensures) at leads)
    c.serve_started-served.ensures.serves
    (c.end_served.ensures.ends left (g.O.Sink.written c.args.output.now) (g.O.Sink.written c.serve_started-served.new.output)
    input (g.O.Sink.faults c.args.output.now) (g.O.Sink.faults c.serve_started-served.new.output)
    (g.H.Hub.counts c.start.new.self).faults (g.H.Hub.counts c.serve_started-served.new.hub).faults c.serve_started-served.ensures.hub_fault)

pub returns-in-NotFound-clause-serves : goal.returns-in-NotFound-clause-serves
returns-in-NotFound-clause-serves g c = λ left input.
    let name : c.name_in.result.now ≡ name_in c.args.serving.now.target = c.name_in.ensures ∙ ap name_in c.as_slice-target.ensures in
    Unfound c.in-NotFound.field-0 c.in-NotFound.ensures.leads (c.in-NotFound.ensures.unfound c.in-NotFound.field-0 refl)
    (says_as c.name_in.result.now (name_in c.args.serving.now.target) left (g.O.Sink.written c.args.output.now) (g.E.Sink.written c.args.report.now) (g.E.Sink.written c.end_unfound.new.report)
    input (g.O.Sink.faults c.args.output.now) (g.E.Sink.faults c.args.report.now) (g.E.Sink.faults c.end_unfound.new.report) c.end_unfound.result
    name c.end_unfound.ensures.front c.end_unfound.ensures.whole c.end_unfound.ensures.ending)

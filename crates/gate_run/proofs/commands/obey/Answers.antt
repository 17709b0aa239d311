use Rattle.std.proofs.Common.{◌≡◌, true≢false, inl, refl, sym, ◌∙◌}
use Rattle.gate_run.specs.Routed.{StartsRouting}
use Rattle.gate_run.specs.Running.{StartsServing}
use Rattle.gate_run.proofs.Faults.{checked_faults, stream_faults, server_faults}
use Rattle.gate_run.proofs.Routed.{by_router, no_router}
use Rattle.gate_run.proofs.Starts.{by_server, no_server}
use Rattle.gate_run.proofs.commands.obey.Goals as goal

pub returns-in-Check-clause-does : goal.returns-in-Check-clause-does
returns-in-Check-clause-does g c =
    let made = c.check_idl.ensures.checks (g.I.Source.left c.args.input.now) (g.I.Source.faults c.args.input.now) in
    let here : c.as_slice.result.now ≡ c.in-Check.file = c.as_slice.ensures in
    rw c.in-Check.is (rw here at made)

pub returns-in-Check-clause-no_file_fault : goal.returns-in-Check-clause-no_file_fault
returns-in-Check-clause-no_file_fault g c = checked_faults (c.check_idl.ensures.checks (g.I.Source.left c.args.input.now) (g.I.Source.faults c.args.input.now))

pub start_stream-requires : goal.start_stream-requires
start_stream-requires g c = rw c.in-Convert.is at c.requires

pub returns-in-Convert-clause-does : goal.returns-in-Convert-clause-does
returns-in-Convert-clause-does g c = rw c.in-Convert.is c.start_stream.ensures.does

pub returns-in-Convert-clause-no_file_fault : goal.returns-in-Convert-clause-no_file_fault
returns-in-Convert-clause-no_file_fault g c = stream_faults c.start_stream.ensures.does

pub start_stream-requires-in-Show : goal.start_stream-requires-in-Show
start_stream-requires-in-Show g c = rw c.in-Show.is at c.requires

pub returns-in-Show-clause-does : goal.returns-in-Show-clause-does
returns-in-Show-clause-does g c = rw c.in-Show.is c.start_stream-in-Show.ensures.does

pub returns-in-Show-clause-no_file_fault : goal.returns-in-Show-clause-no_file_fault
returns-in-Show-clause-no_file_fault g c = stream_faults c.start_stream-in-Show.ensures.does

pub start_stream-requires-in-Conform : goal.start_stream-requires-in-Conform
start_stream-requires-in-Conform g c = (let range = rw c.in-Conform.is at c.requires in range.0)

pub returns-in-Conform-clause-does : goal.returns-in-Conform-clause-does
returns-in-Conform-clause-does g c = rw c.in-Conform.is c.start_stream-in-Conform.ensures.does

pub returns-in-Conform-clause-no_file_fault : goal.returns-in-Conform-clause-no_file_fault
returns-in-Conform-clause-no_file_fault g c = stream_faults c.start_stream-in-Conform.ensures.does

pub returns-in-Serve-clause-does : goal.returns-in-Serve-clause-does
returns-in-Serve-clause-does g c = rw c.in-Serve.is refl

pub returns-in-Serve-clause-serves : goal.returns-in-Serve-clause-serves
returns-in-Serve-clause-serves g c = λ s words is.
    by_server (λ t w. StartsServing g.F.Files g.O.Sink g.E.Sink g.H.Hub t w c.args.files.now c.args.output.now c.args.report.now c.args.hub.now
    c.start_server.new.files c.start_server.new.output c.start_server.new.report c.start_server.new.hub c.start_server.result)
    c.in-Serve.serving c.in-Serve.declared s words (sym c.in-Serve.is ∙ is) c.start_server.ensures.serves

pub returns-in-Serve-clause-no_file_fault : goal.returns-in-Serve-clause-no_file_fault
returns-in-Serve-clause-no_file_fault g c = server_faults (c.start_server.ensures.serves (g.I.Source.left c.args.input.now) (g.I.Source.faults c.args.input.now))

pub returns-in-Drill-clause-does : goal.returns-in-Drill-clause-does
returns-in-Drill-clause-does g c = rw c.in-Drill.is (c.drill_all.ensures.drills (g.I.Source.left c.args.input.now) (g.I.Source.faults c.args.input.now))

pub returns-in-Help-clause-does : goal.returns-in-Help-clause-does
returns-in-Help-clause-does g c =
    rw c.in-Help.is
    (inl (c.help.ensures.helps (g.I.Source.left c.args.input.now) (g.E.Sink.written c.args.report.now) (g.I.Source.faults c.args.input.now) (g.E.Sink.faults c.args.report.now)))

pub returns-in-Route-clause-does : goal.returns-in-Route-clause-does
returns-in-Route-clause-does g c = rw c.in-Route.is refl

pub returns-in-Route-clause-routes : goal.returns-in-Route-clause-routes
returns-in-Route-clause-routes g c = λ r words is.
    by_router (λ t w. StartsRouting g.F.Files g.O.Sink g.E.Sink g.G.Fan t w c.args.files.now c.args.output.now c.args.report.now c.args.fan.now
    c.start_router.new.files c.start_router.new.output c.start_router.new.report c.start_router.new.fan c.start_router.result)
    c.in-Route.routing c.in-Route.declared r words (sym c.in-Route.is ∙ is) c.start_router.ensures.routes

pub returns-in-Route-clause-no_file_fault : goal.returns-in-Route-clause-no_file_fault
returns-in-Route-clause-no_file_fault g c = server_faults (c.start_router.ensures.routes (g.I.Source.left c.args.input.now) (g.I.Source.faults c.args.input.now))

pub returns-in-Check-clause-serves : goal.returns-in-Check-clause-serves
returns-in-Check-clause-serves g c = λ s words is. no_server _ s words (sym c.in-Check.is ∙ is) refl

pub returns-in-Convert-clause-serves : goal.returns-in-Convert-clause-serves
returns-in-Convert-clause-serves g c = λ s words is. no_server _ s words (sym c.in-Convert.is ∙ is) refl

pub returns-in-Show-clause-serves : goal.returns-in-Show-clause-serves
returns-in-Show-clause-serves g c = λ s words is. no_server _ s words (sym c.in-Show.is ∙ is) refl

pub returns-in-Conform-clause-serves : goal.returns-in-Conform-clause-serves
returns-in-Conform-clause-serves g c = λ s words is. no_server _ s words (sym c.in-Conform.is ∙ is) refl

pub returns-in-Drill-clause-serves : goal.returns-in-Drill-clause-serves
returns-in-Drill-clause-serves g c = λ s words is. no_server _ s words (sym c.in-Drill.is ∙ is) refl

pub returns-in-Help-clause-serves : goal.returns-in-Help-clause-serves
returns-in-Help-clause-serves g c = λ s words is. no_server _ s words (sym c.in-Help.is ∙ is) refl

pub returns-in-Convert-clause-input : goal.returns-in-Convert-clause-input
returns-in-Convert-clause-input g c = λ e. absurd (true≢false (rw c.in-Convert.is at e))

pub returns-in-Show-clause-input : goal.returns-in-Show-clause-input
returns-in-Show-clause-input g c = λ e. absurd (true≢false (rw c.in-Show.is at e))

pub returns-in-Conform-clause-input : goal.returns-in-Conform-clause-input
returns-in-Conform-clause-input g c = λ e. absurd (true≢false (rw c.in-Conform.is at e))

pub returns-in-Serve-clause-hub : goal.returns-in-Serve-clause-hub
returns-in-Serve-clause-hub g c = λ none. absurd (none c.in-Serve.serving c.in-Serve.declared c.in-Serve.is)

pub returns-in-Serve-clause-hub_waits : goal.returns-in-Serve-clause-hub_waits
returns-in-Serve-clause-hub_waits g c = λ e. c.start_server.ensures.hub_waits (rw c.in-Serve.is at e)

pub returns-in-Serve-clause-hub_links : goal.returns-in-Serve-clause-hub_links
returns-in-Serve-clause-hub_links g c = λ e f. c.start_server.ensures.hub_links (rw c.in-Serve.is at e) (rw c.in-Serve.is at f)

pub start_server-requires-clause-least : goal.start_server-requires-clause-least
start_server-requires-clause-least g c = (let range = rw c.in-Serve.is at c.requires in range.7)

pub start_server-requires-clause-limit : goal.start_server-requires-clause-limit
start_server-requires-clause-limit g c = (let range = rw c.in-Serve.is at c.requires in range.0)

pub start_server-requires-clause-some : goal.start_server-requires-clause-some
start_server-requires-clause-some g c = (let range = rw c.in-Serve.is at c.requires in range.5)

pub start_server-requires-clause-few : goal.start_server-requires-clause-few
start_server-requires-clause-few g c = (let range = rw c.in-Serve.is at c.requires in range.6)

pub drill_all-requires : goal.drill_all-requires
drill_all-requires g c = rw c.in-Drill.is at c.requires

pub returns-in-Route-clause-serves : goal.returns-in-Route-clause-serves
returns-in-Route-clause-serves g c = λ s words is. no_server _ s words (sym c.in-Route.is ∙ is) refl

pub returns-in-Route-clause-fan : goal.returns-in-Route-clause-fan
returns-in-Route-clause-fan g c = λ none. absurd (none c.in-Route.routing c.in-Route.declared c.in-Route.is)

pub returns-in-Check-clause-routes : goal.returns-in-Check-clause-routes
returns-in-Check-clause-routes g c = λ r words is. no_router _ r words (sym c.in-Check.is ∙ is) refl

pub returns-in-Convert-clause-routes : goal.returns-in-Convert-clause-routes
returns-in-Convert-clause-routes g c = λ r words is. no_router _ r words (sym c.in-Convert.is ∙ is) refl

pub returns-in-Show-clause-routes : goal.returns-in-Show-clause-routes
returns-in-Show-clause-routes g c = λ r words is. no_router _ r words (sym c.in-Show.is ∙ is) refl

pub returns-in-Serve-clause-routes : goal.returns-in-Serve-clause-routes
returns-in-Serve-clause-routes g c = λ r words is. no_router _ r words (sym c.in-Serve.is ∙ is) refl

pub returns-in-Conform-clause-routes : goal.returns-in-Conform-clause-routes
returns-in-Conform-clause-routes g c = λ r words is. no_router _ r words (sym c.in-Conform.is ∙ is) refl

pub returns-in-Drill-clause-routes : goal.returns-in-Drill-clause-routes
returns-in-Drill-clause-routes g c = λ r words is. no_router _ r words (sym c.in-Drill.is ∙ is) refl

pub returns-in-Help-clause-routes : goal.returns-in-Help-clause-routes
returns-in-Help-clause-routes g c = λ r words is. no_router _ r words (sym c.in-Help.is ∙ is) refl

pub start_router-requires-clause-limit : goal.start_router-requires-clause-limit
start_router-requires-clause-limit g c = (let range = rw c.in-Route.is at c.requires in range.0)

pub start_router-requires-clause-some : goal.start_router-requires-clause-some
start_router-requires-clause-some g c = (let range = rw c.in-Route.is at c.requires in range.5)

pub start_router-requires-clause-few : goal.start_router-requires-clause-few
start_router-requires-clause-few g c = (let range = rw c.in-Route.is at c.requires in range.6)

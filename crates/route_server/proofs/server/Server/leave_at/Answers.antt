use Rattle.std.proofs.Common.{None, length, subst, refl, ap, ◌∙◌}
use Rattle.std.specs.List.{slice_get}
use Rattle.std.proofs.lemmas.Option.{slice_get_read}
use Rattle.route_server.specs.Lines.{line_text}
use Rattle.route_server.specs.Serving.{Entry}
use Rattle.refusal_teller.specs.Tells.{Writes}
use Rattle.route_server.proofs.Places.{some_same}
use Rattle.route_server.proofs.Calls.{leaves_next}
use Rattle.route_server.proofs.server.Server.leave_at.Goals as goal

pub returns-in-All-clause-lines : goal.returns-in-All-clause-lines
returns-in-All-clause-lines g c =
    let held = c.args.self.now.sessions.items in
    let was = slice_get_read held (length held) c.args.at c.index.result.now refl c.requires.within c.index.ensures in
    λ _ e got. subst (λ k. Writes c.tell.result (g.O.Sink.written c.args.output.now) (g.O.Sink.written c.tell.new.output) (line_text k None)) (c.number-number.ensures ∙ ap (λ (x : Entry). x.number) (some_same (slice_get held c.args.at) c.index.result.now e was got)) c.tell.ensures.line

pub returns-in-All-clause-keeps : goal.returns-in-All-clause-keeps
returns-in-All-clause-keeps g c =
    let held = c.args.self.now.sessions.items in
    let was = slice_get_read held (length held) c.args.at c.index.result.now refl c.requires.within c.index.ensures in
    λ set begun spent past busy last calls. leaves_next set begun spent held past c.args.at busy c.number-number.result last calls c.index.result.now _ _ was c.number-number.ensures c.close.ensures.leads

pub returns-in-Failed-clause-keeps : goal.returns-in-Failed-clause-keeps
returns-in-Failed-clause-keeps g c =
    let held = c.args.self.now.sessions.items in
    let was = slice_get_read held (length held) c.args.at c.index.result.now refl c.requires.within c.index.ensures in
    λ set begun spent past busy last calls. leaves_next set begun spent held past c.args.at busy c.number-number.result last calls c.index.result.now _ _ was c.number-number.ensures c.close.ensures.leads

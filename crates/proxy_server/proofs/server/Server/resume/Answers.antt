use Rattle.std.proofs.Common.{◌≡◌, ℕ, Some, subst, sym, refl, ap, ◌∙◌}
use Rattle.std.specs.List.{slice_get}
use Rattle.gate_io.proofs.Streams.{appends_none}
use Rattle.proxy_server.specs.Serving.{Entry, IsRising}
use Rattle.proxy_server.specs.Working.{IsBusy, IsNamed, Waits}
use Rattle.proxy_server.specs.Steps.{outside}
use Rattle.proxy_server.proofs.Running.{later_not}
use Rattle.proxy_server.proofs.Calls.{goes_after, goes_quietly, stays_so, named_busy, named_none}
use Rattle.proxy_server.proofs.server.Server.resume.Goals as goal

pub returns-in-Some-clause-goes : goal.returns-in-Some-clause-goes
returns-in-Some-clause-goes g c =
    let tells = g.H.Hub.tells in
    let rules = g.J.Judge.rules in
    let moment = outside tells g.H.Hub.counts g.O.Sink.written g.O.Sink.faults in
    let held = c.args.self.now.sessions.items in
    let spent = c.args.self.now.spent in
    let k = c.args.number in
    let at = c.in-Some.at in
    let found = c.in-Some.ensures.found in
    let now = moment c.args.hub.now c.args.output.now in
    λ set. goes_after _ rules set (g.L.RefusalLines.text c.args.lines.now) now now (moment c.settle.new.hub c.settle.new.output) (λ begun. IsNamed _ rules set begun spent k held) (λ begun. IsBusy _ rules set begun spent at held) c.settle.new.self.spent c.settle.new.self.sessions.items c.settle.result refl (later_not _)
    (λ begun past. stays_so (tells c.args.hub.now) (IsNamed _ rules set begun spent k held past) (IsBusy _ rules set begun spent at held past)
    (λ m. named_busy _ rules set begun spent held past k at found.0 m (ap (λ xs. slice_get xs at) (sym c.as_slice.ensures.value) ∙ found.1) found.2))
    (c.settle.ensures.goes set)

pub returns-in-None-clause-goes : goal.returns-in-None-clause-goes
returns-in-None-clause-goes g c =
    let tells = g.H.Hub.tells in
    let rules = g.J.Judge.rules in
    let moment = outside tells g.H.Hub.counts g.O.Sink.written g.O.Sink.faults in
    let held = c.args.self.now.sessions.items in
    let spent = c.args.self.now.spent in
    let k = c.args.number in
    let now = moment c.args.hub.now c.args.output.now in
    λ set. goes_quietly _ rules set (g.L.RefusalLines.text c.args.lines.now) now now (λ begun. IsNamed _ rules set begun spent k held) spent held _ (appends_none _)
    (λ begun past. stays_so (tells c.args.hub.now) (IsNamed _ rules set begun spent k held past) (Waits _ rules set begun spent held past)
    (λ m. named_none _ rules set begun spent held past k (Waits _ rules set begun spent held past) m
    (subst (λ xs. IsRising xs → (i : ℕ) (e : Entry _) → slice_get xs i ≡ Some e → e.number ≡ k → ⊥) c.as_slice.ensures.value (c.in-None.ensures.none refl))))

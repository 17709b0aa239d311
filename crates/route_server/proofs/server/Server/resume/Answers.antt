use Rattle.std.proofs.Common.{◌≡◌, ℕ, Some, subst, sym, refl, ap, ◌∙◌}
use Rattle.std.specs.List.{slice_get}
use Rattle.gate_io.proofs.Streams.{appends_none}
use Rattle.route_server.specs.Serving.{Entry, IsRising}
use Rattle.route_server.specs.Working.{IsBusy, IsNamed, Waits}
use Rattle.route_server.specs.Steps.{outside}
use Rattle.route_server.proofs.Running.{later_not}
use Rattle.route_server.proofs.Calls.{goes_after, goes_quietly, stays_so, named_busy, named_none}
use Rattle.route_server.proofs.server.Server.resume.Goals as goal

pub returns-in-Some-clause-goes : goal.returns-in-Some-clause-goes
returns-in-Some-clause-goes g c =
    let tells = g.M.Fan.tells in
    let moment = outside tells g.M.Fan.counts g.O.Sink.written g.O.Sink.faults in
    let held = c.args.self.now.sessions.items in
    let spent = c.args.self.now.spent in
    let k = c.args.number in
    let at = c.in-Some.at in
    let found = c.in-Some.ensures.found in
    let now = moment c.args.fan.now c.args.output.now in
    λ set. goes_after set (g.L.RefusalLines.text c.args.lines.now) now now (moment c.settle.new.fan c.settle.new.output) (λ begun. IsNamed set begun spent k held) (λ begun. IsBusy set begun spent at held) c.settle.new.self.spent c.settle.new.self.sessions.items c.settle.result refl (later_not _)
    (λ begun past. stays_so (tells c.args.fan.now) (IsNamed set begun spent k held past) (IsBusy set begun spent at held past)
    (λ m. named_busy set begun spent held past k at found.0 m (ap (λ xs. slice_get xs at) (sym c.as_slice.ensures.value) ∙ found.1) found.2))
    (c.settle.ensures.goes set)

pub returns-in-None-clause-goes : goal.returns-in-None-clause-goes
returns-in-None-clause-goes g c =
    let tells = g.M.Fan.tells in
    let moment = outside tells g.M.Fan.counts g.O.Sink.written g.O.Sink.faults in
    let held = c.args.self.now.sessions.items in
    let spent = c.args.self.now.spent in
    let k = c.args.number in
    let now = moment c.args.fan.now c.args.output.now in
    λ set. goes_quietly set (g.L.RefusalLines.text c.args.lines.now) now now (λ begun. IsNamed set begun spent k held) spent held _ (appends_none _)
    (λ begun past. stays_so (tells c.args.fan.now) (IsNamed set begun spent k held past) (Waits set begun spent held past)
    (λ m. named_none set begun spent held past k (Waits set begun spent held past) m
    (subst (λ xs. IsRising xs → (i : ℕ) (e : Entry) → slice_get xs i ≡ Some e → e.number ≡ k → ⊥) c.as_slice.ensures.value (c.in-None.ensures.none refl))))

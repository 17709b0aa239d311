use Rattle.std.proofs.Common.{◌≡◌, ◌∙◌, ◌^◌, ◌<◌, ◌≤◌, arith, refl, ap, subst, Some, [], List, ℕ, Option, length}
use Rattle.line_transport.specs.Buffers.{Incoming}
use Rattle.line_transport.specs.Cuts.{at_end}
use Rattle.line_transport.proofs.Spanning.{end_longer}
use Rattle.gate_streams.specs.Progress.{Moment, Goes, BreaksBefore}
use Rattle.gate_streams.specs.Terms.{Terms}
use Rattle.gate_streams.specs.Working.{moment}
use Rattle.gate_streams.specs.declared.stream.Broken.{Broken}
use Rattle.gate_streams.proofs.Outcome.{risen_later}
use Rattle.gate_streams.proofs.Finishing.{closed, finished, finish_broke, none_exceeds}
use Rattle.gate_streams.proofs.stream.Work.finish.Goals as goal

-- with the LF that lacks
goes_closed : (k : Terms) (m c : Moment) (held : List ℕ) (left : Option (List ℕ)) → held ≡ at_end k.input m.held → Goes k (record m { held = held; left = left }) c → Goes k (closed k m left) c
goes_closed k m c held left e g = subst (λ (h : List ℕ). Goes k (record m { held = h; left = left }) c) e g

breaks_closed : (broken : Broken) (k : Terms) (m c : Moment) (held : List ℕ) (left : Option (List ℕ)) → held ≡ at_end k.input m.held → BreaksBefore broken k (record m { held = held; left = left }) c → BreaksBefore broken k (closed k m left) c
breaks_closed broken k m c held left e g = subst (λ (h : List ℕ). BreaksBefore broken k (record m { held = h; left = left }) c) e g

ended_by : (k : Terms) (b b' : Incoming) → b.transport ≡ k.input → b' ≡ record b { held = at_end b.transport b.held } → b'.held ≡ at_end k.input b.held
ended_by k b b' transport e = ap (λ (x : Incoming). x.held) e ∙ ap (λ t. at_end t b.held) transport

small : (limit : ℕ) → limit ≤ 16384000 → limit < 2 ^ 31
small limit h = omega (arith, h)

pub drain-requires-clause-ready : goal.drain-requires-clause-ready
drain-requires-clause-ready g c =
    let r = c.requires.ready in
    record {
      limit_is = ap (λ (b : Incoming). b.limit) c.end.ensures ∙ r.limit_is;
      transport_is = ap (λ (b : Incoming). b.transport) c.end.ensures ∙ r.transport_is;
      page = r.page;
      lines = r.lines;
      handler = r.handler;
      counted = omega (arith, c.requires.counted, ap (λ (b : Incoming). length b.held) c.end.ensures, end_longer c.args.self.now.inbox.transport c.args.self.now.inbox.held);
      taken = r.taken;
    }

pub conclude-requires-clause-waiting : goal.conclude-requires-clause-waiting
conclude-requires-clause-waiting g c =
    let now = rw c.in-Ok-None.field-0-is at (c.in-Ok-None.ensures.drained (Some [])) in now.1

pub returns-in-Ok-None-clause-ended : goal.returns-in-Ok-None-clause-ended
returns-in-Ok-None-clause-ended g c = λ left over.
    let k = c.args.task.now in
    let at_once = rw c.in-Ok-None.field-0-is at (c.in-Ok-None.ensures.drained (Some [])) in
    let now = rw c.in-Ok-None.field-0-is at (c.in-Ok-None.ensures.drained left) in
    let held = ended_by k c.args.self.now.inbox c.end.new.self c.requires.ready.transport_is c.end.ensures in
    let m = moment c.args.self.now left (g.O.Sink.written c.args.output.now) (g.E.Sink.written c.args.report.now) in
    let mid = moment c.drain.new.self left (g.O.Sink.written c.drain.new.output) (g.E.Sink.written c.drain.new.report) in
    let last = moment c.conclude.new.self left (g.O.Sink.written c.drain.new.output) (g.E.Sink.written c.conclude.new.report) in
    finished k m mid last (goes_closed k m _ c.end.new.self.held (Some []) held at_once.0) (goes_closed k m mid c.end.new.self.held left held now.0) now.1 refl over
    c.conclude.result (c.conclude.ensures.ended left (g.O.Sink.written c.drain.new.output))

pub returns-in-Ok-None-clause-cause : goal.returns-in-Ok-None-clause-cause
returns-in-Ok-None-clause-cause g c =
    risen_later c.conclude.result _ _ _ (g.E.Sink.faults c.drain.new.report) _ c.drain.ensures.report_later
    (c.conclude.ensures.cause (g.O.Sink.faults c.args.output.now) (g.O.Sink.faults c.drain.new.output))

pub exceed-requires-clause-large : goal.exceed-requires-clause-large
exceed-requires-clause-large g c =
    let now = rw c.in-Ok-Some.field-0-is at (c.in-Ok-Some.ensures.drained (Some [])) in now.1

pub returns-in-Ok-Some-clause-ended : goal.returns-in-Ok-Some-clause-ended
returns-in-Ok-Some-clause-ended g c = λ left over.
    let k = c.args.task.now in
    let at_once = rw c.in-Ok-Some.field-0-is at (c.in-Ok-Some.ensures.drained (Some [])) in
    let held = ended_by k c.args.self.now.inbox c.end.new.self c.requires.ready.transport_is c.end.ensures in
    let m = moment c.args.self.now left (g.O.Sink.written c.args.output.now) (g.E.Sink.written c.args.report.now) in
    let mid = moment c.drain.new.self left (g.O.Sink.written c.drain.new.output) (g.E.Sink.written c.drain.new.report) in
    absurd (none_exceeds k m mid c.in-Ok-Some.excess (small k.limit c.requires.limit) c.requires.waiting (goes_closed k m _ c.end.new.self.held (Some []) held at_once.0) at_once.1)

pub returns-in-Ok-Some-clause-cause : goal.returns-in-Ok-Some-clause-cause
returns-in-Ok-Some-clause-cause g c =
    risen_later c.exceed.result _ _ _ (g.E.Sink.faults c.drain.new.report) _ c.drain.ensures.report_later
    (c.exceed.ensures.cause (g.O.Sink.faults c.args.output.now) (g.O.Sink.faults c.drain.new.output))

pub returns-in-Err-clause-ended : goal.returns-in-Err-clause-ended
returns-in-Err-clause-ended g c = λ left over.
    let k = c.args.task.now in
    let held = ended_by k c.args.self.now.inbox c.end.new.self c.requires.ready.transport_is c.end.ensures in
    let m = moment c.args.self.now left (g.O.Sink.written c.args.output.now) (g.E.Sink.written c.args.report.now) in
    let mid = moment c.drain.new.self left (g.O.Sink.written c.drain.new.output) (g.E.Sink.written c.drain.new.report) in
    finish_broke c.in-Err.broken k m mid (breaks_closed c.in-Err.broken k m _ c.end.new.self.held (Some []) held (c.in-Err.ensures.drained (Some []))) refl over

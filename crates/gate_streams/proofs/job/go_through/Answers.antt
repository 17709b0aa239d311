use Rattle.std.proofs.Common.{subst}
use Rattle.gate_start.specs.Calls.{streams_of}
use Rattle.gate_streams.specs.Outcome.{Streamed}
use Rattle.gate_streams.specs.Terms.{Terms}
use Rattle.gate_streams.proofs.job.go_through.Goals as goal

pub returns-clause-does : goal.returns-clause-does
returns-clause-does g c =
    let at = streams_of g.I.Source g.O.Sink g.E.Sink in
    subst (λ (k : Terms). Streamed k (at c.args.input.now c.args.output.now c.args.report.now) (at c.stream.new.input c.stream.new.output c.stream.new.report) c.stream.result)
    c.new-task.ensures c.stream.ensures.streamed

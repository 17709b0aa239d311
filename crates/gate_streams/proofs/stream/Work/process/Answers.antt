use Rattle.std.proofs.Common.{arith}
use Rattle.gate_streams.specs.Working.{moment}
use Rattle.gate_streams.proofs.Outcome.{risen_later, both_risen}
use Rattle.gate_streams.proofs.Progress.{goes_nowhere, goes_on, goes_and_breaks, ends_on, stays_counted}
use Rattle.gate_streams.proofs.stream.Work.process.Goals as goal

pub pieces-init : goal.pieces-init
pieces-init g c = record { ready = c.requires.ready; counted = c.requires.counted; flushed = c.requires.flushed; goes = goes_nowhere _ _; waiting = c.requires.waiting; input_later = omega arith; later = omega arith; report_later = omega arith }

pub returns-in-Failed-clause-ended : goal.returns-in-Failed-clause-ended
returns-in-Failed-clause-ended g c =
    let took = c.in-Failed.ensures.taken (g.O.Sink.written c.pieces.output) (g.E.Sink.written c.pieces.report) in
    (goes_on _ _ _ _ c.pieces.invariant.goes took.0, took.1)

pub finish-requires-clause-waiting : goal.finish-requires-clause-waiting
finish-requires-clause-waiting g c =
    let took = c.in-End.ensures.taken (g.O.Sink.written c.pieces.output) (g.E.Sink.written c.pieces.report) in took.1

pub finish-requires-clause-counted : goal.finish-requires-clause-counted
finish-requires-clause-counted g c =
    let took = c.in-End.ensures.taken (g.O.Sink.written c.pieces.output) (g.E.Sink.written c.pieces.report) in
    stays_counted c.args.task.now _ _ took.0 c.pieces.invariant.counted

pub returns-in-End-clause-ended : goal.returns-in-End-clause-ended
returns-in-End-clause-ended g c =
    let took = c.in-End.ensures.taken (g.O.Sink.written c.pieces.output) (g.E.Sink.written c.pieces.report) in
    let mid = moment c.take.new.self (g.I.Source.left c.take.new.input) (g.O.Sink.written c.pieces.output) (g.E.Sink.written c.pieces.report) in
    let last = moment c.finish.new.self (g.I.Source.left c.take.new.input) (g.O.Sink.written c.finish.new.output) (g.E.Sink.written c.finish.new.report) in
    ends_on c.args.task.now _ mid last c.finish.result
    (goes_on c.args.task.now _ _ _ c.pieces.invariant.goes took.0)
    (c.finish.ensures.ended (g.I.Source.left c.take.new.input) took.2)

pub pieces-smaller : goal.pieces-smaller
pieces-smaller g c =
    let took = c.in-Bytes.ensures.taken (g.O.Sink.written c.pieces.output) (g.E.Sink.written c.pieces.report) in
    let went = rw c.in-Ok-None.field-0-is at (c.in-Ok-None.ensures.drained (g.I.Source.left c.take.new.input)) in
    omega (arith, took.1, went.0.taken, c.pieces.invariant.ready.taken)

pub pieces-preserved : goal.pieces-preserved
pieces-preserved g c =
    let i = c.pieces.invariant in
    let took = c.in-Bytes.ensures.taken (g.O.Sink.written c.pieces.output) (g.E.Sink.written c.pieces.report) in
    let went = rw c.in-Ok-None.field-0-is at (c.in-Ok-None.ensures.drained (g.I.Source.left c.take.new.input)) in
    record {
      ready = c.drain.ensures.ready;
      counted = stays_counted c.args.task.now _ _ (goes_on c.args.task.now _ _ _ took.0 went.0) i.counted;
      flushed = c.in-Ok-None.ensures.flushed;
      goes = goes_on c.args.task.now _ _ _ i.goes (goes_on c.args.task.now _ _ _ took.0 went.0);
      waiting = went.1;
      input_later = omega (arith, i.input_later, c.take.ensures.later);
      later = omega (arith, i.later, c.drain.ensures.later);
      report_later = omega (arith, i.report_later, c.drain.ensures.report_later);
    }

pub exceed-requires-clause-large : goal.exceed-requires-clause-large
exceed-requires-clause-large g c =
    let went = rw c.in-Ok-Some.field-0-is at (c.in-Ok-Some.ensures.drained (g.I.Source.left c.take.new.input)) in
    went.1

pub returns-in-Ok-Some-clause-ended : goal.returns-in-Ok-Some-clause-ended
returns-in-Ok-Some-clause-ended g c =
    let took = c.in-Bytes.ensures.taken (g.O.Sink.written c.pieces.output) (g.E.Sink.written c.pieces.report) in
    let went = rw c.in-Ok-Some.field-0-is at (c.in-Ok-Some.ensures.drained (g.I.Source.left c.take.new.input)) in
    let mid = moment c.drain.new.self (g.I.Source.left c.take.new.input) (g.O.Sink.written c.drain.new.output) (g.E.Sink.written c.drain.new.report) in
    let last = moment c.exceed.new.self (g.I.Source.left c.take.new.input) (g.O.Sink.written c.drain.new.output) (g.E.Sink.written c.exceed.new.report) in
    ends_on c.args.task.now _ mid last c.exceed.result
    (goes_on c.args.task.now _ _ _ c.pieces.invariant.goes (goes_on c.args.task.now _ _ _ took.0 went.0))
    (c.exceed.ensures.ended (g.I.Source.left c.take.new.input) (g.O.Sink.written c.drain.new.output))

pub returns-in-Err-clause-ended : goal.returns-in-Err-clause-ended
returns-in-Err-clause-ended g c =
    let took = c.in-Bytes.ensures.taken (g.O.Sink.written c.pieces.output) (g.E.Sink.written c.pieces.report) in
    let mid = moment c.take.new.self (g.I.Source.left c.take.new.input) (g.O.Sink.written c.pieces.output) (g.E.Sink.written c.pieces.report) in
    let last = moment c.drain.new.self (g.I.Source.left c.take.new.input) (g.O.Sink.written c.drain.new.output) (g.E.Sink.written c.drain.new.report) in
    goes_and_breaks c.in-Err.broken c.args.task.now _ mid last
    (goes_on c.args.task.now _ _ _ c.pieces.invariant.goes took.0)
    (c.in-Err.ensures.drained (g.I.Source.left c.take.new.input)).0

pub returns-in-End-clause-cause : goal.returns-in-End-clause-cause
returns-in-End-clause-cause g c =
    both_risen c.finish.result _ (g.O.Sink.faults c.pieces.output) _ _ (g.E.Sink.faults c.pieces.report) _ c.pieces.invariant.later c.pieces.invariant.report_later c.finish.ensures.cause

pub returns-in-Ok-Some-clause-cause : goal.returns-in-Ok-Some-clause-cause
returns-in-Ok-Some-clause-cause g c =
    risen_later c.exceed.result _ _ _ (g.E.Sink.faults c.drain.new.report) _ (omega (arith, c.pieces.invariant.report_later, c.drain.ensures.report_later))
    (c.exceed.ensures.cause (g.O.Sink.faults c.args.output.now) (g.O.Sink.faults c.drain.new.output))

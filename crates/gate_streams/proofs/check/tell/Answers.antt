use Rattle.std.proofs.Common.{◌≡◌, ℕ, List, inl, inr, refl, subst, rules}
use Rattle.gate_start.specs.Writing.{Tells}
use Rattle.gate_start.specs.Streams.{streams}
use Rattle.gate_streams.specs.Checking.{declared_text}
use Rattle.gate_streams.proofs.check.tell.Goals as goal

pub returns-in-Ok-clause-tells : goal.returns-in-Ok-clause-tells
returns-in-Ok-clause-tells g c = λ left input.
    let line : c.bytes.result.now ≡ declared_text c.args.schema.now = search rules in
    inl (subst (λ (text : List ℕ). Tells text
    (streams left (g.O.Sink.written c.args.output.now) (g.E.Sink.written c.args.report.now) input (g.O.Sink.faults c.args.output.now) (g.E.Sink.faults c.args.report.now))
    (streams left (g.O.Sink.written c.say.new.sink) (g.E.Sink.written c.args.report.now) input (g.O.Sink.faults c.say.new.sink) (g.E.Sink.faults c.args.report.now)) c.say.result)
    line (record { left = refl; reported = refl; front = c.say.ensures.front; ends = c.say.ensures.ends }))

pub returns-in-Err-clause-tells : goal.returns-in-Err-clause-tells
returns-in-Err-clause-tells g c = λ left input.
    inr (record { left = refl; written = refl; front = c.end_with.ensures.front; whole = c.end_with.ensures.whole; is = c.end_with.ensures.ending })

use Rattle.std.proofs.Common.{arith, refl, ap, sym, subst}
use Rattle.line_transport.specs.Buffers.{Incoming}
use Rattle.gate_streams.proofs.Progress.{fed, waited}
use Rattle.gate_streams.specs.Working.{IsWaiting}
use Rattle.gate_streams.proofs.stream.Work.take.Goals as goal

pub returns-in-Bytes-clause-taken : goal.returns-in-Bytes-clause-taken
returns-in-Bytes-clause-taken g c = λ written reported.
    let (some, few, (piece, long, held, consumed)) = c.in-Bytes.ensures.bytes in
    (fed _ _ _ piece consumed (ap (λ (h : Incoming). h.held) held) (omega (arith, long)) refl refl refl refl, omega (arith, some))

pub returns-in-End-clause-taken : goal.returns-in-End-clause-taken
returns-in-End-clause-taken g c = λ written reported.
    let same = c.in-End.ensures.bytes.2 in
    (waited _ _ _ c.in-End.ensures.bytes.1 (ap (λ (h : Incoming). h.held) same) refl refl refl refl refl, subst (λ (h : Incoming). IsWaiting c.args.task.now h.held) (sym same) c.requires.waiting, c.in-End.ensures.bytes.0)

pub returns-in-Failed-clause-taken : goal.returns-in-Failed-clause-taken
returns-in-Failed-clause-taken g c = λ written reported.
    let same = c.in-Failed.ensures.bytes.1 in
    (waited _ _ _ c.in-Failed.ensures.bytes.0 (ap (λ (h : Incoming). h.held) same) refl refl refl refl refl, subst (λ (h : Incoming). IsWaiting c.args.task.now h.held) (sym same) c.requires.waiting)

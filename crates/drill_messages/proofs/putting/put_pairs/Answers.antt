use Rattle.std.proofs.Common.{◌≡◌, take, sym, arith}
use Rattle.std.proofs.lemmas.List.{take_all}
use Rattle.drill_messages.proofs.Spelling.{writes_on, written_as, pairs_at}
use Rattle.drill_messages.proofs.putting.put_pairs.Goals as goal

pub loop-flag-preserved : goal.loop-flag-preserved
loop-flag-preserved g c =
    let on = writes_on g.W.WireWrite.plain g.W.WireWrite.after in
    record {
      written = written_as g.W.WireWrite.plain g.W.WireWrite.after _ _ _ _ _ _ (sym (pairs_at c.args.flags.now c.loop-flag.flag-index _ c.loop-flag.key c.loop-flag-test.true c.loop-flag.invariant.key))
          (on _ _ _ _ _ _ _ _ c.loop-flag.invariant.written (on _ _ _ _ _ _ _ _ c.put_event.ensures.written c.put_event-in-loop-flag.ensures.written));
      key = omega (arith, c.loop-flag.invariant.key);
      depth = omega (arith, c.put_event.ensures.depth, c.put_event-in-loop-flag.ensures.depth, c.loop-flag.invariant.depth);
      short = omega (arith, c.put_event.ensures.short, c.put_event-in-loop-flag.ensures.short, c.loop-flag.invariant.short);
    }

pub returns-clause-written : goal.returns-clause-written
returns-clause-written g c =
    let all : take c.loop-flag.flag-index c.args.flags.now ≡ c.args.flags.now = take_all c.loop-flag.flag-index c.args.flags.now (omega (arith, c.loop-flag-test.false)) in
    let written = rw all at c.loop-flag.invariant.written in
    writes_on g.W.WireWrite.plain g.W.WireWrite.after _ _ _ _ _ _ _ _ written c.put_event-2.ensures.written

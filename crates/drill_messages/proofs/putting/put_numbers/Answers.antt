use Rattle.std.proofs.Common.{◌≡◌, pos, get_or, take, sym, arith, rules, SFits, w32}
use Rattle.std.proofs.lemmas.Int.{to_z-of_z}
use Rattle.std.proofs.lemmas.List.{take_all}
use Rattle.drill_messages.proofs.Spelling.{writes_on, written_as, numbers_more}
use Rattle.drill_messages.proofs.putting.put_numbers.Goals as goal

pub loop-mark-preserved : goal.loop-mark-preserved
loop-mark-preserved g c =
    let on = writes_on g.W.WireWrite.plain g.W.WireWrite.after in
    let fits : SFits w32 (get_or c.args.marks.now c.loop-mark.mark-index (pos 0)) = search rules in
    let one = rw (to_z-of_z w32 (get_or c.args.marks.now c.loop-mark.mark-index (pos 0)) fits) at c.put_event.ensures.written in
    record {
      written = written_as g.W.WireWrite.plain g.W.WireWrite.after _ _ _ _ _ _ (sym (numbers_more c.args.marks.now c.loop-mark.mark-index (pos 0) c.loop-mark-test.true))
          (on _ _ _ _ _ _ _ _ c.loop-mark.invariant.written one);
      depth = omega (arith, c.put_event.ensures.depth, c.loop-mark.invariant.depth);
      short = omega (arith, c.put_event.ensures.short, c.loop-mark.invariant.short);
    }

pub returns-clause-written : goal.returns-clause-written
returns-clause-written g c =
    let all : take c.loop-mark.mark-index c.args.marks.now ≡ c.args.marks.now = take_all c.loop-mark.mark-index c.args.marks.now (omega (arith, c.loop-mark-test.false)) in
    let written = rw all at c.loop-mark.invariant.written in
    writes_on g.W.WireWrite.plain g.W.WireWrite.after _ _ _ _ _ _ _ _ written c.put_event-2.ensures.written

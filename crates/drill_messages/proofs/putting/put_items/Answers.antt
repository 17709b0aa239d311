use Rattle.std.proofs.Common.{sym, arith}
use Rattle.drill_messages.proofs.Spelling.{writes_on, written_as, items_at}
use Rattle.drill_messages.proofs.putting.put_items.Goals as goal

pub loop-item-preserved : goal.loop-item-preserved
loop-item-preserved g c =
    record {
      written = written_as g.W.WireWrite.plain g.W.WireWrite.after _ _ _ _ _ _ (sym (items_at c.args.items.now c.loop-item.item-index _ c.item-item.result c.loop-item-test.true c.item-item.is))
          (writes_on g.W.WireWrite.plain g.W.WireWrite.after _ _ _ _ _ _ _ _ c.loop-item.invariant.written c.put_item.ensures.written);
      depth = c.put_item.ensures.depth;
      short = omega (arith, c.put_item.ensures.short, c.loop-item.invariant.short);
    }

use Rattle.drill_messages.proofs.Drawing.{one_drawn}
use Rattle.drill_messages.proofs.making.draw_items.Goals as goal

pub loop-place-preserved : goal.loop-place-preserved
loop-place-preserved c = one_drawn _ _ _ _ c.draw_item.result _ _ c.loop-place.invariant c.push.ensures.items c.draw_item.ensures.drawn c.draw_item.ensures.state

use Rattle.std.proofs.Common.{◌≡◌, ◌+◌, ◌*◌, ◌≤◌, length, take}
use Rattle.std.specs.List.{flat_map}
use Rattle.drill_messages.specs.declared.sizes.TheConstants.{ITEM_ROOM}
use Rattle.drill_messages.specs.Events.{item_events}
use Rattle.drill_messages.specs.Views.{all_fields}
use Rattle.drill_messages.specs.Writers.{Writes}
use Rattle.drill_messages.proofs.putting.put_items.Given as goal

-- the items before the place were written
abbrev pub invariant-loop-item : goal.invariant-loop-item
invariant-loop-item g l =
    let writer = g.W.WireWrite in
    record {
      written : Writes writer.plain writer.after l.fn.writer l.fn.out l.writer l.out (flat_map item_events (all_fields (take l.item-index l.items)));
      depth : writer.depth l.writer ≡ 2;
      short : length l.out.bytes ≤ length l.fn.out.bytes + ITEM_ROOM * l.item-index;
    }

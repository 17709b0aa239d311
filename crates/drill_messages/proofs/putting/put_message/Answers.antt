use Rattle.std.proofs.Common.{pos, length, ap, ◌∙◌, arith, length-append}
use Rattle.std.proofs.lemmas.List.{length-map}
use Rattle.gate_io.specs.Buffer.{Buffer}
use Rattle.drill_messages.specs.Events.{call}
use Rattle.drill_messages.specs.Views.{fields_of}
use Rattle.drill_messages.proofs.Spelling.{writes_on, headed}
use Rattle.drill_messages.proofs.putting.put_message.Goals as goal
use Rattle.std.proofs.lemmas.Grind.{common_steps, elements}

pub returns-clause-out : goal.returns-clause-out
returns-clause-out g c =
    let on = writes_on g.W.WireWrite.plain g.W.WireWrite.after in
    let events =
    on _ _ _ _ _ _ _ _ c.put_event.ensures.written (on _ _ _ _ _ _ _ _ c.put_event-2.ensures.written (on _ _ _ _ _ _ _ _ c.put_items.ensures.written
    (on _ _ _ _ _ _ _ _ c.put_event-3.ensures.written c.put_event-4.ensures.written)))
    in
    let head = rw c.call.ensures.head at c.head.ensures.out in
    rw (length-map c.args.items.now fields_of)
    (headed g.W.WireWrite.plain g.W.WireWrite.after g.W.WireWrite.begun _ _ c.args.out.now _ _ (g.W.WireWrite.plain_head (call (pos c.args.seq))) _ head (c.head.ensures.state ∙ c.over-writer.ensures) events)

pub returns-clause-short : goal.returns-clause-short
returns-clause-short g c =
    let head = rw c.call.ensures.head at c.head.ensures.out in
    let long = ap (λ (o : Buffer). length o.bytes) head in
    let light = g.W.WireWrite.light_head (call (pos c.args.seq)) (omega (arith, c.requires.seq)) in
    omega (arith, long, light, length-append c.args.out.now.bytes (g.W.WireWrite.plain_head (call (pos c.args.seq))), c.put_event.ensures.short, c.put_event-2.ensures.short, c.put_items.ensures.short, c.put_event-3.ensures.short, c.put_event-4.ensures.short)

pub put_event-requires-3-clause-room : goal.put_event-requires-3-clause-room
put_event-requires-3-clause-room g c = grind (arith, common_steps)

pub put_items-requires-clause-room : goal.put_items-requires-clause-room
put_items-requires-clause-room g c = grind (arith, common_steps)

pub put_items-requires-clause-open : goal.put_items-requires-clause-open
put_items-requires-clause-open g c = grind (arith, common_steps)

pub put_event-requires-clause-room : goal.put_event-requires-clause-room
put_event-requires-clause-room g c = grind (arith, common_steps)

pub put_event-requires-2-clause-room : goal.put_event-requires-2-clause-room
put_event-requires-2-clause-room g c = grind (arith, common_steps)

pub put_event-requires-2-clause-open : goal.put_event-requires-2-clause-open
put_event-requires-2-clause-open g c = grind (arith, common_steps)

pub put_event-requires-4-clause-room : goal.put_event-requires-4-clause-room
put_event-requires-4-clause-room g c = grind (arith, elements)

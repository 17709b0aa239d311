use Rattle.std.proofs.Common.{◌≡◌, suc, [], ◌∷◌, ◌++◌, length, true, false, arith, refl, ◌∙◌}
use Rattle.type_walk.specs.Positions.{standing as open_at}
use Rattle.translate_verdicts.specs.Body.{source_in}
use Rattle.message_show.specs.Inside.{at}
use Rattle.message_show.specs.Pieces.{output}
use Rattle.message_show.specs.Turns.{standing}
use Rattle.message_show.proofs.Told.{tells_none, tells_then}
use Rattle.message_show.proofs.Turns.{leads_none, leads_then, resumed}
use Rattle.message_show.proofs.telling.+tell_level.Goals as goal

pub turns-init : goal.turns-init
turns-init g t c =
    let reading = g.R.ReadRules in
    let sink = g.O.Sink in
    let source = source_in reading in
    rw c.inside-here.ensures.begun (record {
      told = λ up deep. (
        [],
        leads_none source reading.nest (standing c.args.reader.now (open_at c.args.schema.now (c.args.known ∷ up)) true),
        tells_none (output (sink.written c.args.out.now) (sink.faults c.args.out.now)) c.args.line,
      );
      depth = refl;
      sound = rw c.inside-here.ensures.begun at (c.inside-here.ensures.sound c.args.schema.now c.requires.known);
      pays = omega arith;
    })

pub turns-preserved-in-Open : goal.turns-preserved-in-Open
turns-preserved-in-Open g t c =
    let reading = g.R.ReadRules in
    let sink = g.O.Sink in
    let source = source_in reading in
    let d = c.args.schema.now in
    let inv = c.turns.invariant in
    let turned = rw (c.in-Ok.is, c.in-Open.is) at c.event-told.ensures.turned in
    let old = output (sink.written c.args.out.now) (sink.faults c.args.out.now) in
    let mid = output (sink.written c.turns.out) (sink.faults c.turns.out) in
    let new = output (sink.written c.event-told.new.out) (sink.faults c.event-told.new.out) in
    record {
      told = λ up deep.
          let before = inv.told up deep in
          let next = turned up (inv.depth ∙ deep) in (
            before.0 ++ next.0,
            leads_then source reading.nest (standing c.args.reader.now (open_at d (c.args.known ∷ up)) true) (standing c.turns.reader (at d c.turns.here up) c.turns.here.first) (standing c.event-told.new.reader (at d c.event-told.new.here up) c.event-told.new.here.first)
                before.0 next.0 before.1 next.1,
            tells_then old mid new c.args.line c.turns.line c.event-told.result.0 before.0 next.0 before.2 next.2,
          );
      depth = rw (c.in-Ok.is, c.in-Open.is) at c.event-told.ensures.depth ∙ inv.depth;
      sound = rw c.in-Ok.is at c.event-told.ensures.sound;
      pays = let falls = rw c.in-Ok.is at c.event-told.ensures.falls in omega (arith, falls, inv.pays);
    }

pub returns-in-Closed-clause-turned : goal.returns-in-Closed-clause-turned
returns-in-Closed-clause-turned g t c up deep =
    let reading = g.R.ReadRules in
    let sink = g.O.Sink in
    let source = source_in reading in
    let d = c.args.schema.now in
    let inv = c.turns.invariant in
    let turned = rw (c.in-Ok.is, c.in-Closed.is) at c.event-told.ensures.turned in
    let old = output (sink.written c.args.out.now) (sink.faults c.args.out.now) in
    let mid = output (sink.written c.turns.out) (sink.faults c.turns.out) in
    let new = output (sink.written c.event-told.new.out) (sink.faults c.event-told.new.out) in
    let before = inv.told up deep in
    let next = turned up (inv.depth ∙ deep) in (
      before.0 ++ next.0,
      leads_then source reading.nest (standing c.args.reader.now (open_at d (c.args.known ∷ up)) true) (standing c.turns.reader (at d c.turns.here up) c.turns.here.first) (standing c.event-told.new.reader (open_at d up) false)
          before.0 next.0 before.1 next.1,
      tells_then old mid new c.args.line c.turns.line c.event-told.result.0 before.0 next.0 before.2 next.2,
    )

pub returns-in-Closed-clause-depth : goal.returns-in-Closed-clause-depth
returns-in-Closed-clause-depth g t c =
    let inv = c.turns.invariant in
    let less = rw (c.in-Ok.is, c.in-Closed.is) at c.event-told.ensures.depth in
    omega (arith, less, inv.depth, c.requires.open)

pub turns-preserved : goal.turns-preserved
turns-preserved g t c =
    let reading = g.R.ReadRules in
    let sink = g.O.Sink in
    let source = source_in reading in
    let d = c.args.schema.now in
    let here = c.event-told.new.here in
    let inner = c.in-Opened.inner in
    let inv = c.turns.invariant in
    let turned = rw (c.in-Ok.is, c.in-Opened.is) at c.event-told.ensures.turned in
    let spent = rw (c.in-Ok.is, c.in-Opened.is) at c.event-told.ensures.spent in
    let more = rw (c.in-Ok.is, c.in-Opened.is) at c.event-told.ensures.depth in
    let within = rw c.in-Ok-ended.is at c.tell_level-told.ensures.turned in
    let fewer = rw c.in-Ok-ended.is at c.tell_level-told.ensures.depth in
    let old = output (sink.written c.args.out.now) (sink.faults c.args.out.now) in
    let mid = output (sink.written c.turns.out) (sink.faults c.turns.out) in
    let opened = output (sink.written c.event-told.new.out) (sink.faults c.event-told.new.out) in
    let new = output (sink.written c.tell_level-told.new.out) (sink.faults c.tell_level-told.new.out) in
    record {
      told = λ up deep.
          let before = inv.told up deep in
          let first = turned up (inv.depth ∙ deep) in
          let deeper : reading.depth c.event-told.new.reader ≡ suc (suc (length up)) = omega (arith, more, inv.depth, deep) in
          let inside = within (here.known ∷ up) deeper in
          let start = standing c.args.reader.now (open_at d (c.args.known ∷ up)) true in
          let round = standing c.turns.reader (at d c.turns.here up) c.turns.here.first in
          let begun = standing c.event-told.new.reader (open_at d (inner ∷ here.known ∷ up)) true in
          let done = standing c.tell_level-told.new.reader (at d here up) here.first in (
            before.0 ++ (first.0 ++ inside.0),
            leads_then source reading.nest start round done before.0 (first.0 ++ inside.0) before.1
                (leads_then source reading.nest round begun done first.0 inside.0 first.1 (resumed source reading.nest c.event-told.new.reader c.tell_level-told.new.reader d here inner up inside.0 spent.1 spent.2 inside.1)),
            tells_then old mid new c.args.line c.turns.line c.tell_level-told.result.0 before.0 (first.0 ++ inside.0) before.2
                (tells_then mid opened new c.turns.line c.event-told.result.0 c.tell_level-told.result.0 first.0 inside.0 first.2 inside.2),
          );
      depth = omega (arith, fewer, more, inv.depth);
      sound = rw c.in-Ok.is at c.event-told.ensures.sound;
      pays = let falls = rw c.in-Ok.is at c.event-told.ensures.falls in let less = rw c.in-Ok-ended.is at c.tell_level-told.ensures.falls in omega (arith, falls, less, inv.pays);
    }

pub returns-in-Err-ended-clause-turned : goal.returns-in-Err-ended-clause-turned
returns-in-Err-ended-clause-turned g t c up deep begun told =
    let reading = g.R.ReadRules in
    let inv = c.turns.invariant in
    let turned = rw (c.in-Ok.is, c.in-Opened.is) at c.event-told.ensures.turned in
    let more = rw (c.in-Ok.is, c.in-Opened.is) at c.event-told.ensures.depth in
    let within = rw c.in-Err-ended.is at c.tell_level-told.ensures.turned in
    let before = inv.told up deep in
    let first = turned up (inv.depth ∙ deep) in
    let deeper : reading.depth c.event-told.new.reader ≡ suc (suc (length up)) = omega (arith, more, inv.depth, deep) in
    rw c.by_fields.ensures (before.1 begun told ∙ (first.1 begun (told ++ before.0) ∙ within (c.event-told.new.here.known ∷ up) deeper begun ((told ++ before.0) ++ first.0)))

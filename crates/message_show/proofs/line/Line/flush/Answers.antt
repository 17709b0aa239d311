use Rattle.std.proofs.Common.{arith, take, refl, sym, subst}
use Rattle.std.proofs.lemmas.List.{append-nil}
use Rattle.std.proofs.lemmas.Grind.{common_steps}
use Rattle.message_show.specs.Pieces.{Waiting, Told, output}
use Rattle.message_show.proofs.Told.{told_front}
use Rattle.message_show.proofs.line.Line.flush.Goals as goal

pub returns-in-Failed-clause-told : goal.returns-in-Failed-clause-told
returns-in-Failed-clause-told g c from text h =
    let sink = g.O.Sink in
    let line : Waiting = record { bytes = take c.self.inside.len c.self.inside.buffer.now.bytes; broken = c.self.inside.buffer.now.broken } in
    let old = output (sink.written c.args.out.now) (sink.faults c.args.out.now) in
    let told : Told from old line text = subst (λ (l : Waiting). Told from old l text) (sym c.self.view_is) h in
    rw (c.emptied-in-Failed.ensures, append-nil text) (told_front from old (output (sink.written c.write_all.new.sink) (sink.faults c.write_all.new.sink)) line _ text c.if-self.false
    c.write_all.ensures.front c.write_all.ensures.later (c.in-Failed.ensures.cause refl) told)

pub returns-in-All-clause-told : goal.returns-in-All-clause-told
returns-in-All-clause-told g c = grind (arith, common_steps)

pub returns-then-self-clause-told : goal.returns-then-self-clause-told
returns-then-self-clause-told g c = grind (arith, common_steps)

use Rattle.std.proofs.Common.{subst}
use Rattle.std.proofs.lemmas.List.{append-nil}
use Rattle.message_show.specs.Pieces.{Told, output}
use Rattle.message_show.proofs.Ends.{is_whole, is_broken, all_written, front_written}
use Rattle.message_show.proofs.showing.end.Goals as goal

pub returns-then-is_whole : goal.returns-then-is_whole
returns-then-is_whole g c from text h =
    let sink = g.O.Sink in
    let now = output (sink.written c.flush.new.out) (sink.faults c.flush.new.out) in
    let line = c.flush.result in
    let told = subst (Told from now line) (append-nil text) (c.flush.ensures.told from text h) in
    (all_written from now line text (is_whole line.broken c.if-is_whole.ensures) c.flush.ensures.empty told, told.later, λ e. absurd (cc e))

pub returns-else-is_whole : goal.returns-else-is_whole
returns-else-is_whole g c from text h =
    let sink = g.O.Sink in
    let now = output (sink.written c.flush.new.out) (sink.faults c.flush.new.out) in
    let line = c.flush.result in
    let told = subst (Told from now line) (append-nil text) (c.flush.ensures.told from text h) in
    (front_written from now line text told, told.later, λ e. told.cause (is_broken line.broken c.if-is_whole.ensures))

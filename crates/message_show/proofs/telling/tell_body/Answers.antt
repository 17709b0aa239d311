use Rattle.std.proofs.Common.{◌≡◌, ◌++◌, [], length, false, refl, ap, subst, ◌∙◌, None}
use Rattle.type_walk.specs.Positions.{start, standing as open_at}
use Rattle.translate_verdicts.specs.Positions.{typed}
use Rattle.translate_verdicts.specs.Body.{Going, source_in, going}
use Rattle.translate_verdicts.proofs.Whole.{whole_end}
use Rattle.message_show.specs.Line.{Levels, begun}
use Rattle.message_show.specs.Pieces.{Told, output}
use Rattle.message_show.specs.Shown.{place, line_target}
use Rattle.message_show.proofs.Frames.{closed_whole, closed_fault}
use Rattle.message_show.proofs.telling.tell_body.Goals as goal

pub returns-in-Err-clause-found : goal.returns-in-Err-clause-found
returns-in-Err-clause-found g c text =
    let reading = g.R.ReadRules in
    let body = place (start c.args.schema.now c.args.body) begun in
    let alone = reading.counts c.args.reader.now ∙ ap length c.requires.begins in
    let fault = (rw (c.in-Err.is, c.body_level.ensures.value) at c.tell_level-line.ensures.turned) [] alone body text in
    rw (c.by_fields.ensures, rw c.requires.begins at fault) refl

pub returns-in-Err-clause-told : goal.returns-in-Err-clause-told
returns-in-Err-clause-told g c from text end whole h =
    let reading = g.R.ReadRules in
    let body = place (start c.args.schema.now c.args.body) begun in
    let alone = reading.counts c.args.reader.now ∙ ap length c.requires.begins in
    let fault = (rw (c.in-Err.is, c.body_level.ensures.value) at c.tell_level-line.ensures.turned) [] alone body text in
    absurd (cc (whole, rw c.requires.begins at fault))

pub returns-in-Ok-finish-clause-found : goal.returns-in-Ok-finish-clause-found
returns-in-Ok-finish-clause-found g c text =
    let reading = g.R.ReadRules in
    let source = source_in reading in
    let d = c.args.schema.now in
    let body = place (start d c.args.body) begun in
    let alone = reading.counts c.args.reader.now ∙ ap length c.requires.begins in
    let told = (rw (c.in-Ok.is, c.body_level.ensures.value) at c.tell_level-line.ensures.turned) [] alone in
    let last = c.tell_level-line.new.reader in
    let levels : Levels = record { nest = reading.nest last; first = false } in
    let before = going last (open_at d []) (place (open_at d []) levels) 0 None (text ++ told.0) in
    let ended = (rw c.requires.begins at (told.1 body text)) ∙ whole_end source typed (line_target body) reading.pays before refl in
    rw ended (closed_whole before.bytes (reading.reads_end last) tt c.in-Ok-finish.ensures)

pub returns-in-Ok-finish-clause-told : goal.returns-in-Ok-finish-clause-told
returns-in-Ok-finish-clause-told g c from text end whole h =
    let reading = g.R.ReadRules in
    let sink = g.O.Sink in
    let source = source_in reading in
    let d = c.args.schema.now in
    let body = place (start d c.args.body) begun in
    let alone = reading.counts c.args.reader.now ∙ ap length c.requires.begins in
    let told = (rw (c.in-Ok.is, c.body_level.ensures.value) at c.tell_level-line.ensures.turned) [] alone in
    let last = c.tell_level-line.new.reader in
    let levels : Levels = record { nest = reading.nest last; first = false } in
    let before = going last (open_at d []) (place (open_at d []) levels) 0 None (text ++ told.0) in
    let is : before ≡ end = cc ((rw c.requires.begins at (told.1 body text)) ∙ whole_end source typed (line_target body) reading.pays before refl, whole) in
    subst (λ (b : Going _ _ _). Told from (output (sink.written c.tell_level-line.new.out) (sink.faults c.tell_level-line.new.out)) c.tell_level-line.result.0 b.bytes) is (told.2 from text h)

pub returns-in-Err-finish-clause-found : goal.returns-in-Err-finish-clause-found
returns-in-Err-finish-clause-found g c text =
    let reading = g.R.ReadRules in
    let source = source_in reading in
    let d = c.args.schema.now in
    let body = place (start d c.args.body) begun in
    let alone = reading.counts c.args.reader.now ∙ ap length c.requires.begins in
    let told = (rw (c.in-Ok.is, c.body_level.ensures.value) at c.tell_level-line.ensures.turned) [] alone in
    let last = c.tell_level-line.new.reader in
    let levels : Levels = record { nest = reading.nest last; first = false } in
    let before = going last (open_at d []) (place (open_at d []) levels) 0 None (text ++ told.0) in
    let ended = (rw c.requires.begins at (told.1 body text)) ∙ whole_end source typed (line_target body) reading.pays before refl in
    rw ended (closed_fault before.bytes (reading.reads_end last) c.in-Err-finish.fault c.in-Err-finish.ensures)

pub returns-in-Err-finish-clause-told : goal.returns-in-Err-finish-clause-told
returns-in-Err-finish-clause-told g c from text end whole h =
    let reading = g.R.ReadRules in
    let sink = g.O.Sink in
    let source = source_in reading in
    let d = c.args.schema.now in
    let body = place (start d c.args.body) begun in
    let alone = reading.counts c.args.reader.now ∙ ap length c.requires.begins in
    let told = (rw (c.in-Ok.is, c.body_level.ensures.value) at c.tell_level-line.ensures.turned) [] alone in
    let last = c.tell_level-line.new.reader in
    let levels : Levels = record { nest = reading.nest last; first = false } in
    let before = going last (open_at d []) (place (open_at d []) levels) 0 None (text ++ told.0) in
    let is : before ≡ end = cc ((rw c.requires.begins at (told.1 body text)) ∙ whole_end source typed (line_target body) reading.pays before refl, whole) in
    subst (λ (b : Going _ _ _). Told from (output (sink.written c.tell_level-line.new.out) (sink.faults c.tell_level-line.new.out)) c.tell_level-line.result.0 b.bytes) is (told.2 from text h)

use Rattle.message_show.specs.Pieces.{output}
use Rattle.message_show.specs.Shown.{shown}
use Rattle.message_show.proofs.Told.{told_none}
use Rattle.message_show.proofs.Ends.{has_text_of}
use Rattle.message_show.proofs.showing.show_long.Goals as goal

pub returns-clause-exact : goal.returns-clause-exact
returns-clause-exact g c =
    let sink = g.O.Sink in
    let front = output (sink.written c.args.output.now) (sink.faults c.args.output.now) in
    let has = has_text_of (shown c.args.schema.now c.args.service c.args.from c.args.frame.now) c.requires.message in
    let told = c.tell_frame-line.ensures.told front has.0 has.1 (rw c.over-line.ensures (told_none front)) in
    let ends = c.end.ensures front has.0 told in
    rw has.1 ends.0

pub returns-clause-later : goal.returns-clause-later
returns-clause-later g c =
    let sink = g.O.Sink in
    let front = output (sink.written c.args.output.now) (sink.faults c.args.output.now) in
    let has = has_text_of (shown c.args.schema.now c.args.service c.args.from c.args.frame.now) c.requires.message in
    let told = c.tell_frame-line.ensures.told front has.0 has.1 (rw c.over-line.ensures (told_none front)) in
    let ends = c.end.ensures front has.0 told in
    ends.1

pub returns-clause-cause : goal.returns-clause-cause
returns-clause-cause g c =
    let sink = g.O.Sink in
    let front = output (sink.written c.args.output.now) (sink.faults c.args.output.now) in
    let has = has_text_of (shown c.args.schema.now c.args.service c.args.from c.args.frame.now) c.requires.message in
    let told = c.tell_frame-line.ensures.told front has.0 has.1 (rw c.over-line.ensures (told_none front)) in
    let ends = c.end.ensures front has.0 told in
    ends.2

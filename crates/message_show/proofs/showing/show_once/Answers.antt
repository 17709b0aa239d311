use Rattle.std.proofs.Common.{[], Some}
use Rattle.message_show.specs.Pieces.{output}
use Rattle.message_show.specs.Shown.{shown}
use Rattle.message_show.proofs.Told.{told_none}
use Rattle.message_show.proofs.Ends.{is_whole, has_text, has_line, unsent, left_written}
use Rattle.message_show.proofs.showing.show_once.Goals as goal

pub returns-then-is_whole-clause-exact : goal.returns-then-is_whole-clause-exact
returns-then-is_whole-clause-exact g c =
    let sink = g.O.Sink in
    let front = output (sink.written c.args.output.now) (sink.faults c.args.output.now) in
    let showing = shown c.args.schema.now c.args.service c.args.from c.args.frame.now in
    let has = has_text showing (rw c.in-Message.is at c.tell_frame-line.ensures.found) in
    let start = output (Some []) c.new-failing.result.faults in
    let line = c.tell_frame-line.result.0 in
    let free = is_whole line.broken c.if-is_whole.ensures in
    let told = c.tell_frame-line.ensures.told start has.0 has.1 (rw c.over-line.ensures (told_none start)) in
    let ends = c.end.ensures front has.0 (unsent c.new-failing.result.faults c.tell_frame-line.new.output.faults line has.0 free told front) in
    rw has.1 ends.0

pub returns-then-is_whole-clause-left : goal.returns-then-is_whole-clause-left
returns-then-is_whole-clause-left g c =
    let sink = g.O.Sink in
    let front = output (sink.written c.args.output.now) (sink.faults c.args.output.now) in
    let showing = shown c.args.schema.now c.args.service c.args.from c.args.frame.now in
    let has = has_text showing (rw c.in-Message.is at c.tell_frame-line.ensures.found) in
    let start = output (Some []) c.new-failing.result.faults in
    let line = c.tell_frame-line.result.0 in
    let free = is_whole line.broken c.if-is_whole.ensures in
    let told = c.tell_frame-line.ensures.told start has.0 has.1 (rw c.over-line.ensures (told_none start)) in
    let ends = c.end.ensures front has.0 (unsent c.new-failing.result.faults c.tell_frame-line.new.output.faults line has.0 free told front) in
    left_written c.end.result front.written (sink.written c.end.new.output) showing (has_line showing (rw c.in-Message.is at c.tell_frame-line.ensures.found)) (rw has.1 ends.0) c.args.output.now c.end.new.output

pub returns-then-is_whole-clause-later : goal.returns-then-is_whole-clause-later
returns-then-is_whole-clause-later g c =
    let sink = g.O.Sink in
    let front = output (sink.written c.args.output.now) (sink.faults c.args.output.now) in
    let showing = shown c.args.schema.now c.args.service c.args.from c.args.frame.now in
    let has = has_text showing (rw c.in-Message.is at c.tell_frame-line.ensures.found) in
    let start = output (Some []) c.new-failing.result.faults in
    let line = c.tell_frame-line.result.0 in
    let free = is_whole line.broken c.if-is_whole.ensures in
    let told = c.tell_frame-line.ensures.told start has.0 has.1 (rw c.over-line.ensures (told_none start)) in
    let ends = c.end.ensures front has.0 (unsent c.new-failing.result.faults c.tell_frame-line.new.output.faults line has.0 free told front) in
    ends.1

pub returns-then-is_whole-clause-cause : goal.returns-then-is_whole-clause-cause
returns-then-is_whole-clause-cause g c =
    let sink = g.O.Sink in
    let front = output (sink.written c.args.output.now) (sink.faults c.args.output.now) in
    let showing = shown c.args.schema.now c.args.service c.args.from c.args.frame.now in
    let has = has_text showing (rw c.in-Message.is at c.tell_frame-line.ensures.found) in
    let start = output (Some []) c.new-failing.result.faults in
    let line = c.tell_frame-line.result.0 in
    let free = is_whole line.broken c.if-is_whole.ensures in
    let told = c.tell_frame-line.ensures.told start has.0 has.1 (rw c.over-line.ensures (told_none start)) in
    let ends = c.end.ensures front has.0 (unsent c.new-failing.result.faults c.tell_frame-line.new.output.faults line has.0 free told front) in
    ends.2

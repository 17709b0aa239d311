use Rattle.std.proofs.Common.{◌+◌, ◌-◌, ◌≤◌, length, take, drop, arith}
use Rattle.std.proofs.lemmas.List.{length-take, take-take}
use Rattle.std.proofs.lemmas.Grind.{common_steps}
use Rattle.stream_messages.proofs.Stripping.{takes_length, passes_content}
use Rattle.stream_messages.proofs.Writes.{only_length, with_content, not_written, failed_write_below}
use Rattle.stream_messages.proofs.lane.write_contents.Goals as goal

pub returns-then-count-eq0-clause-goes : goal.returns-then-count-eq0-clause-goes
returns-then-count-eq0-clause-goes g c =
    only_length (g.H.Hub.tells c.args.hub.now) c.args.k c.args.side c.args.stripper.now c.behind_length-behind.result.0 c.args.from.now c.behind_length-behind.result.1 (takes_length c.args.stripper.now c.behind_length-behind.result.0 (take c.behind_length-behind.result.1 c.args.from.now) c.behind_length-behind.ensures.behind)

pub returns-in-Took-clause-goes : goal.returns-in-Took-clause-goes
returns-in-Took-clause-goes g c =
    let head = c.behind_length-behind.result.1 in
    let from = c.args.from.now in
    let n = c.in-Took.taken in
    let most = (head + c.min-count.result) - head in
    let piece = take most (drop head from) in
    let within : n ≤ length piece = c.in-Took.ensures.within.1 in
    with_content (g.H.Hub.tells c.args.hub.now) (g.H.Hub.tells c.write.new.self) c.args.k c.args.side c.args.stripper.now c.behind_length-behind.result.0 c.passed.result from piece head n (takes_length c.args.stripper.now c.behind_length-behind.result.0 (take head from) c.behind_length-behind.ensures.behind) (passes_content c.behind_length-behind.result.0 c.passed.result n c.passed.ensures.behind) within
    (take-take n most (drop head from) (omega (arith, within, length-take most (drop head from)))) c.in-Took.ensures.leads

pub returns-in-NotReady-clause-goes : goal.returns-in-NotReady-clause-goes
returns-in-NotReady-clause-goes g c =
    let head = c.behind_length-behind.result.1 in
    not_written (g.H.Hub.tells c.args.hub.now) (g.H.Hub.tells c.write.new.self) c.args.k c.args.side c.args.stripper.now c.args.from.now (take ((head + c.min-count.result) - head) (drop head c.args.from.now)) c.in-NotReady.ensures.leads

pub returns-in-Failed-clause-goes : goal.returns-in-Failed-clause-goes
returns-in-Failed-clause-goes g c =
    let head = c.behind_length-behind.result.1 in
    failed_write_below (g.H.Hub.tells c.args.hub.now) (g.H.Hub.tells c.write.new.self) c.args.k c.args.side c.args.stripper.now c.args.from.now (take ((head + c.min-count.result) - head) (drop head c.args.from.now)) c.in-Failed.ensures.leads

pub returns-in-Failed-clause-later : goal.returns-in-Failed-clause-later
returns-in-Failed-clause-later g c = grind (arith, common_steps)

pub returns-in-NotReady-clause-wait : goal.returns-in-NotReady-clause-wait
returns-in-NotReady-clause-wait g c = grind (arith, common_steps)

pub returns-in-NotReady-clause-later : goal.returns-in-NotReady-clause-later
returns-in-NotReady-clause-later g c = grind (arith, common_steps)

pub returns-in-Took-clause-wait : goal.returns-in-Took-clause-wait
returns-in-Took-clause-wait g c = grind (arith, common_steps)

pub returns-in-Failed-clause-cause : goal.returns-in-Failed-clause-cause
returns-in-Failed-clause-cause g c = grind (arith, common_steps)

pub returns-in-Failed-clause-wait : goal.returns-in-Failed-clause-wait
returns-in-Failed-clause-wait g c = grind (arith, common_steps)

pub returns-in-NotReady-clause-cause : goal.returns-in-NotReady-clause-cause
returns-in-NotReady-clause-cause g c = grind (arith, common_steps)

pub returns-in-Took-clause-cause : goal.returns-in-Took-clause-cause
returns-in-Took-clause-cause g c = grind (arith, common_steps)

pub returns-in-Took-clause-later : goal.returns-in-Took-clause-later
returns-in-Took-clause-later g c = grind (arith, common_steps)

use Rattle.std.proofs.Common.{◌≡◌, ◌-◌, length, take, drop, ap, ◌∙◌, arith, length-drop}
use Rattle.std.proofs.lemmas.List.{length-take-le, take_rest}
use Rattle.json_text.specs.Text.{behind}
use Rattle.json_text.proofs.Turns.{begins, breaks, passes, ended, quoted, other, escaped, onward, nothing_there, no_quote}
use Rattle.json_text.proofs.text.read_text.Goals as goal

pub returns-then-at-bytes-clause-exact : goal.returns-then-at-bytes-clause-exact
returns-then-at-bytes-clause-exact c = nothing_there c.args.bytes.now c.args.at (omega arith)

pub returns-then-bytes-at-ne34-clause-exact : goal.returns-then-bytes-at-ne34-clause-exact
returns-then-bytes-at-ne34-clause-exact c = no_quote c.args.bytes.now c.args.at (omega arith) c.if-bytes-at-ne34.true

pub loop-place-init : goal.loop-place-init
loop-place-init c = begins c.args.bytes.now c.args.room.now c.args.at (omega arith) c.if-bytes-at-ne34.false

pub returns-in-Wrong-clause-exact : goal.returns-in-Wrong-clause-exact
returns-in-Wrong-clause-exact c =
    let l = c.loop-place in
    breaks c.args.bytes.now l.room c.args.at l.from l.count _ c.plain_end-stop.result l.invariant c.plain_end-stop.ensures.value c.in-Wrong.ensures.0 ∙ ap (behind _ _) c.in-Wrong.ensures.1

pub returns-in-EndsEarly-clause-exact : goal.returns-in-EndsEarly-clause-exact
returns-in-EndsEarly-clause-exact c =
    let l = c.loop-place in
    breaks c.args.bytes.now l.room c.args.at l.from l.count _ c.plain_end-stop.result l.invariant c.plain_end-stop.ensures.value c.in-EndsEarly.ensures.0 ∙ ap (behind _ _) c.in-EndsEarly.ensures.1

pub returns-then-stop-bytes-clause-exact : goal.returns-then-stop-bytes-clause-exact
returns-then-stop-bytes-clause-exact c =
    let l = c.loop-place in
    let stop = c.plain_end-stop.result in
    let run = take (stop - l.from) (drop l.from c.args.bytes.now) in
    let long : length run ≡ stop - l.from = length-take-le (stop - l.from) (drop l.from c.args.bytes.now) (omega (arith, length-drop l.from c.args.bytes.now)) in
    let pass = passes c.args.bytes.now l.room c.args.at l.from l.count _ stop l.invariant c.plain_end-stop.ensures.value c.append.new.room c.in-Good.ensures (rw long at c.append.ensures.written) in
    ended _ _ c.args.bytes.now stop pass (omega arith)

pub returns-then-bytes-stop-eq34-clause-exact : goal.returns-then-bytes-stop-eq34-clause-exact
returns-then-bytes-stop-eq34-clause-exact c =
    let l = c.loop-place in
    let stop = c.plain_end-stop.result in
    let run = take (stop - l.from) (drop l.from c.args.bytes.now) in
    let long : length run ≡ stop - l.from = length-take-le (stop - l.from) (drop l.from c.args.bytes.now) (omega (arith, length-drop l.from c.args.bytes.now)) in
    let pass = passes c.args.bytes.now l.room c.args.at l.from l.count _ stop l.invariant c.plain_end-stop.ensures.value c.append.new.room c.in-Good.ensures (rw long at c.append.ensures.written) in
    (quoted _ _ c.args.bytes.now stop pass (omega arith) c.if-bytes-stop-eq34.true, omega (arith, c.append.ensures.kept, l.invariant.kept, l.invariant.short))

pub returns-then-bytes-stop-ne92-clause-exact : goal.returns-then-bytes-stop-ne92-clause-exact
returns-then-bytes-stop-ne92-clause-exact c =
    let l = c.loop-place in
    let stop = c.plain_end-stop.result in
    let run = take (stop - l.from) (drop l.from c.args.bytes.now) in
    let long : length run ≡ stop - l.from = length-take-le (stop - l.from) (drop l.from c.args.bytes.now) (omega (arith, length-drop l.from c.args.bytes.now)) in
    let pass = passes c.args.bytes.now l.room c.args.at l.from l.count _ stop l.invariant c.plain_end-stop.ensures.value c.append.new.room c.in-Good.ensures (rw long at c.append.ensures.written) in
    other _ _ c.args.bytes.now stop pass (omega arith) c.if-bytes-stop-eq34.false c.if-bytes-stop-ne92.true

pub loop-place-preserved : goal.loop-place-preserved
loop-place-preserved c =
    let l = c.loop-place in
    let stop = c.plain_end-stop.result in
    let run = take (stop - l.from) (drop l.from c.args.bytes.now) in
    let long : length run ≡ stop - l.from = length-take-le (stop - l.from) (drop l.from c.args.bytes.now) (omega (arith, length-drop l.from c.args.bytes.now)) in
    let pass = passes c.args.bytes.now l.room c.args.at l.from l.count _ stop l.invariant c.plain_end-stop.ensures.value c.append.new.room c.in-Good.ensures (rw long at c.append.ensures.written) in
    let here = escaped _ _ c.args.bytes.now stop pass (omega arith) c.if-bytes-stop-ne92.false _ (rw take_rest at c.in-Whole.ensures.exact) in
    record { same = onward _ _ c.args.bytes.now c.append_character.new.room stop c.in-Whole.c c.in-Whole.taken _ here (rw (← c.len_utf8-count.ensures.value) at c.append_character.ensures.written); most = omega (arith, c.in-Whole.ensures.within, length-drop stop c.args.bytes.now); short = omega (arith, c.in-Whole.ensures.shorter, l.invariant.short); kept = c.append_character.ensures.kept ∙ c.append.ensures.kept ∙ l.invariant.kept }

pub returns-in-Short-clause-exact : goal.returns-in-Short-clause-exact
returns-in-Short-clause-exact c =
    let l = c.loop-place in
    let stop = c.plain_end-stop.result in
    let run = take (stop - l.from) (drop l.from c.args.bytes.now) in
    let long : length run ≡ stop - l.from = length-take-le (stop - l.from) (drop l.from c.args.bytes.now) (omega (arith, length-drop l.from c.args.bytes.now)) in
    let pass = passes c.args.bytes.now l.room c.args.at l.from l.count _ stop l.invariant c.plain_end-stop.ensures.value c.append.new.room c.in-Good.ensures (rw long at c.append.ensures.written) in
    escaped _ _ c.args.bytes.now stop pass (omega arith) c.if-bytes-stop-ne92.false _ (rw take_rest at c.in-Short.ensures.exact)

pub returns-in-Bad-clause-exact : goal.returns-in-Bad-clause-exact
returns-in-Bad-clause-exact c =
    let l = c.loop-place in
    let stop = c.plain_end-stop.result in
    let run = take (stop - l.from) (drop l.from c.args.bytes.now) in
    let long : length run ≡ stop - l.from = length-take-le (stop - l.from) (drop l.from c.args.bytes.now) (omega (arith, length-drop l.from c.args.bytes.now)) in
    let pass = passes c.args.bytes.now l.room c.args.at l.from l.count _ stop l.invariant c.plain_end-stop.ensures.value c.append.new.room c.in-Good.ensures (rw long at c.append.ensures.written) in
    escaped _ _ c.args.bytes.now stop pass (omega arith) c.if-bytes-stop-ne92.false _ (rw take_rest at c.in-Bad.ensures.exact)

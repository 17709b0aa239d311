use Rattle.std.proofs.Common.{◌≡◌, ◌∙◌, ◌≤◌, length, take, ap, sym, arith}
use Rattle.std.proofs.lemmas.List.{take-take, length-take, length-take-le}
use Rattle.std.proofs.lemmas.Grind.{common_steps}
use Rattle.stream_messages.proofs.Stripping.{sent_again}
use Rattle.stream_messages.proofs.Writes.{with_gathered, none_gathered}
use Rattle.stream_messages.proofs.lane.write_gathered.Goals as goal

pub returns-then-all-eq0-clause-goes : goal.returns-then-all-eq0-clause-goes
returns-then-all-eq0-clause-goes g c =
    let all = c.gather-all.ensures.gathered in
    let none : c.gather-all.result.filled ≡ 0 = omega (arith, c.if-all-eq0.true) in
    none_gathered (g.H.Hub.tells c.args.hub.now) c.args.k c.args.side c.args.stripper.now c.gather-all.result.behind c.args.from.now c.gather-all.result.taken all.behind (sym all.are ∙ ap (λ n. take n c.gather-all.new.into) none)

pub returns-in-Took-clause-goes : goal.returns-in-Took-clause-goes
returns-in-Took-clause-goes g c =
    let all = c.gather-all.ensures.gathered in
    let n = c.in-Took.count in
    let filled = c.gather-all.result.filled in
    let room = c.gather-all.new.into in
    let same : n ≡ filled = omega (arith, c.if-count-all.true) in
    with_gathered (g.H.Hub.tells c.args.hub.now) (g.H.Hub.tells c.write.new.self) c.args.k c.args.side c.args.stripper.now c.gather-all.result.behind c.args.from.now (take filled room) n c.gather-all.result.taken all.behind
    (take-take n filled room (omega (arith, same)) ∙ (ap (λ k. take k room) same ∙ all.are)) c.in-Took.ensures.leads

pub returns-in-Took-2-clause-goes : goal.returns-in-Took-2-clause-goes
returns-in-Took-2-clause-goes g c =
    let all = c.gather-all.ensures.gathered in
    let part = c.gather-sent.ensures.gathered in
    let n = c.in-Took.count in
    let filled = c.gather-all.result.filled in
    let room = c.gather-all.new.into in
    let few : n ≤ filled = omega (arith, c.in-Took.ensures.within.1, length-take filled room) in
    let size : length c.gather-sent.new.into ≡ n = c.gather-sent.ensures.size ∙ length-take-le n room (omega (arith, few, all.fits)) in
    let again = sent_again c.args.stripper.now c.args.from.now room c.gather-sent.new.into c.gather-all.result c.gather-sent.result all part c.gather-sent.ensures.full (omega (arith, few, size)) in
    with_gathered (g.H.Hub.tells c.args.hub.now) (g.H.Hub.tells c.write.new.self) c.args.k c.args.side c.args.stripper.now c.gather-sent.result.behind c.args.from.now (take filled room) n c.gather-sent.result.taken part.behind
    (take-take n filled room few ∙ (ap (λ k. take k room) (sym size) ∙ again.1)) c.in-Took.ensures.leads

pub returns-in-Took-2-clause-cause : goal.returns-in-Took-2-clause-cause
returns-in-Took-2-clause-cause g c = grind (arith, common_steps)

pub slice_bounds-gather-end-in-Took-2 : goal.slice_bounds-gather-end-in-Took-2
slice_bounds-gather-end-in-Took-2 g c = grind (arith, common_steps)

pub returns-in-Took-2-clause-later : goal.returns-in-Took-2-clause-later
returns-in-Took-2-clause-later g c = grind (arith, common_steps)

pub returns-in-Took-clause-wait : goal.returns-in-Took-clause-wait
returns-in-Took-clause-wait g c = grind (arith, common_steps)

pub returns-in-Took-2-clause-within : goal.returns-in-Took-2-clause-within
returns-in-Took-2-clause-within g c = grind (arith, common_steps)

pub returns-in-Took-2-clause-wait : goal.returns-in-Took-2-clause-wait
returns-in-Took-2-clause-wait g c = grind (arith, common_steps)

pub returns-in-Took-clause-cause : goal.returns-in-Took-clause-cause
returns-in-Took-clause-cause g c = grind (arith, common_steps)

pub returns-in-Took-clause-later : goal.returns-in-Took-clause-later
returns-in-Took-clause-later g c = grind (arith, common_steps)

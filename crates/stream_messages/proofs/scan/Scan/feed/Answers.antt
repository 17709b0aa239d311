use Rattle.std.proofs.Common.{arith, ◌+◌, ◌++◌, take, subst, sym, refl, append-nil}
use Rattle.std.proofs.lemmas.Grind.{common_steps}
use Rattle.stream_messages.specs.Fronts.{whole, cut, bad}
use Rattle.stream_messages.specs.Feeding.{HasRead}
use Rattle.stream_messages.proofs.Pieces.{ends_at, full_at, goes_on, passes_on, from_here, before_end}
use Rattle.stream_messages.proofs.scan.Scan.feed.Goals as goal

pub returns-in-Whole : goal.returns-in-Whole
returns-in-Whole c = λ front read.
    let piece = c.args.piece.now in
    let at = c.loop-at.at + c.pass-at.result in
    let i = c.loop-at.invariant front read in
    let p = passes_on _ front piece _ c.loop-at.at c.pass-at.result _ _ _ _ (from_here c.loop-at.at piece) i.1 i.2 (c.pass-at.ensures.passes (front ++ take c.loop-at.at piece) i.0) in
    let less = before_end c.loop-at.at c.pass-at.result piece c.loop-at-test.true c.pass-at.ensures.within in
    ends_at _ _ front piece whole at less p.1 p.2 p.0 (c.in-Whole.ensures (front ++ take at piece) p.0)

pub returns-in-Bad : goal.returns-in-Bad
returns-in-Bad c = λ front read.
    let piece = c.args.piece.now in
    let at = c.loop-at.at + c.pass-at.result in
    let i = c.loop-at.invariant front read in
    let p = passes_on _ front piece _ c.loop-at.at c.pass-at.result _ _ _ _ (from_here c.loop-at.at piece) i.1 i.2 (c.pass-at.ensures.passes (front ++ take c.loop-at.at piece) i.0) in
    let less = before_end c.loop-at.at c.pass-at.result piece c.loop-at-test.true c.pass-at.ensures.within in
    ends_at _ _ front piece bad at less p.1 p.2 p.0 (c.in-Bad.ensures (front ++ take at piece) p.0)

pub returns-in-Over : goal.returns-in-Over
returns-in-Over c = λ front read.
    let piece = c.args.piece.now in
    let at = c.loop-at.at + c.pass-at.result in
    let i = c.loop-at.invariant front read in
    let p = passes_on _ front piece _ c.loop-at.at c.pass-at.result _ _ _ _ (from_here c.loop-at.at piece) i.1 i.2 (c.pass-at.ensures.passes (front ++ take c.loop-at.at piece) i.0) in
    let less = before_end c.loop-at.at c.pass-at.result piece c.loop-at-test.true c.pass-at.ensures.within in
    let o = c.in-Over.ensures (front ++ take at piece) p.0 in
    (ends_at _ _ front piece cut at less p.1 p.2 p.0 o.0, full_at front piece at _ _ less p.2 o.1)

pub loop-at-init : goal.loop-at-init
loop-at-init c = λ front read. (subst (λ l. HasRead c.args.self.now l) (sym (append-nil front)) read, refl, refl)

pub loop-at-preserved : goal.loop-at-preserved
loop-at-preserved c = λ front read.
    let piece = c.args.piece.now in
    let at = c.loop-at.at + c.pass-at.result in
    let i = c.loop-at.invariant front read in
    let p = passes_on _ front piece _ c.loop-at.at c.pass-at.result _ _ _ _ (from_here c.loop-at.at piece) i.1 i.2 (c.pass-at.ensures.passes (front ++ take c.loop-at.at piece) i.0) in
    let less = before_end c.loop-at.at c.pass-at.result piece c.loop-at-test.true c.pass-at.ensures.within in
    let o = c.in-More.ensures (front ++ take at piece) p.0 in
    goes_on _ front piece at _ _ _ _ less p.1 p.2 o.0 o.1 o.2

pub returns : goal.returns
returns c = grind (arith, common_steps)

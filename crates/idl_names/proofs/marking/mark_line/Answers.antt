use Rattle.std.proofs.Common.{refl, subst}
use Rattle.std.proofs.lemmas.Result.{on_ok_weaker}
use Rattle.idl_names.specs.Cycles.{AreAmong}
use Rattle.idl_names.proofs.Marked.{absent_more, ahead_more, covered_by_none}
use Rattle.idl_names.proofs.Reaching.{not_on}
use Rattle.idl_names.proofs.marking.mark_line.Goals as goal

pub returns-then-are_among : goal.returns-then-are_among
returns-then-are_among c =
    let marks = c.args.marks.now in
    let set = c.args.set.now in
    let covered = covered_by_none set marks c.args.none.now c.are_covered.result c.if-not-are_covered.false c.requires.none c.are_covered.ensures in
    λ files marked beyond. on_ok_weaker c.insert.result
    (λ e. absent_more files marks c.args.spot set marked beyond _ e refl refl covered (subst (AreAmong set marks.absent) c.if-are_among.true c.are_among.ensures))
    c.insert.ensures

pub returns : goal.returns
returns c =
    let marks = c.args.marks.now in
    let set = c.args.set.now in
    let covered = covered_by_none set marks c.args.none.now c.are_covered.result c.if-not-are_covered.false c.requires.none c.are_covered.ensures in
    λ files marked beyond. on_ok_weaker c.insert-2.result
    (λ e. ahead_more files marks c.args.spot set marked beyond _ refl e refl covered (subst (AreAmong set marks.absent) c.if-are_among.false c.are_among.ensures)
    (not_on files marks c.args.spot set marked beyond c.requires.line c.requires.fresh))
    c.insert-2.ensures

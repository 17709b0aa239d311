use Rattle.std.proofs.Common.{◌∙◌, sym}
use Rattle.idl_names.specs.Sets.{Has}
use Rattle.idl_names.proofs.Marked.{covered_more, covered_all, not_among}
use Rattle.idl_names.proofs.Spots.{among_has, get_has}
use Rattle.idl_names.proofs.marking.are_among.Goals as goal

pub returns-then-not-contains : goal.returns-then-not-contains
returns-then-not-contains c =
    (c.in-Some.spot, (get_has c.args.spots.now c.spots.i c.in-Some.spot (sym c.in-Some.ensures.value), not_among c.args.others.now c.in-Some.spot (sym c.contains.ensures ∙ c.if-not-contains.true)))

pub spots-preserved : goal.spots-preserved
spots-preserved c =
    covered_more (Has c.args.others.now) c.args.spots.now c.spots.i c.in-Some.spot (sym c.in-Some.ensures.value) (among_has c.in-Some.spot c.args.others.now (sym c.contains.ensures ∙ c.if-not-contains.false)) c.spots.invariant

pub returns : goal.returns
returns c = covered_all (Has c.args.others.now) c.args.spots.now c.spots.i (sym c.get.ensures.value ∙ c.in_default.is) c.spots.invariant

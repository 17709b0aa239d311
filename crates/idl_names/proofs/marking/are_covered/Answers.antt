use Rattle.std.proofs.Common.{◌⊎◌, ◌∙◌, sym}
use Rattle.idl_names.specs.declared.documents.Spot.{Spot}
use Rattle.idl_names.specs.Marks.{IsKnown}
use Rattle.idl_names.specs.Sets.{Has}
use Rattle.idl_names.proofs.Marked.{covered_more, covered_all, nor_among, or_among}
use Rattle.idl_names.proofs.Spots.{get_has}
use Rattle.idl_names.proofs.marking.are_covered.Goals as goal

pub returns-then-not-is_covered : goal.returns-then-not-is_covered
returns-then-not-is_covered c =
    (c.in-Some.spot, (get_has c.args.spots.now c.spots.i c.in-Some.spot (sym c.in-Some.ensures.value), nor_among c.args.marks.now c.args.others.now c.in-Some.spot (sym c.is_covered.ensures ∙ c.if-not-is_covered.true)))

pub spots-preserved : goal.spots-preserved
spots-preserved c =
    covered_more (λ (s : Spot). IsKnown c.args.marks.now s ⊎ Has c.args.others.now s) c.args.spots.now c.spots.i c.in-Some.spot (sym c.in-Some.ensures.value)
    (or_among c.args.marks.now c.args.others.now c.in-Some.spot (sym c.is_covered.ensures ∙ c.if-not-is_covered.false)) c.spots.invariant

pub returns : goal.returns
returns c =
    covered_all (λ (s : Spot). IsKnown c.args.marks.now s ⊎ Has c.args.others.now s) c.args.spots.now c.spots.i (sym c.get.ensures.value ∙ c.in_default.is) c.spots.invariant

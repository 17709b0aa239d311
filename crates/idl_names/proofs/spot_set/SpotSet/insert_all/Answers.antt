use Rattle.std.proofs.Common.{◌∙◌, ap, sym, refl, List}
use Rattle.idl_names.specs.declared.documents.Spot.{Spot}
use Rattle.idl_names.specs.Sets.{with_spot}
use Rattle.idl_names.proofs.Spots.{with_more, with_end}
use Rattle.idl_names.proofs.spot_set.SpotSet.insert_all.Goals as goal

pub spots-init : goal.spots-init
spots-init c = refl

pub spots-preserved : goal.spots-preserved
spots-preserved c =
    c.in_ok-insert.ensures ∙ ap (λ (xs : List Spot). with_spot xs c.in-Some.spot) c.spots.invariant ∙ sym (with_more c.args.self.now c.args.others.now c.spots.i c.in-Some.spot (sym c.in-Some.ensures.value))

pub returns : goal.returns
returns c = c.spots.invariant ∙ with_end c.args.self.now c.args.others.now c.spots.i (sym c.get.ensures.value ∙ c.in_default.is)

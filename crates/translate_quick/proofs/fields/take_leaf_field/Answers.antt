use Rattle.std.proofs.Common.{Some, w16}
use Rattle.std.proofs.lemmas.Int.{to_z-of_z}
use Rattle.type_walk.specs.Positions.{field_type, in_struct}
use Rattle.translate_verdicts.specs.Body.{source_in, target_in}
use Rattle.translate_known.specs.declared.reach.Reach.{Reach}
use Rattle.translate_known.proofs.Levels.{if_some, takes_field}
use Rattle.translate_quick.proofs.fields.take_leaf_field.Goals as goal

pub returns-clause-takes : goal.returns-clause-takes
returns-clause-takes g c =
    let source = source_in g.R.ReadRules in
    let target = target_in g.W.WireWrite in
    let spells = rw (to_z-of_z w16 c.args.last c.ranges.last, to_z-of_z w16 c.args.id c.ranges.id, c.own_kind.ensures) at c.field-value.ensures.spells in
    if_some _ _ c.take.result (λ (x : Reach) whole d ty depth.
    takes_field source target g.R.ReadRules.stands_at g.W.WireWrite.stands_at c.args.frame.now g.R.ReadRules.pays g.met.W.FormWrite.goes_on
    d ty depth c.args.at c.args.behind x.read c.args.opening c.args.last c.args.id g.L.Leaf.kind c.args.cells.now c.field-value.new.cells c.take.new.cells c.args.to c.field-value.result x.written
    spells (whole d (field_type d (Some (in_struct ty)) c.args.id g.L.Leaf.kind) depth)) c.take.ensures.takes

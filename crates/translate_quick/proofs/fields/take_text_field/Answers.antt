use Rattle.std.proofs.Common.{Some, w16}
use Rattle.std.proofs.lemmas.Int.{to_z-of_z}
use Rattle.thrift_value.specs.declared.kind.Kind.TheVariants as kinds
use Rattle.type_walk.specs.Positions.{field_type, in_struct}
use Rattle.translate_verdicts.specs.Body.{source_in, target_in}
use Rattle.translate_known.specs.declared.reach.Reach.{Reach}
use Rattle.translate_known.proofs.Levels.{if_some, takes_field}
use Rattle.translate_quick.proofs.fields.take_text_field.Goals as goal

pub returns-clause-takes : goal.returns-clause-takes
returns-clause-takes g c =
    let source = source_in g.R.ReadRules in
    let target = target_in g.W.WireWrite in
    let spells = rw (to_z-of_z w16 c.args.last c.ranges.last, to_z-of_z w16 c.args.id c.ranges.id) at c.field-value.ensures.spells in
    let reads = rw (to_z-of_z w16 c.args.id c.ranges.id) at c.text_hint-hint.ensures.reads in
    let writes = rw (to_z-of_z w16 c.args.id c.ranges.id) at c.text_hint-hint.ensures.writes in
    if_some _ _ c.take_text.result (λ (x : Reach) whole ty depth means.
    takes_field source target g.R.ReadRules.stands_at g.W.WireWrite.stands_at c.args.frame.now g.R.ReadRules.pays g.met.W.FormWrite.goes_on
    c.args.schema.now ty depth c.args.at c.args.behind x.read c.args.opening c.args.last c.args.id kinds.Str c.args.cells.now c.field-value.new.cells c.take_text.new.cells c.args.to c.field-value.result x.written
    spells (whole c.args.schema.now (field_type c.args.schema.now (Some (in_struct ty)) c.args.id kinds.Str) depth (reads ty means) (writes ty means))) c.take_text.ensures.takes

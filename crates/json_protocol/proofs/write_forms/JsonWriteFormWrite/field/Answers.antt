use Rattle.std.proofs.Common.{◌≤◌, length, refl, rules, arith, FitsSigned, ◌∙◌}
use Rattle.std.specs.Int.{w16, w64}
use Rattle.std.specs.Fmt.{signed_decimal}
use Rattle.std.proofs.lemmas.Fmt.{length_signed_le}
use Rattle.std.proofs.lemmas.Int.{to_z-of_z}
use Rattle.json_protocol.specs.WriteForms.{field_spelled, whole_short}
use Rattle.json_protocol.proofs.write_forms.JsonWriteFormWrite.field.Goals as goal

pub returns-clause-short : goal.returns-clause-short
returns-clause-short c =
    let fits : FitsSigned w64 c.from.result = search rules in
    let digits : length (signed_decimal c.args.id) ≤ 6 = length_signed_le 5 c.args.id (omega (arith, c.ranges.id.sfits)) (omega (arith, c.ranges.id.sfits)) in
    whole_short c.args.to c.lay_field.result _ c.args.id 6 11 (to_z-of_z w64 c.from.result fits ∙ c.from.ensures ∙ to_z-of_z w16 c.args.id c.ranges.id) c.lay_field.ensures.short digits

pub returns-clause-spells : goal.returns-clause-spells
returns-clause-spells c = λ up mark w there.
    let fits : FitsSigned w64 c.from.result = search rules in (
      refl,
      field_spelled c.args.cells.now c.lay_field.new.cells c.args.to c.lay_field.result c.args.opening c.args._last _ c.args.id c.args.kind
          (to_z-of_z w64 c.from.result fits ∙ c.from.ensures ∙ to_z-of_z w16 c.args.id c.ranges.id) c.lay_field.ensures.laid up w there,
    )

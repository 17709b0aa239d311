use Rattle.std.proofs.Common.{◌≤◌, length, refl, rules, arith, FitsSigned, ◌∙◌, ap, ◌++◌, take}
use Rattle.std.specs.Int.{w16, w64}
use Rattle.std.specs.Fmt.{signed_decimal}
use Rattle.std.proofs.lemmas.Fmt.{length_signed_le}
use Rattle.std.proofs.lemmas.Int.{to_z-of_z}
use Rattle.json_protocol.specs.WriteForms.{flag_spelled, whole_short}
use Rattle.json_protocol.proofs.write_forms.JsonWriteFormWrite.flag.Goals as goal

pub lay-requires : goal.lay-requires
lay-requires c =
    let fits : FitsSigned w64 c.from.result = search rules in
    let digits : length (signed_decimal c.args.id) ≤ 6 = length_signed_le 5 c.args.id (omega (arith, c.ranges.id.sfits)) (omega (arith, c.ranges.id.sfits)) in
    let short = whole_short c.args.to c.lay_field-to.result _ c.args.id 6 11 (to_z-of_z w64 c.from.result fits ∙ c.from.ensures ∙ to_z-of_z w16 c.args.id c.ranges.id) c.lay_field-to.ensures.short digits in
    omega (arith, short, c.flag_value.ensures.few)

pub returns-clause-short : goal.returns-clause-short
returns-clause-short c =
    let fits : FitsSigned w64 c.from.result = search rules in
    let digits : length (signed_decimal c.args.id) ≤ 6 = length_signed_le 5 c.args.id (omega (arith, c.ranges.id.sfits)) (omega (arith, c.ranges.id.sfits)) in
    let short = whole_short c.args.to c.lay_field-to.result _ c.args.id 6 11 (to_z-of_z w64 c.from.result fits ∙ c.from.ensures ∙ to_z-of_z w16 c.args.id c.ranges.id) c.lay_field-to.ensures.short digits in
    omega (arith, short, c.flag_value.ensures.few, c.lay.ensures.place)

pub returns-clause-spells : goal.returns-clause-spells
returns-clause-spells c = λ up w mark later there.
    let fits : FitsSigned w64 c.from.result = search rules in (
      refl,
      refl,
      flag_spelled c.args.cells.now c.lay_field-to.new.cells c.lay.new.cells c.args.to c.lay_field-to.result c.lay.result c.args.opening c.args._last _ c.args.id c.args.value
          (to_z-of_z w64 c.from.result fits ∙ c.from.ensures ∙ to_z-of_z w16 c.args.id c.ranges.id) c.lay_field-to.ensures.laid
          (c.lay.ensures.laid ∙ ap (λ xs. take c.lay_field-to.result c.lay_field-to.new.cells ++ xs) c.flag_value.ensures.word) up w there,
    )

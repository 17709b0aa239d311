use Rattle.std.proofs.Common.{◌≤◌, length, refl, rules, arith, FitsSigned, ◌∙◌}
use Rattle.std.specs.Int.{w32, w64}
use Rattle.std.specs.Fmt.{signed_decimal}
use Rattle.std.proofs.lemmas.Fmt.{length_signed_le}
use Rattle.std.proofs.lemmas.Int.{to_z-of_z}
use Rattle.thrift_value.specs.declared.kind.Kind.TheVariants as kinds
use Rattle.json_protocol.specs.WriteForms.{whole_spelled, whole_short}
use Rattle.json_protocol.proofs.write_forms.JsonWriteFormWrite.i32.Goals as goal

pub returns-clause-short : goal.returns-clause-short
returns-clause-short c =
    let fits : FitsSigned w64 c.from.result = search rules in
    let digits : length (signed_decimal c.args.value) ≤ 11 = length_signed_le 10 c.args.value (omega (arith, c.ranges.value.sfits)) (omega (arith, c.ranges.value.sfits)) in
    whole_short c.args.to c.lay_whole.result _ c.args.value 11 4 (to_z-of_z w64 c.from.result fits ∙ c.from.ensures ∙ to_z-of_z w32 c.args.value c.ranges.value) c.lay_whole.ensures.short digits

pub returns-clause-spells : goal.returns-clause-spells
returns-clause-spells c = λ opening nest mark calls w there.
    let fits : FitsSigned w64 c.from.result = search rules in (
      refl,
      whole_spelled c.args.stand kinds.I32 c.args.cells.now c.lay_whole.new.cells c.args.to c.lay_whole.result _ c.args.value
          (to_z-of_z w64 c.from.result fits ∙ c.from.ensures ∙ to_z-of_z w32 c.args.value c.ranges.value) c.lay_whole.ensures.laid opening nest w calls there,
    )

use Rattle.std.proofs.Common.{rules, arith, FitsSigned, ◌∙◌}
use Rattle.std.specs.Int.{w64}
use Rattle.std.proofs.lemmas.Int.{to_z-of_z}
use Rattle.std.proofs.lemmas.Grind.{common_steps}
use Rattle.json_protocol.specs.WriteForms.{size_short}
use Rattle.json_protocol.proofs.write_forms.lay_sequence.Goals as goal

pub returns-clause-short : goal.returns-clause-short
returns-clause-short c =
    let fits : FitsSigned w64 c.from.result = search rules in
    let digits = size_short _ c.args.size (to_z-of_z w64 c.from.result fits ∙ c.from.ensures) (omega arith) in
    omega (arith, digits, c.lay_int.ensures.place, c.lay-name.ensures.place, c.lay_name-behind.ensures.short, c.lay-number.ensures.place)

pub returns-clause-laid : goal.returns-clause-laid
returns-clause-laid c = grind (arith, common_steps)

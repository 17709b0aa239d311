use Rattle.std.proofs.Common.{refl, rules, FitsSigned}
use Rattle.std.specs.Int.{w8, w64}
use Rattle.std.proofs.lemmas.Int.{to_z-of_z}
use Rattle.thrift_value.specs.declared.kind.Kind.TheVariants as kinds
use Rattle.thrift_value.specs.Items.{i8_value}
use Rattle.protocol_traits.specs.declared.fault.Reason.TheVariants as reasons
use Rattle.json_protocol.specs.ReadForms.{value_read, i8_there}
use Rattle.json_protocol.proofs.read_forms.JsonReadFormRead.i8.Goals as goal

pub returns-clause-steps : goal.returns-clause-steps
returns-clause-steps c =
    let v = c.in_ok-value in
    let wide : FitsSigned w64 v.value = search rules in
    let fits : FitsSigned w8 v.value = search (rules, v.ensures.range) in
    rw (to_z-of_z w64 v.value wide, to_z-of_z w8 v.value fits)
    (value_read c.args.frame.now c.args.at v.behind c.args.stand kinds.I8 (i8_value v.value) refl (i8_there c.args.frame.now c.args.at v.behind c.args.stand v.value (v.ensures.found reasons.BadNumber)))

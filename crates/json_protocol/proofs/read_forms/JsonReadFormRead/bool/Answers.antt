use Rattle.std.proofs.Common.{pos, refl, rules, FitsSigned}
use Rattle.std.specs.Prelude.{int_lt}
use Rattle.std.specs.Int.{w64}
use Rattle.std.proofs.lemmas.Int.{to_z-of_z}
use Rattle.thrift_value.specs.declared.kind.Kind.TheVariants as kinds
use Rattle.thrift_value.specs.Items.{bool_value}
use Rattle.protocol_traits.specs.declared.fault.Reason.TheVariants as reasons
use Rattle.json_protocol.specs.ReadForms.{value_read, bool_there}
use Rattle.json_protocol.proofs.read_forms.JsonReadFormRead.bool.Goals as goal

pub returns-clause-steps : goal.returns-clause-steps
returns-clause-steps c =
    let v = c.in_ok-value in
    let fits : FitsSigned w64 v.value = search rules in
    rw (to_z-of_z w64 v.value fits)
    (value_read c.args.frame.now c.args.at v.behind c.args.stand kinds.Bool (bool_value (int_lt (pos 0) v.value)) refl (bool_there c.args.frame.now c.args.at v.behind c.args.stand v.value _ refl (v.ensures.found reasons.BadBool)))

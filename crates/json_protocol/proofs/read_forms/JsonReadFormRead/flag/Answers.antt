use Rattle.std.proofs.Common.{refl, rules, FitsSigned}
use Rattle.std.specs.Int.{w64}
use Rattle.std.proofs.lemmas.Int.{to_z-of_z}
use Rattle.protocol_traits.specs.declared.fault.Reason.TheVariants as reasons
use Rattle.protocol_traits.specs.declared.forms.Stand.TheVariants as stands
use Rattle.json_protocol.specs.ReadForms.{flag_read, bool_there}
use Rattle.json_protocol.proofs.read_forms.JsonReadFormRead.flag.Goals as goal

pub returns-clause-steps : goal.returns-clause-steps
returns-clause-steps c =
    let v = c.in_ok-value in
    let fits : FitsSigned w64 v.value = search rules in
    rw (to_z-of_z w64 v.value fits)
    (λ id last up first. flag_read c.args.frame.now c.args.at c.args.behind v.behind c.args.opening id last up _ first (bool_there c.args.frame.now c.args.behind v.behind stands.Field v.value _ refl (v.ensures.found reasons.BadBool)))

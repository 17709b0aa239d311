use Rattle.std.proofs.Common.{refl, rules, arith, FitsSigned}
use Rattle.std.specs.Int.{w8}
use Rattle.std.proofs.lemmas.Int.{to_z-of_z}
use Rattle.std.proofs.lemmas.List.{take_rest}
use Rattle.thrift_value.specs.declared.kind.Kind.TheVariants as kinds
use Rattle.thrift_value.specs.Items.{i8_value}
use Rattle.compact_protocol.specs.Scan.{value_at}
use Rattle.compact_protocol.specs.Forms.{front_read}
use Rattle.compact_protocol.proofs.read_forms.CompactReadFormRead.i8.Goals as goal

pub returns-clause-steps : goal.returns-clause-steps
unfolding value_at
returns-clause-steps c =
    let fits : FitsSigned w8 c.in_ok-value.value = search rules in
    rw (to_z-of_z w8 c.in_ok-value.value fits) (front_read c.args.frame.now c.args.at 1 c.args.stand kinds.I8 (i8_value c.in_ok-value.value) refl (λ _. refl) (omega arith) (rw take_rest at c.in_ok-value.ensures))

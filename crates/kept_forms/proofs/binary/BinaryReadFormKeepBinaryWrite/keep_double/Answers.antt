use Rattle.std.proofs.Common.{refl, arith}
use Rattle.thrift_value.specs.declared.kind.Kind.TheVariants as kinds
use Rattle.thrift_value.specs.Items.{double_value}
use Rattle.std.specs.Int.{w64, to_be_bytes}
use Rattle.kept_forms.proofs.InBinary.{value_spelled}
use Rattle.kept_forms.proofs.binary.BinaryReadFormKeepBinaryWrite.keep_double.Goals as goal

pub returns-clause-keeps : goal.returns-clause-keeps
returns-clause-keeps c =
    let found = c.in_ok-behind in (
      to_be_bytes w64 found.field-0-0,
      found.ensures.steps,
      value_spelled c.args.frame.now c.args.at found.behind c.args.stand kinds.Double (double_value (to_be_bytes w64 found.field-0-0)) c.type_inv.frame (omega (arith, found.ensures.past.0)) (λ mark. refl) (λ mark is. is) found.ensures.steps,
    )

use Rattle.std.proofs.Common.{refl, arith}
use Rattle.thrift_value.specs.declared.kind.Kind.TheVariants as kinds
use Rattle.thrift_value.specs.Items.{uuid_value}
use Rattle.protocol_traits.specs.Forms.{part}
use Rattle.kept_forms.proofs.InBinary.{value_spelled}
use Rattle.kept_forms.proofs.binary.BinaryReadFormKeepBinaryWrite.keep_uuid.Goals as goal

pub returns-clause-keeps : goal.returns-clause-keeps
returns-clause-keeps c =
    let found = c.in_ok-span in
    let bytes = part c.args.frame.now found.span.begin found.span.end in
    (bytes, c.in_ok-span.ensures.steps, value_spelled c.args.frame.now c.args.at found.span.behind c.args.stand kinds.Uuid (uuid_value bytes) c.type_inv.frame (omega (arith, found.ensures.past.0)) (λ mark. refl) (λ mark is. is) c.in_ok-span.ensures.steps)

use Rattle.std.proofs.Common.{refl, arith}
use Rattle.thrift_value.specs.declared.kind.Kind.TheVariants as kinds
use Rattle.thrift_value.specs.Items.{text}
use Rattle.protocol_traits.specs.declared.proto.Hint.TheVariants as hints
use Rattle.protocol_traits.specs.Forms.{part}
use Rattle.kept_forms.proofs.InBinary.{value_spelled, text_steps}
use Rattle.kept_forms.proofs.binary.BinaryReadFormKeepBinaryWrite.keep_text.Goals as goal

pub returns-clause-keeps : goal.returns-clause-keeps
returns-clause-keeps c =
    let found = c.in_ok-span in
    let bytes = part c.args.frame.now found.span.begin found.span.end in
    let steps = text_steps c.args.frame.now c.args.at found.span.behind c.args.stand bytes hints.Unknown found.ensures.steps in
    (bytes, steps, value_spelled c.args.frame.now c.args.at found.span.behind c.args.stand kinds.Str (text bytes) c.type_inv.frame (omega (arith, found.ensures.past.0)) (λ mark. refl) (λ mark is. is) steps)

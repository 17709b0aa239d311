use Rattle.std.proofs.Common.{◌+◌, refl, arith}
use Rattle.thrift_value.specs.declared.kind.Kind.TheVariants as kinds
use Rattle.compact_protocol.specs.Forms.{value_read, text_there}
use Rattle.compact_protocol.proofs.read_forms.CompactReadFormRead.short_text.Goals as goal

pub returns-clause-steps : goal.returns-clause-steps
returns-clause-steps c = λ opening nest known plain.
    value_read c.args.frame.now c.args.at (c.args.at + 1 + c.in_ok-size.size) c.args.stand kinds.Str _ refl (λ _. refl)
    (text_there c.args.frame.now c.args.at c.in_ok-size.size (c.args.at + 1) c.in_ok-size.ensures.found c.in_ok-size.ensures.within) opening nest known

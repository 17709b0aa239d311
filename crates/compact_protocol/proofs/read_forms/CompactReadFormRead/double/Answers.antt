use Rattle.std.proofs.Common.{refl, arith}
use Rattle.std.specs.Int.{w64, to_be_bytes}
use Rattle.std.proofs.lemmas.List.{take_rest}
use Rattle.thrift_value.specs.declared.kind.Kind.TheVariants as kinds
use Rattle.thrift_value.specs.Items.{double_value}
use Rattle.compact_protocol.specs.Scan.{value_at}
use Rattle.compact_protocol.specs.Forms.{front_read}
use Rattle.compact_protocol.proofs.read_forms.CompactReadFormRead.double.Goals as goal

pub returns-clause-steps : goal.returns-clause-steps
unfolding value_at
returns-clause-steps c = front_read c.args.frame.now c.args.at 8 c.args.stand kinds.Double (double_value (to_be_bytes w64 c.in_ok-value.value)) refl (λ _. refl) (omega arith) (rw take_rest at c.in_ok-value.ensures)

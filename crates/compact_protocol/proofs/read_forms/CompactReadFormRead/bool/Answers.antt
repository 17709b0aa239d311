use Rattle.std.proofs.Common.{refl, arith}
use Rattle.std.proofs.lemmas.List.{take_rest}
use Rattle.thrift_value.specs.declared.kind.Kind.TheVariants as kinds
use Rattle.thrift_value.specs.Items.{bool_value}
use Rattle.compact_protocol.specs.Scan.{value_at}
use Rattle.compact_protocol.specs.Forms.{front_read}
use Rattle.compact_protocol.proofs.read_forms.CompactReadFormRead.bool.Goals as goal

pub returns-clause-steps : goal.returns-clause-steps
unfolding value_at
returns-clause-steps c = front_read c.args.frame.now c.args.at 1 c.args.stand kinds.Bool (bool_value c.in_ok-value.value) refl (λ e. absurd (c.requires.apart e)) (omega arith) (rw take_rest at c.in_ok-value.ensures)

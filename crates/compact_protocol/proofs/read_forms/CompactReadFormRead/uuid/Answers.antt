use Rattle.std.proofs.Common.{◌+◌, refl, arith}
use Rattle.thrift_value.specs.declared.kind.Kind.TheVariants as kinds
use Rattle.compact_protocol.specs.Forms.{value_read, uuid_there}
use Rattle.compact_protocol.proofs.read_forms.CompactReadFormRead.uuid.Goals as goal

pub returns-clause-steps : goal.returns-clause-steps
returns-clause-steps c = value_read c.args.frame.now c.args.at (c.args.at + 16) c.args.stand kinds.Uuid _ refl (λ _. refl) (uuid_there c.args.frame.now c.args.at (omega arith))

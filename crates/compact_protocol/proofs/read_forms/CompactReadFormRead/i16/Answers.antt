use Rattle.std.proofs.Common.{refl}
use Rattle.thrift_value.specs.declared.kind.Kind.TheVariants as kinds
use Rattle.thrift_value.specs.Items.{i16_value}
use Rattle.compact_protocol.specs.Forms.{value_seen}
use Rattle.compact_protocol.proofs.read_forms.CompactReadFormRead.i16.Goals as goal

pub returns-clause-steps : goal.returns-clause-steps
returns-clause-steps c = value_seen c.args.frame.now c.args.at c.args.stand kinds.I16 i16_value c.i16_from.result refl refl c.i16_from.ensures

use Rattle.std.proofs.Common.{refl}
use Rattle.thrift_value.specs.declared.kind.Kind.TheVariants as kinds
use Rattle.thrift_value.specs.Items.{i32_value}
use Rattle.compact_protocol.specs.Forms.{value_seen}
use Rattle.compact_protocol.proofs.read_forms.CompactReadFormRead.i32.Goals as goal

pub returns-clause-steps : goal.returns-clause-steps
returns-clause-steps c = value_seen c.args.frame.now c.args.at c.args.stand kinds.I32 i32_value c.i32_from.result refl refl c.i32_from.ensures

use Rattle.std.proofs.Common.{refl}
use Rattle.thrift_value.specs.declared.kind.Kind.TheVariants as kinds
use Rattle.thrift_value.specs.Items.{i64_value}
use Rattle.compact_protocol.specs.Forms.{value_seen}
use Rattle.compact_protocol.proofs.read_forms.CompactReadFormRead.i64.Goals as goal

pub returns-clause-steps : goal.returns-clause-steps
returns-clause-steps c = value_seen c.args.frame.now c.args.at c.args.stand kinds.I64 i64_value c.i64_from.result refl refl c.i64_from.ensures

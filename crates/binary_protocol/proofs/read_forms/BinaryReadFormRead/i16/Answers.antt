use Rattle.std.proofs.Common.{refl, arith}
use Rattle.thrift_value.specs.declared.kind.Kind.TheVariants as kinds
use Rattle.thrift_value.specs.Items.{i16_value}
use Rattle.binary_protocol.specs.Scan.{value_at}
use Rattle.binary_protocol.proofs.Places.{value_past, value_seen}
use Rattle.binary_protocol.proofs.read_forms.BinaryReadFormRead.i16.Goals as goal

pub returns-clause-past : goal.returns-clause-past
unfolding value_at
returns-clause-past c =
    value_past c.args.frame.now c.args.at 2 kinds.I16 i16_value c.i16_from.result c.requires (omega arith) c.i16_from.ensures.place c.i16_from.ensures.found

pub returns-clause-steps : goal.returns-clause-steps
unfolding value_at
returns-clause-steps c =
    value_seen c.args.frame.now c.args.at 2 c.args.stand kinds.I16 i16_value c.i16_from.result refl c.i16_from.ensures.place c.i16_from.ensures.found

use Rattle.std.proofs.Common.{refl, arith}
use Rattle.thrift_value.specs.declared.kind.Kind.TheVariants as kinds
use Rattle.protocol_traits.specs.Forms.{double_item}
use Rattle.binary_protocol.specs.Scan.{value_at}
use Rattle.binary_protocol.proofs.Places.{value_past, value_seen}
use Rattle.binary_protocol.proofs.read_forms.BinaryReadFormRead.double.Goals as goal

pub returns-clause-past : goal.returns-clause-past
unfolding value_at
returns-clause-past c =
    value_past c.args.frame.now c.args.at 8 kinds.Double double_item c.double_from.result c.requires (omega arith) c.double_from.ensures.place c.double_from.ensures.found

pub returns-clause-steps : goal.returns-clause-steps
unfolding value_at
returns-clause-steps c =
    value_seen c.args.frame.now c.args.at 8 c.args.stand kinds.Double double_item c.double_from.result refl c.double_from.ensures.place c.double_from.ensures.found

use Rattle.std.proofs.Common.{◌≤◌, length, drop, refl, arith, length-drop}
use Rattle.thrift_value.specs.declared.kind.Kind.TheVariants as kinds
use Rattle.binary_protocol.specs.Forms.{value_read, uuid_there}
use Rattle.binary_protocol.proofs.read_forms.BinaryReadFormRead.uuid.Goals as goal

pub returns-clause-steps : goal.returns-clause-steps
returns-clause-steps c =
    let long : 16 ≤ length (drop c.args.at c.args.frame.now) = omega (arith, length-drop c.args.at c.args.frame.now) in
    value_read c.args.frame.now c.args.at 16 c.args.stand kinds.Uuid _ refl (uuid_there c.args.frame.now c.args.at long)

use Rattle.std.proofs.Common.{arith}
use Rattle.thrift_value.specs.declared.kind.Kind.TheVariants as kinds
use Rattle.thrift_value.specs.Items.{struct_begin}
use Rattle.json_protocol.specs.ReadForms.{leads_past, level_read, struct_there}
use Rattle.json_protocol.proofs.read_forms.JsonReadFormRead.struct_begin.Goals as goal

pub returns-clause-within : goal.returns-clause-within
returns-clause-within c =
    let brace = c.in_ok-behind.ensures in
    (omega (arith, leads_past c.args.stand c.args.frame.now c.args.at c.in_ok-place.place c.in_ok-place.ensures, brace.1), omega (arith, brace.2))

pub returns-clause-steps : goal.returns-clause-steps
returns-clause-steps c =
    level_read c.args.frame.now c.args.at c.in_ok-behind.behind c.args.stand kinds.Struct struct_begin (struct_there c.args.frame.now c.args.at c.in_ok-place.place c.in_ok-behind.behind c.args.stand c.in_ok-place.ensures c.in_ok-behind.ensures)

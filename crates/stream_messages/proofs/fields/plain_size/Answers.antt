use Rattle.std.proofs.Common.{arith, sym, subst}
use Rattle.stream_messages.specs.Fields.{IsValue}
use Rattle.stream_messages.proofs.Whole.{whole_bytes}
use Rattle.stream_messages.proofs.FieldLaws.{plain_value}
use Rattle.stream_messages.proofs.fields.plain_size.Goals as goal

pub returns : goal.returns
returns c =
    subst (λ n. IsValue c.args.kind c.args.bytes.now n) (sym c.width-size.ensures)
    (plain_value c.args.kind c.args.bytes.now (whole_bytes c.args.bytes.now (λ i. omega (arith, c.type_inv.bytes i)))
    (omega (arith, c.width-size.ensures, c.if-size-eq0.false)) (omega (arith, c.width-size.ensures, c.if-bytes-size.false)))

use Rattle.std.proofs.Common.{arith}
use Rattle.stream_messages.proofs.Whole.{whole_bytes}
use Rattle.stream_messages.proofs.FieldLaws.{text_is}
use Rattle.stream_messages.proofs.fields.text_size.Goals as goal

pub returns : goal.returns
returns c =
    text_is c.args.bytes.now c.in_ok-size.size (whole_bytes c.args.bytes.now (λ i. omega (arith, c.type_inv.bytes i))) c.in_ok-size.ensures.reads (omega (arith, c.in_ok-size.ensures.within, c.if-bytes-size.false))

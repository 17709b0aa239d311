use Rattle.std.proofs.Common.{rules, ◌+◌, ◌∙◌, ap, sym, arith}
use Rattle.binary_protocol.specs.Scan.{size_at}
use Rattle.stream_messages.proofs.Pieces.{from_here}
use Rattle.stream_messages.proofs.Whole.{whole_bytes}
use Rattle.stream_messages.proofs.FieldLaws.{header_is}
use Rattle.stream_messages.proofs.fields.header_size.Goals as goal

pub returns : goal.returns
returns c =
    header_is c.args.bytes.now c.in_ok-name.name ((8 + c.in_ok-name.name) + 4) c.in_ok-message_type.field-0 (whole_bytes c.args.bytes.now (λ i. omega (arith, c.type_inv.bytes i)))
    (search rules) (search rules) (search rules)
    (ap (λ l. size_at l) (sym (from_here 4 c.args.bytes.now)) ∙ c.in_ok-name.ensures.reads) (omega arith) (omega (arith, c.if-bytes-size.false))

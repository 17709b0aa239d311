use Rattle.std.proofs.Common.{rules, arith}
use Rattle.stream_messages.proofs.Whole.{whole_bytes}
use Rattle.stream_messages.proofs.FieldLaws.{head_is}
use Rattle.stream_messages.proofs.fields.field_head.Goals as goal

pub returns : goal.returns
returns c =
    head_is c.args.nest.now c.args.bytes.now c.in-Some-Fields.field-0-0 c.in_ok-kind.kind _ (whole_bytes c.args.bytes.now (λ i. omega (arith, c.type_inv.bytes i)))
    (search rules) (omega (arith, c.depth.ensures.depth, c.if-depth-ge-DEPTH.false)) (omega (arith, c.if-bytes-lt-FIELD_HEAD.false)) (search rules) (search rules)

use Rattle.std.proofs.Common.{◌<◌, length, arith}
use Rattle.std.proofs.lemmas.Bool.Decides.{nat_tests}
use Rattle.stream_messages.proofs.Whole.{whole_bytes}
use Rattle.stream_messages.proofs.FieldLaws.{bool_is}
use Rattle.stream_messages.proofs.fields.bool_size.Goals as goal

pub returns : goal.returns
returns c =
    let some : 0 < length c.args.bytes.now = grind (arith, nat_tests, c.is_empty.ensures, c.if-is_empty.false) in
    bool_is c.args.bytes.now (whole_bytes c.args.bytes.now (λ i. omega (arith, c.type_inv.bytes i))) (omega (arith, some)) (omega (arith, c.if-bytes-gt1.false))

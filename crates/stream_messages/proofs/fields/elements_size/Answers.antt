use Rattle.std.proofs.Common.{rules, ◌∙◌, ap, sym, arith}
use Rattle.std.proofs.lemmas.Bool.Decides.{nat_tests}
use Rattle.std.proofs.lemmas.Grind.{common_steps}
use Rattle.binary_protocol.specs.Scan.{size_at}
use Rattle.stream_messages.proofs.Pieces.{from_here}
use Rattle.stream_messages.proofs.FieldLaws.{elements_are}
use Rattle.stream_messages.proofs.fields.elements_size.Goals as goal

pub returns : goal.returns
returns c =
    elements_are c.args.bytes.now c.in_ok-binary_kind.field-0 c.in_ok-count.count c.in_ok-size.size
    (grind (arith, nat_tests, c.is_empty.ensures, c.if-is_empty.false)) (search rules) (ap (λ l. size_at l) (sym (from_here 1 c.args.bytes.now)) ∙ c.in_ok-count.ensures.reads)
    (omega (arith, c.width-wide.ensures, c.if-wide-eq0.false)) (search rules) (omega (arith, c.if-bytes-size.false))

pub returns-in_err-checked_mul : goal.returns-in_err-checked_mul
returns-in_err-checked_mul c = grind (arith, common_steps)

pub returns-in_err-size : goal.returns-in_err-size
returns-in_err-size c = grind (arith, common_steps)

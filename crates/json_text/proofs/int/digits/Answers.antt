use Rattle.std.proofs.Common.{arith, ◌∙◌, sym}
use Rattle.std.proofs.lemmas.Bool.Decides.{nat_tests}
use Rattle.json_text.proofs.Ints.{digits_step, digits_done}
use Rattle.json_text.proofs.int.digits.Goals as goal

pub returns-then-not-is_ascii_digit : goal.returns-then-not-is_ascii_digit
returns-then-not-is_ascii_digit c = let l = c.loop-byte in let step = digits_step c.args.bytes.now l.byte-index l.value (omega arith) in grind (arith, nat_tests, step, l.invariant.0)

pub loop-byte-preserved : goal.loop-byte-preserved
loop-byte-preserved c =
    let l = c.loop-byte in
    let step = digits_step c.args.bytes.now l.byte-index l.value (omega arith) in
    (l.invariant.0 ∙ step ∙ grind (arith, nat_tests), grind (arith, nat_tests))

pub returns : goal.returns
returns c = let l = c.loop-byte in sym (l.invariant.0 ∙ digits_done c.args.bytes.now l.byte-index l.value (omega arith))

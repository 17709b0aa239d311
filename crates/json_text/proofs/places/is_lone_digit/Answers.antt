use Rattle.std.proofs.Common.{arith}
use Rattle.std.proofs.lemmas.Bool.Decides.{nat_tests}
use Rattle.std.proofs.lemmas.Grind.{common_steps}
use Rattle.json_text.proofs.PlainInts.{one_digit_run}
use Rattle.json_text.proofs.places.is_lone_digit.Goals as goal

pub returns-else-not-is_ascii_digit-clause-run : goal.returns-else-not-is_ascii_digit-clause-run
returns-else-not-is_ascii_digit-clause-run c = λ e. one_digit_run c.args.bytes.now c.args.at (omega arith) (grind (arith, nat_tests)) (grind (arith, nat_tests)) (λ sign. absurd (grind (arith, nat_tests, e, sign)))

pub returns-then-not-is_ascii_digit-clause-run : goal.returns-then-not-is_ascii_digit-clause-run
returns-then-not-is_ascii_digit-clause-run c = grind (arith, common_steps)

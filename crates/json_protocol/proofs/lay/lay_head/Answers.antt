use Rattle.std.proofs.Common.{◌≤ℤ◌, ◌<ℤ◌, pos, length, ap, arith}
use Rattle.std.proofs.lemmas.Bool.Decides.{nat_tests}
use Rattle.std.proofs.lemmas.Grind.{common_steps}
use Rattle.json_protocol.proofs.LaidWords.{one_digit}
use Rattle.json_protocol.proofs.lay.lay_head.Goals as goal

pub returns-then-id-lt10-clause-short : goal.returns-then-id-lt10-clause-short
returns-then-id-lt10-clause-short c =
    let low : pos 0 ≤ℤ c.args.id = grind (arith, nat_tests, c.if-id-ge0.true) in
    let high : c.args.id <ℤ pos 10 = grind (arith, nat_tests, c.if-id-lt10.true) in
    omega (arith, ap length (one_digit c.args.id low high), c.lay_short_head.ensures.short)

pub returns-clause-laid : goal.returns-clause-laid
returns-clause-laid c = grind (arith, common_steps)

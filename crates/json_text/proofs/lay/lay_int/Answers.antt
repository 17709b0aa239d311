use Rattle.std.proofs.Common.{arith}
use Rattle.std.proofs.lemmas.Fmt.{length-decimal-le}
use Rattle.json_text.proofs.lay.lay_int.Goals as goal

pub returns-clause-short : goal.returns-clause-short
returns-clause-short c =
    let few = length-decimal-le 19 c.unsigned_abs.result (omega arith) (omega (arith, c.unsigned_abs.ensures.bound)) (omega (arith, c.unsigned_abs.ensures.bound)) in
    omega (arith, few, c.lay_sign-digits.ensures.short, c.lay_number.ensures.place)

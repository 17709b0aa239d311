use Rattle.std.proofs.Common.{arith, rules, FitsSigned}
use Rattle.std.specs.Int.{w32}
use Rattle.std.proofs.lemmas.Int.{to_z-of_z}
use Rattle.compact_protocol.specs.Forms.{number_at}
use Rattle.compact_protocol.proofs.Headers.{front_there}
use Rattle.compact_protocol.proofs.forms.front_from.Goals as goal
use Rattle.std.proofs.lemmas.Grind.{common_steps}

pub returns-clause-found : goal.returns-clause-found
returns-clause-found c =
    let number = c.in_ok-number in
    let fits : FitsSigned w32 c.cast_signed.result = search rules in
    rw (to_z-of_z w32 c.cast_signed.result fits) (rw c.cast_signed.ensures (front_there c.args.frame.now c.in_ok-mtype.mtype number.number number.behind c.in_ok-mtype.ensures.found
    (number_at c.args.frame.now 2 5 32 number.number number.behind c.in_ok-mtype.ensures.long number.ensures.exact)))

pub returns-in_err-number-clause-within : goal.returns-in_err-number-clause-within
returns-in_err-number-clause-within c = grind (arith, common_steps)

pub returns-in_err-number-clause-found : goal.returns-in_err-number-clause-found
returns-in_err-number-clause-found c = grind (arith, common_steps)

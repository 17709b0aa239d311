use Rattle.std.proofs.Common.{arith, rules, FitsSigned}
use Rattle.std.specs.Int.{w64}
use Rattle.std.proofs.lemmas.Int.{to_z-of_z}
use Rattle.json_text.proofs.PlainInts.{begins_there, signed_there}
use Rattle.json_text.proofs.places.plain_int.Goals as goal

pub returns-clause-begins : goal.returns-clause-begins
returns-clause-begins c = begins_there c.args.bytes.now c.args.at c.sign_at-sign.result c.sign_at-sign.ensures.other c.in_ok-size.ensures.begins

pub returns-clause-found : goal.returns-clause-found
returns-clause-found c =
    let fits : FitsSigned w64 c.signed.result = search rules in
    let d = c.in_ok-size in
    let s = c.sign_at-sign in
    rw (to_z-of_z w64 c.signed.result fits)
    (λ low high a b. signed_there c.args.bytes.now c.args.at d.«end» s.result d.size _ c.signed.result low high s.ensures.minus s.ensures.other d.ensures.inside.0 d.ensures.inside.1 d.ensures.begins d.ensures.run d.ensures.value (omega (arith, s.ensures.small)) (omega (arith, s.ensures.small))
    c.signed.ensures.plus c.signed.ensures.minus a b)

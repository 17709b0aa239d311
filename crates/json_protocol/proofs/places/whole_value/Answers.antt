use Rattle.std.proofs.Common.{◌≤ℤ◌, arith, rules, FitsSigned}
use Rattle.std.specs.Int.{w64}
use Rattle.std.proofs.lemmas.Bool.Decides.{nat_tests}
use Rattle.std.proofs.lemmas.Int.{to_z-of_z}
use Rattle.std.proofs.lemmas.Grind.{common_steps}
use Rattle.protocol_traits.specs.declared.fault.Reason.TheVariants as reasons
use Rattle.json_protocol.specs.ReadForms.{leads_past}
use Rattle.json_protocol.proofs.places.whole_value.Goals as goal

pub returns-clause-past : goal.returns-clause-past
returns-clause-past c =
    let low : c.args.low ≤ℤ c.in_ok-value.value = grind (arith, nat_tests, c.if-value-low.false) in
    let high : c.in_ok-value.value ≤ℤ c.args.high = grind (arith, nat_tests, c.if-high-value.false) in
    let found = c.in_ok-value.ensures.found reasons.BadNumber c.args.low c.args.high low high in
    (omega (arith, leads_past c.args.stand c.args.frame.now c.args.at c.in_ok-begin.begin c.in_ok-begin.ensures, found.1.0), omega (arith, found.1.1))

pub returns-clause-found : goal.returns-clause-found
returns-clause-found c =
    let fits : FitsSigned w64 c.in_ok-value.value = search rules in
    let low : c.args.low ≤ℤ c.in_ok-value.value = grind (arith, nat_tests, c.if-value-low.false) in
    let high : c.in_ok-value.value ≤ℤ c.args.high = grind (arith, nat_tests, c.if-high-value.false) in
    rw (to_z-of_z w64 c.in_ok-value.value fits, ← c.stand_key.ensures)
    (λ reason. record { begin = c.in_ok-begin.begin; leads = c.in_ok-begin.ensures; solid = c.in_ok-value.ensures.solid; found = c.in_ok-value.ensures.found reason c.args.low c.args.high low high })

pub returns-clause-range : goal.returns-clause-range
returns-clause-range c = grind (arith, common_steps)

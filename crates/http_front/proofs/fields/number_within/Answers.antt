use Rattle.std.proofs.Common.{arith, ◌+◌, ℕ, drop, ap, ◌∙◌, sym}
use Rattle.std.proofs.lemmas.List.{at_drop_more}
use Rattle.std.specs.Str.Parse.{digits_value_after}
use Rattle.std.proofs.lemmas.Grind.{common_steps}
use Rattle.http_front.proofs.Naming.{past_limit}
use Rattle.http_front.proofs.fields.number_within.Goals as goal

pub returns-then-number-limit : goal.returns-then-number-limit
returns-then-number-limit c =
    past_limit _ c.args.limit c.with_digit-number.result _ (drop (c.digits.digit-index + 1) c.args.digits.now)
    (ap (λ (n : ℕ). digits_value_after 10 n (drop (c.digits.digit-index + 1) c.args.digits.now)) c.with_digit-number.ensures
    ∙ (sym (at_drop_more (digits_value_after 10 c.digits.number) c.args.digits.now c.digits.digit-index _ c.digits-test.true) ∙ c.digits.invariant.0))
    c.if-number-limit.true

pub digits-preserved : goal.digits-preserved
digits-preserved c = grind (arith, common_steps)

pub returns-then-not-is_ascii_digit : goal.returns-then-not-is_ascii_digit
returns-then-not-is_ascii_digit c = grind (arith, common_steps)

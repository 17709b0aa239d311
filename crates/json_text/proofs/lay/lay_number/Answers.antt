use Rattle.std.proofs.Common.{◌++◌, length, take, sym, ap, ◌∙◌, arith}
use Rattle.std.proofs.lemmas.Fmt.{decimal_digit}
use Rattle.json_text.proofs.lay.lay_number.Goals as goal

pub returns-then-value-lt10-clause-laid : goal.returns-then-value-lt10-clause-laid
returns-then-value-lt10-clause-laid c = c.lay.ensures.laid ∙ ap (λ xs. take c.args.to c.args.cells.now ++ xs) (sym (decimal_digit c.args.value c.if-value-lt10.true))

pub returns-then-value-lt10-clause-place : goal.returns-then-value-lt10-clause-place
returns-then-value-lt10-clause-place c = omega (arith, c.lay.ensures.place, ap length (decimal_digit c.args.value c.if-value-lt10.true))

use Rattle.std.proofs.Common.{arith, sym}
use Rattle.std.proofs.lemmas.List.{length-take-le, take_all}
use Rattle.refusal_lines.specs.declared.header.TheConstants.{NAME_BYTES}
use Rattle.refusal_lines.proofs.header.front_of.Goals as goal

pub slice_bounds-result-end : goal.slice_bounds-result-end
slice_bounds-result-end c = sym (length-take-le NAME_BYTES c.args.name.now (omega (arith, c.if-name-gt-NAME_BYTES.true)))

pub returns-then-name-gt-NAME_BYTES-clause-short : goal.returns-then-name-gt-NAME_BYTES-clause-short
returns-then-name-gt-NAME_BYTES-clause-short c = omega (arith, length-take-le NAME_BYTES c.args.name.now (omega (arith, c.if-name-gt-NAME_BYTES.true)))

pub returns-else-name-gt-NAME_BYTES-clause-front : goal.returns-else-name-gt-NAME_BYTES-clause-front
returns-else-name-gt-NAME_BYTES-clause-front c = sym (take_all NAME_BYTES c.args.name.now (omega (arith, c.if-name-gt-NAME_BYTES.false)))

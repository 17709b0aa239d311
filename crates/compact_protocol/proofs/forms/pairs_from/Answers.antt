use Rattle.std.proofs.Common.{arith, sym, ap, ◌∙◌}
use Rattle.thrift_value.specs.declared.kind.Kind.TheVariants as kinds
use Rattle.compact_protocol.specs.Codes.{kind_of}
use Rattle.compact_protocol.specs.Forms.{blank_there, pairs_there}
use Rattle.compact_protocol.proofs.forms.pairs_from.Goals as goal
use Rattle.std.proofs.lemmas.Grind.{common_steps}

pub returns-then-size-eq0-clause-found : goal.returns-then-size-eq0-clause-found
returns-then-size-eq0-clause-found c =
    rw (c.if-size-eq0.true) (blank_there c.args.frame.now c.args.at c.in_ok-size.mid kinds.Bool kinds.Bool (rw (c.if-size-eq0.true) at c.in_ok-size.ensures.found))

pub returns-then-frame-mid-clause-found : goal.returns-then-frame-mid-clause-found
returns-then-frame-mid-clause-found c =
    pairs_there c.args.frame.now c.args.at c.in_ok-size.size c.in_ok-size.mid kinds.Str c.in_ok-value.value c.in_ok-size.ensures.found (omega arith) (omega arith)
    (sym (ap kind_of (c.if-frame-mid.true ∙ c.code_of.ensures.code))) c.in_ok-value.ensures

pub returns-clause-found : goal.returns-clause-found
returns-clause-found c =
    pairs_there c.args.frame.now c.args.at c.in_ok-size.size c.in_ok-size.mid c.in_ok-key.key c.in_ok-value-2.value c.in_ok-size.ensures.found (omega arith) (omega arith) c.in_ok-key.ensures c.in_ok-value-2.ensures

pub returns-in_err-key-clause-found : goal.returns-in_err-key-clause-found
returns-in_err-key-clause-found c = grind (arith, common_steps)

pub returns-in_err-value-clause-found : goal.returns-in_err-value-clause-found
returns-in_err-value-clause-found c = grind (arith, common_steps)

pub returns-clause-long : goal.returns-clause-long
returns-clause-long c = grind (arith, common_steps)

pub returns-in_err-value-clause-long : goal.returns-in_err-value-clause-long
returns-in_err-value-clause-long c = grind (arith, common_steps)

pub returns-in_err-key-clause-long : goal.returns-in_err-key-clause-long
returns-in_err-key-clause-long c = grind (arith, common_steps)

use Rattle.std.proofs.Common.{sym, ap, ◌∙◌}
use Rattle.thrift_value.specs.declared.kind.Kind.TheVariants as kinds
use Rattle.binary_protocol.specs.Codes.{kind_of_code}
use Rattle.binary_protocol.proofs.Places.{kinds_found}
use Rattle.binary_protocol.proofs.forms.pairs_from.Goals as goal

pub returns-then-frame-at-clause-found : goal.returns-then-frame-at-clause-found
returns-then-frame-at-clause-found c =
    kinds_found c.args.frame.now c.args.at c.in_ok-size.size kinds.Str c.in_ok-value.value c.in_ok-size.ensures.found (sym (ap kind_of_code (c.if-frame-at.true ∙ c.code_of_kind.ensures))) c.in_ok-value.ensures

pub returns-clause-found : goal.returns-clause-found
returns-clause-found c =
    kinds_found c.args.frame.now c.args.at c.in_ok-size.size c.in_ok-key.key c.in_ok-value-2.value c.in_ok-size.ensures.found c.in_ok-key.ensures c.in_ok-value-2.ensures

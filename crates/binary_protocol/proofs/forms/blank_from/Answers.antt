use Rattle.std.proofs.Common.{sym, ◌∙◌}
use Rattle.thrift_value.specs.declared.kind.Kind.TheVariants as kinds
use Rattle.binary_protocol.proofs.Places.{none_found}
use Rattle.binary_protocol.proofs.forms.blank_from.Goals as goal

pub returns-clause-found : goal.returns-clause-found
returns-clause-found c =
    none_found c.args.frame.now c.args.at kinds.Bool kinds.Bool c.requires.size (sym c.is_bad_kind.ensures ∙ c.if-is_bad_kind.false) (sym c.is_bad_kind-else-is_bad_kind.ensures ∙ c.if-is_bad_kind-2.false)

use Rattle.std.proofs.Common.{◌≡◌, drop}
use Rattle.idl_rules.specs.Order.{lesser, least_of}
use Rattle.idl_rules.specs.Values.{refused_values, values_from, value_refusals}
use Rattle.idl_rules.proofs.values.check_values.Given as goal

abbrev pub invariant-loop-member : goal.invariant-loop-member
invariant-loop-member l =
    lesser l.least (least_of (refused_values (values_from l.next (drop l.member-index l.members))))
    ≡ lesser l.initial.least (least_of (value_refusals l.members))

use Rattle.std.proofs.Common.{◌≡◌, map, drop}
use Rattle.idl_rules.specs.Doubles.{repeated, double_names}
use Rattle.idl_rules.specs.Order.{lesser, least_of}
use Rattle.idl_rules.proofs.doubles.check_names.Given as goal

abbrev pub invariant-loop-item : goal.invariant-loop-item
invariant-loop-item g l =
    lesser l.least (least_of (repeated l.row l.seen (map g.T.Named.named (drop l.item-index l.list))))
    ≡ lesser l.initial.least (least_of (double_names l.row (map g.T.Named.named l.list)))
